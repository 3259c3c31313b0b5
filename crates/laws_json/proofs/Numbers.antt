-- The texts of records and rows: their numbers, how deep they nest, and that their strings are UTF-8.
use Rattle.std.proofs.Common.{◌≡◌, ℕ, ℤ, pos, negsuc, suc, ◌<◌, ◌≤◌, ◌^◌, true, List, [], ◌∷◌, map, Option, Some, None, refl, sym, subst, arith}
use Rattle.std.specs.Prelude.{All, codes}
use Rattle.std.specs.Option.{option_map_or}
use Rattle.std.specs.Fmt.{signed_decimal}
use Rattle.std.specs.List.{zip}
use lib.Signed.{mag}
use Rattle.std.proofs.lemmas.List.Elements.{All-head, All-tail}
use Rattle.json.specs.Json.{Json, null, boolean, number, string, array, object, Items, no_items, item, Members, no_members, member}
use Rattle.json.specs.Print.{IsNumber}
use Rattle.json.specs.Tree.{depth, items_depth, members_depth}
use Rattle.json.specs.Value.{items_of}
use Rattle.json.proofs.Printed.Decimals.{IsNumber-signed_decimal}
use Rattle.ipfix_elements.specs.Elements.{Entry, entry_of}
use Rattle.ipfix_elements.specs.declared.cell.Cell.{Cell}
use Rattle.ipfix_elements.specs.declared.kind.Kind.TheVariants.{Octets}
use Rattle.ipfix_elements.specs.declared.kind.Width.{Width}
use Rattle.ipfix_wire.specs.declared.specifier.ElementId.{ElementId}
use Rattle.element_registry.specs.Registries.{Known, element_kind, element_name}
use Rattle.element_registry.specs.declared.kind.ElementKind.TheVariants.{Plain, Signed}
use Rattle.ipfix_message.specs.DataRecords.{HasOctets}
use Rattle.ipfix_message.specs.Fields.{Field}
use Rattle.ipfix_message.specs.declared.record.DataRecord.{DataRecord}
use Rattle.flow_export.specs.PlainNames.{have_plain_names}
use Rattle.laws_json.specs.Objects.{members_of, object_of, object_of_field, object_with, record_names, record_values, value_of, value_of_cell}
use Rattle.laws_json.specs.Texts.{IsDecimal, IsExact, ItemsAre, MembersAre, TextsAre}
use Rattle.laws_json.proofs.Plain.{AllPlain, AreOctets, HasAddress, name_plain}
use Rattle.laws_json.proofs.Reading.{Utf8}
use Rattle.laws_json.proofs.Strings.{plain_utf8}
use Rattle.laws_json.proofs.Tests.{decimal_passes, Inside, stays_in}
use Rattle.laws_json.proofs.Values.{cell_written, value_written}

-- ---- what holds of texts, and what follows from it

module _ (N M S T : List ℕ → Type 0) (numbers : (s : List ℕ) → N s → M s) (strings : (s : List ℕ) → S s → T s) where
  mutual
    pub texts_are : (j : Json) → TextsAre N S j → TextsAre M T j
    texts_are null h = tt
    texts_are (boolean b) h = tt
    texts_are (number s) h = numbers s h
    texts_are (string s) h = strings s h
    texts_are (array js) h = items_are js h
    texts_are (object ms) h = members_are ms h

    items_are : (js : Items) → ItemsAre N S js → ItemsAre M T js
    items_are no_items h = tt
    items_are (item j js) h = (texts_are j h.0, items_are js h.1)

    members_are : (ms : Members) → MembersAre N S ms → MembersAre M T ms
    members_are no_members h = tt
    members_are (member k j ms) h = (strings k h.0, texts_are j h.1, members_are ms h.2)

small_size : (z : ℤ) → IsExact z → mag z < 2 ^ 63
small_size (pos n) small = omega (arith, small)
small_size (negsuc n) small = omega (arith, small)

pub exact_number : (s : List ℕ) → IsDecimal IsExact s → IsNumber s
exact_number s h = subst IsNumber (sym h.1) (IsNumber-signed_decimal h.0 (small_size h.0 h.2))

sign_inside : (z : ℤ) → Inside (signed_decimal z)
sign_inside (pos n) = decimal_passes stays_in refl n
sign_inside (negsuc n) = decimal_passes stays_in refl (suc n)

pub decimal_inside : (s : List ℕ) → IsDecimal (λ z. Unit {0}) s → Inside s
decimal_inside s h = subst Inside (sym h.1) (sign_inside h.0)

-- ---- without files no element has a sign

pub no_sign : (e : ElementId) (width : Width) → element_kind [] e ≡ Signed width → ⊥
no_sign e width h = by (entry_of e) h
  where
    by : (o : Option Entry) → option_map_or (λ (r : Entry). Plain r.kind) o (Plain Octets) ≡ Signed width → ⊥
    by None k = absurd cc
    by (Some r) k = absurd cc

-- ---- members

members_texts : (N : List ℕ → Type 0) (names : List (List ℕ)) (values : List Json) → AllPlain names → ItemsAre N Utf8 (items_of values) → MembersAre N Utf8 (members_of (zip names values))
members_texts N [] values plain h = tt
members_texts N (n ∷ ns) [] plain h = tt
members_texts N (n ∷ ns) (v ∷ vs) plain h = (plain_utf8 n plain.0, h.0, members_texts N ns vs plain.1 h.1)

members_shallow : (names : List (List ℕ)) (values : List Json) → members_depth (members_of (zip names values)) ≤ items_depth (items_of values)
members_shallow [] values = omega arith
members_shallow (n ∷ ns) [] = omega arith
members_shallow (n ∷ ns) (v ∷ vs) = omega (arith, members_shallow ns vs)

-- ---- records

module _ (P : ℤ → Type 0) (natural : (n : ℕ) → n < 2 ^ 53 → P (pos n)) (known : List Known) (plain : have_plain_names known ≡ true) (signed : (e : ElementId) (width : Width) → element_kind known e ≡ Signed width → (z : ℤ) → IsExact z → P z) where
  field_texts : (fs : List Field) → All (λ f. AreOctets f.octets) fs → ItemsAre (IsDecimal P) Utf8 (items_of (map (object_of_field known) fs))
  field_texts [] all = tt
  field_texts (f ∷ fs) all =
      let value = value_written P natural (element_kind known f.element) f.octets (All-head (λ f. AreOctets f.octets) f fs all) (signed f.element) in
      let parts = members_texts (IsDecimal P) (codes "name" ∷ codes "value" ∷ []) (string (element_name known f.element) ∷ value_of (element_kind known f.element) f.octets ∷ []) (refl, (refl, tt))
      (plain_utf8 (element_name known f.element) (name_plain known plain f.element), (value.texts, tt)) in
      (parts, field_texts fs (All-tail (λ f. AreOctets f.octets) f fs all))

  pub record_texts : (r : DataRecord) → HasOctets r → P (pos r.domain) → P (pos r.template) → P (pos r.export_time) → P (pos r.scope) → TextsAre (IsDecimal P) Utf8 (object_of known r)
  record_texts r all domain template time scope =
      members_texts (IsDecimal P) record_names (record_values known r) (refl, (refl, (refl, (refl, (refl, tt)))))
      ((pos r.domain, refl, domain), ((pos r.template, refl, template), ((pos r.export_time, refl, time), ((pos r.scope, refl, scope), (field_texts r.fields all, tt)))))

  fields_shallow : (fs : List Field) → All (λ f. AreOctets f.octets) fs → items_depth (items_of (map (object_of_field known) fs)) ≤ 1
  fields_shallow [] all = omega arith
  fields_shallow (f ∷ fs) all =
      let value = value_written P natural (element_kind known f.element) f.octets (All-head (λ f. AreOctets f.octets) f fs all) (signed f.element) in
      omega (arith, fields_shallow fs (All-tail (λ f. AreOctets f.octets) f fs all), value.flat)

  pub record_shallow : (r : DataRecord) → HasOctets r → depth (object_of known r) ≤ 128
  record_shallow r all = omega (arith, fields_shallow r.fields all)

-- ---- rows

module _ (P : ℤ → Type 0) (natural : (n : ℕ) → n < 2 ^ 53 → P (pos n)) where
  cells_texts : (cells : List Cell) → All HasAddress cells → ItemsAre (IsDecimal P) Utf8 (items_of (map value_of_cell cells))
  cells_texts [] all = tt
  cells_texts (c ∷ cs) all = ((cell_written P natural c (All-head HasAddress c cs all)).texts, cells_texts cs (All-tail HasAddress c cs all))

  pub row_texts : (names : List (List ℕ)) (cells : List Cell) → AllPlain names → All HasAddress cells → TextsAre (IsDecimal P) Utf8 (object_with names (map value_of_cell cells))
  row_texts names cells plain all = members_texts (IsDecimal P) names (map value_of_cell cells) plain (cells_texts cells all)

  cells_flat : (cells : List Cell) → All HasAddress cells → items_depth (items_of (map value_of_cell cells)) ≡ 0
  cells_flat [] all = refl
  cells_flat (c ∷ cs) all = omega (arith, (cell_written P natural c (All-head HasAddress c cs all)).flat, cells_flat cs (All-tail HasAddress c cs all))

  pub row_shallow : (names : List (List ℕ)) (cells : List Cell) → All HasAddress cells → depth (object_with names (map value_of_cell cells)) ≤ 128
  row_shallow names cells all = omega (arith, members_shallow names (map value_of_cell cells), cells_flat cells all)
