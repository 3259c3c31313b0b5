-- A line is cut where it ends, and read as its object.
use Rattle.std.proofs.Common.{◌≡◌, ℕ, ℤ, pos, ◌<◌, ◌^◌, ◌≤◌, true, eqb, List, [], ◌∷◌, ◌++◌, map, refl, sym, ap, append_assoc, ◌∙◌, arith}
use Rattle.std.specs.Prelude.{◌≢◌, All, flat_map}
use Rattle.std.specs.List.{list_all}
use Rattle.std.proofs.lemmas.Bool.{and_parts, eqb-false, not-true}
use Rattle.std.proofs.lemmas.List.Elements.{All-head, All-tail}
use Rattle.std.proofs.lemmas.List.Sums.{AllPass-from_list_all}
use Rattle.json.specs.Json.{Json}
use Rattle.json.specs.Print.{IsNumber}
use Rattle.json.specs.Tree.{depth}
use Rattle.ipfix_wire.specs.declared.specifier.ElementId.{ElementId}
use Rattle.ipfix_elements.specs.declared.kind.Width.{Width}
use Rattle.ipfix_message.specs.DataRecords.{HasOctets}
use Rattle.ipfix_message.specs.declared.record.DataRecord.{DataRecord}
use Rattle.element_registry.specs.Registries.{Known, element_kind}
use Rattle.element_registry.specs.declared.kind.ElementKind.TheVariants.{Signed}
use Rattle.ipfix_dump.specs.JsonLines.{json_line}
use Rattle.flow_table.specs.Plans.{PlanValue}
use Rattle.flow_table.specs.SameTables.{RowValue}
use Rattle.flow_export.specs.CsvText.{heading}
use Rattle.flow_export.specs.JsonText.{row_object}
use Rattle.flow_export.specs.PlainNames.{have_plain_names}
use Rattle.laws_json.specs.Lines.{AreApart, IsReadAs, lines_in}
use Rattle.laws_json.specs.Objects.{FitsTypes, object_of}
use Rattle.laws_json.specs.RowObjects.{columns, HasAddresses, object_of_row}
use Rattle.laws_json.specs.Texts.{compact_text, IsDecimal, IsExact, IsExactNatural, NumbersAre, TextsAre}
use Rattle.laws_json.proofs.Numbers.{decimal_inside, exact_number, no_sign, record_shallow, record_texts, row_shallow, row_texts, texts_are}
use Rattle.laws_json.proofs.Objects.{columns_have, line_is, row_is}
use Rattle.laws_json.proofs.Plain.{heading_plain}
use Rattle.laws_json.proofs.Reading.{read_as, text_inside, Utf8}
use Rattle.laws_json.proofs.Tests.{Inside, stays_in}

-- ---- cut where they end

all_other : (text : List ℕ) → Inside text → All (λ b. b ≢ 10) text
all_other text h = λ k d within. eqb-false _ 10 (not-true _ (AllPass-from_list_all stays_in text h k d within))

cut_once : (text rest : List ℕ) → Inside text → lines_in (text ++ 10 ∷ rest) ≡ (text ++ 10 ∷ []) ∷ lines_in rest
cut_once [] rest h = refl
cut_once (b ∷ bs) rest h =
    let parts = and_parts (stays_in b) (list_all stays_in bs) h in
    rw (not-true (eqb b 10) parts.0, cut_once bs rest parts.1) refl

-- each line is the text of an object, whatever its numbers are
record AreLines {X : Type 0} (P : X → Type 0) (line : X → List ℕ) (object : X → Json) : Type 0 where
  text : (x : X) → P x → line x ≡ compact_text (object x) ++ 10 ∷ []
  texts : (x : X) → P x → TextsAre (IsDecimal (λ z. Unit {0})) Utf8 (object x)

line_inside : {X : Type 0} (P : X → Type 0) (line : X → List ℕ) (object : X → Json) → AreLines P line object → (x : X) → P x → Inside (compact_text (object x))
line_inside P line object are x holds = text_inside (object x) (texts_are (IsDecimal (λ z. Unit {0})) Inside Utf8 Utf8 decimal_inside (λ s h. h) (object x) (are.texts x holds))

cut_all : {X : Type 0} (P : X → Type 0) (line : X → List ℕ) (object : X → Json) → AreLines P line object → (xs : List X) → All P xs → lines_in (flat_map line xs) ≡ map line xs
cut_all P line object are [] all = refl
cut_all P line object are (x ∷ xs) all =
    let here = All-head P x xs all in
    let text = compact_text (object x) in
    let rest = flat_map line xs in
    ap (λ (w : List ℕ). lines_in (w ++ rest)) (are.text x here) ∙ ap lines_in (append_assoc text (10 ∷ []) rest) ∙ cut_once text rest (line_inside P line object are x here)
    ∙ ap (λ (w : List ℕ). w ∷ lines_in rest) (sym (are.text x here)) ∙ ap (λ (ls : List (List ℕ)). line x ∷ ls) (cut_all P line object are xs (All-tail P x xs all))

are_apart : {X : Type 0} (P : X → Type 0) (line : X → List ℕ) (object : X → Json) → AreLines P line object → AreApart P line
are_apart P line object are =
    record {
      each = λ x holds. (compact_text (object x), are.text x holds, all_other (compact_text (object x)) (line_inside P line object are x holds));
      all = cut_all P line object are;
    }

-- ---- read as their objects

exact_read : (Q : Json → Type 0) (line : List ℕ) (j : Json) → line ≡ compact_text j ++ 10 ∷ [] → TextsAre (IsDecimal IsExact) Utf8 j → depth j ≤ 128 → Q j → IsReadAs line Q
exact_read Q line j is texts shallow holds = read_as Q j line is (texts_are (IsDecimal IsExact) IsNumber Utf8 Utf8 exact_number (λ s h. h) j texts) shallow holds

natural_exact : (n : ℕ) → n < 2 ^ 53 → IsExact (pos n)
natural_exact n small = omega (arith, small)

numbers_of : (P : ℤ → Type 0) (j : Json) → TextsAre (IsDecimal P) Utf8 j → NumbersAre P j
numbers_of P j h = texts_are (IsDecimal P) (IsDecimal P) Utf8 (λ s. Unit {0}) (λ s h. h) (λ s h. tt) j h

-- ---- records

fitting_texts : (P : ℤ → Type 0) (natural : (n : ℕ) → n < 2 ^ 53 → P (pos n)) (known : List Known) → have_plain_names known ≡ true
    → ((e : ElementId) (width : Width) → element_kind known e ≡ Signed width → (z : ℤ) → IsExact z → P z) → (r : DataRecord) → HasOctets r → FitsTypes r → TextsAre (IsDecimal P) Utf8 (object_of known r)
fitting_texts P natural known plain signed r octets fits =
    record_texts P natural known plain signed r octets (natural r.domain (omega (arith, fits.domain))) (natural r.template (omega (arith, fits.template)))
    (natural r.export_time (omega (arith, fits.export_time))) (natural r.scope (omega (arith, fits.scope)))

module _ (known : List Known) (plain : have_plain_names known ≡ true) where
  exact_texts : (r : DataRecord) → HasOctets r → FitsTypes r → TextsAre (IsDecimal IsExact) Utf8 (object_of known r)
  exact_texts r octets fits = fitting_texts IsExact natural_exact known plain (λ e width is z exact. exact) r octets fits

  pub record_is_read : (Q : Json → Type 0) (r : DataRecord) → HasOctets r → FitsTypes r → Q (object_of known r) → IsReadAs (json_line known r) Q
  record_is_read Q r octets fits holds =
      exact_read Q (json_line known r) (object_of known r) (line_is known plain r octets) (exact_texts r octets fits)
      (record_shallow IsExact natural_exact known plain (λ e width is z exact. exact) r octets) holds

  pub record_is_exact : (r : DataRecord) → HasOctets r → FitsTypes r → NumbersAre IsExact (object_of known r)
  record_is_exact r octets fits = numbers_of IsExact (object_of known r) (exact_texts r octets fits)

  pub records_apart : AreApart HasOctets (json_line known)
  records_apart =
      are_apart HasOctets (json_line known) (object_of known)
      (record { text = line_is known plain; texts = λ r octets. record_texts (λ z. Unit {0}) (λ n small. tt) known plain (λ e width is z exact. tt) r octets tt tt tt tt })

pub record_is_natural : (r : DataRecord) → HasOctets r → FitsTypes r → NumbersAre IsExactNatural (object_of [] r)
record_is_natural r octets fits =
    numbers_of IsExactNatural (object_of [] r) (fitting_texts IsExactNatural (λ n small. small) [] refl (λ e width is z exact. absurd (no_sign e width is)) r octets fits)

-- ---- rows

module _ (known : List Known) (plain : have_plain_names known ≡ true) where
  texts_of : (P : ℤ → Type 0) → ((n : ℕ) → n < 2 ^ 53 → P (pos n)) → (plan : PlanValue) (row : RowValue) → HasAddresses row → TextsAre (IsDecimal P) Utf8 (object_of_row known plan row)
  texts_of P natural plan row octets = row_texts P natural (heading known plan) (columns plan row) (heading_plain known plain plan) (columns_have plan row octets)

  pub row_is_read : (Q : Json → Type 0) (plan : PlanValue) (row : RowValue) → HasAddresses row → Q (object_of_row known plan row) → IsReadAs (row_object known plan row) Q
  row_is_read Q plan row octets holds =
      exact_read Q (row_object known plan row) (object_of_row known plan row) (row_is known plain plan row octets) (texts_of IsExact natural_exact plan row octets)
      (row_shallow IsExact natural_exact (heading known plan) (columns plan row) (columns_have plan row octets)) holds

  pub row_is_exact : (plan : PlanValue) (row : RowValue) → HasAddresses row → NumbersAre IsExactNatural (object_of_row known plan row)
  row_is_exact plan row octets = numbers_of IsExactNatural (object_of_row known plan row) (texts_of IsExactNatural (λ n small. small) plan row octets)

  pub rows_apart : (plan : PlanValue) → AreApart HasAddresses (row_object known plan)
  rows_apart plan =
      are_apart HasAddresses (row_object known plan) (object_of_row known plan) (record { text = row_is known plain plan; texts = texts_of (λ z. Unit {0}) (λ n small. tt) plan })
