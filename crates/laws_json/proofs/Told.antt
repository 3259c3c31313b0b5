-- What is looked up in the value of a record's line.
use Rattle.std.proofs.Common.{◌≡◌, ℕ, ℤ, pos, negsuc, zero, suc, ◌-◌, ◌*◌, ◌<◌, ◌≤◌, ◌^◌, Bool, true, false, cond, eqb, nat_le, List, [], ◌∷◌, length, drop, map, Option, Some, None, option_map, refl, ap, subst, ◌∙◌, ◌&&◌, arith, inl, inr}
use Rattle.std.specs.Prelude.{decimal, nat_lt, slice_index, unsigned_abs, All}
use Rattle.std.specs.Option.{option_map_or}
use Rattle.std.specs.Fmt.{signed_decimal}
use Rattle.std.specs.List.{AllZip}
use Rattle.std.proofs.lemmas.Bool.{and_parts, cases_Bool, eqb-true, leb-true, ltb-false}
use Rattle.std.proofs.lemmas.Nat.{pow_pos}
use lib.IntN.{◌-ℤ◌}
use Rattle.std.proofs.lemmas.Fmt.{decimal_is_IsNumeral}
use Rattle.std.proofs.lemmas.List.Elements.{All-drop, All-head, All-tail}
use Rattle.std.proofs.lemmas.Option.{cond_some}
use Rattle.std.proofs.Math.Nat.{mod-lt, pow-le-pow_right}
use Rattle.byteorder.specs.Endian.{big_number, twos_complement}
use Rattle.byteorder.specs.Numbers.{big_from-lt}
use Rattle.json.specs.Json.{Json, boolean, string, number, array}
use Rattle.json.specs.Value.{items_of}
use Rattle.ipfix_elements.specs.JsonValues.{is_exact}
use Rattle.ipfix_elements.specs.Texts.{value_text}
use Rattle.ipfix_elements.specs.Values.{cell_in, is_number_length, number_in, octets_of}
use Rattle.ipfix_elements.specs.declared.kind.Kind.{Kind}
use Rattle.ipfix_elements.specs.declared.kind.Kind.TheVariants as kinds
use Rattle.ipfix_elements.specs.declared.kind.Width.{Width}
use Rattle.ipfix_elements.specs.declared.kind.Width.TheVariants.{One, Two, Four, Eight}
use Rattle.ipfix_elements.specs.declared.cell.Cell.{Cell}
use Rattle.ipfix_elements.specs.declared.cell.Cell.TheVariants.{Number, Ipv4, Ipv6, Mac}
use Rattle.ipfix_elements.proofs.Lookups.{mapped}
use Rattle.element_registry.specs.Registries.{Known, element_kind, element_name}
use Rattle.element_registry.specs.declared.kind.ElementKind.{ElementKind}
use Rattle.element_registry.specs.declared.kind.ElementKind.TheVariants.{Plain, Boolean, Signed, Micros, Nanos, Text}
use Rattle.element_values.specs.FieldTexts.{misfit_text}
use Rattle.element_values.specs.Instants.{micros_in, micros_of, nanos_in, nanos_of, parts_in, seconds_since_1970}
use Rattle.element_values.specs.Numbers.{boolean_in, signed_in}
use Rattle.element_values.specs.Strings.{string_in}
use Rattle.ipfix_message.specs.DataRecords.{HasOctets}
use Rattle.ipfix_message.specs.Fields.{Field}
use Rattle.ipfix_message.specs.declared.record.DataRecord.{DataRecord}
use Rattle.laws_json.specs.Objects.{FitsTypes, object_of, object_of_field, signed_value, unsigned_value, value_by, value_of, value_of_cell}
use Rattle.laws_json.specs.Told.{SpellsNumber, TellsCell, TellsField, TellsNumber, TellsOr, TellsRecord, TellsValue}
use Rattle.laws_json.proofs.Plain.{AreOctets, cell_holds}

-- ---- values

abbrev pub HasRoom : Cell → Type 0
HasRoom (Number n) = n < 2 ^ 64
HasRoom (Ipv4 address) = Unit {0}
HasRoom (Ipv6 address) = Unit {0}
HasRoom (Mac address) = Unit {0}

number_spelled : (z : ℤ) → unsigned_abs z < 2 ^ 64 → SpellsNumber z (signed_decimal z)
number_spelled (pos n) small = decimal_is_IsNumeral n small
number_spelled (negsuc n) small = (decimal (suc n), refl, decimal_is_IsNumeral (suc n) small)

by_size : (b : Bool) (z : ℤ) → unsigned_abs z < 2 ^ 64 → TellsNumber z (value_by b (signed_decimal z))
by_size true z small = number_spelled z small
by_size false z small = number_spelled z small

unsigned_tells : (n : ℕ) → n < 2 ^ 64 → TellsNumber (pos n) (unsigned_value n)
unsigned_tells n small = by_size (is_exact n) (pos n) small

pub cell_tells : (cell : Cell) → HasRoom cell → TellsCell cell (value_of_cell cell)
cell_tells (Number n) small = unsigned_tells n small
cell_tells (Ipv4 address) small = refl
cell_tells (Ipv6 address) small = refl
cell_tells (Mac address) small = refl

either : {X : Type 0} (tells : X → Json → Type 0) (value : X → Json) (o : Option X) (other : List ℕ) → ((x : X) → o ≡ Some x → tells x (value x)) → TellsOr tells o other (option_map_or value o (string other))
either tells value (Some x) other each = each x refl
either tells value None other each = refl

-- ---- numbers in octets

each_small : (xs : List ℕ) → AreOctets xs → (k : ℕ) → slice_index xs k < 256
each_small [] small k = omega arith
each_small (x ∷ xs) small zero = All-head (λ b. b < 256) x xs small
each_small (x ∷ xs) small (suc k) = each_small xs (All-tail (λ b. b < 256) x xs small) k

eight_octets : (n : ℕ) (octets : List ℕ) → n ≤ 8 → AreOctets octets → big_number n octets < 2 ^ 64
eight_octets n octets few small =
    let bound : big_number n octets < 256 ^ n = big_from-lt 0 n octets (each_small octets small) in
    let most : 256 ^ n ≤ 256 ^ 8 = pow-le-pow_right {n = 256} (omega arith) few in
    omega (arith, bound, most)

width_most : (width : Width) → octets_of width ≤ 8
width_most One = omega arith
width_most Two = omega arith
width_most Four = omega arith
width_most Eight = omega arith

few_octets : (kind : Kind) (n : ℕ) → is_number_length kind n ≡ true → n ≤ 8
few_octets (kinds.Unsigned width) n is = omega (arith, leb-true n (octets_of width) (and_parts _ (nat_le n (octets_of width)) is).1, width_most width)
few_octets kinds.Seconds n is = omega (arith, eqb-true n 4 is)
few_octets kinds.Millis n is = omega (arith, eqb-true n 8 is)
few_octets kinds.Ipv4 n is = absurd cc
few_octets kinds.Ipv6 n is = absurd cc
few_octets kinds.Mac n is = absurd cc
few_octets kinds.Octets n is = absurd cc

number_small : (kind : Kind) (octets : List ℕ) → AreOctets octets → (n : ℕ) → number_in kind octets ≡ Some n → n < 2 ^ 64
number_small kind octets small n h =
    let read = cond_some (is_number_length kind (length octets)) (big_number (length octets) octets) n h in
    omega (arith, read.1, eight_octets (length octets) octets (few_octets kind (length octets) read.0) small)

room_in : (kind : Kind) (octets : List ℕ) → AreOctets octets → (c : Cell) → cell_in kind octets ≡ Some c → HasRoom c
room_in kind octets small = cell_holds HasRoom octets tt tt tt kind (number_small kind octets small)

abs_by : (less : Bool) (a b m : ℕ) → 0 < a → a < m → b ≤ m → unsigned_abs (cond less (negsuc (b - suc a)) (pos (a - b))) < m
abs_by true a b m some low high = omega arith
abs_by false a b m some low high = omega arith

abs_sub : (a b m : ℕ) → 0 < a → a < m → 0 < b → b ≤ m → unsigned_abs (pos a -ℤ pos b) < m
abs_sub a zero m some low more high = absurd (omega (arith, more))
abs_sub a (suc b) m some low more high = abs_by (nat_lt a (suc b)) a (suc b) m some low high

complement_small : (n x : ℕ) → n ≤ 8 → x < 2 ^ 64 → unsigned_abs (twos_complement n x) < 2 ^ 64
complement_small n x few small = elim (cases_Bool (nat_lt x (2 ^ (8 * n - 1)))) [
  | inl low ↦ rw low small
  | inr high ↦
      let some : 0 < 2 ^ (8 * n - 1) = pow_pos (8 * n - 1) in
      let more : 0 < 2 ^ (8 * n) = pow_pos (8 * n) in
      let bits : 8 * n ≤ 64 = omega (arith, few) in
      let most : 2 ^ (8 * n) ≤ 2 ^ 64 = pow-le-pow_right {n = 2} (omega arith) bits in
      rw high (abs_sub x (2 ^ (8 * n)) (2 ^ 64) (omega (arith, some, ltb-false x (2 ^ (8 * n - 1)) high)) small more most)
]

signed_small : (width : Width) (octets : List ℕ) → AreOctets octets → (z : ℤ) → signed_in width octets ≡ Some z → unsigned_abs z < 2 ^ 64
signed_small width octets small z h =
    let read = cond_some (nat_lt 0 (length octets) && nat_le (length octets) (octets_of width)) (twos_complement (length octets) (big_number (length octets) octets)) z h in
    let few : length octets ≤ 8 = omega (arith, leb-true (length octets) (octets_of width) (and_parts (nat_lt 0 (length octets)) _ read.0).1, width_most width) in
    subst (λ (y : ℤ). unsigned_abs y < 2 ^ 64) read.1 (complement_small (length octets) (big_number (length octets) octets) few (eight_octets (length octets) octets few small))

-- seconds and fractions of 32 bits each
time_small : (of : ℕ × ℕ → ℕ) → ((s f : ℕ) → s < 2 ^ 32 → f < 2 ^ 32 → of (s, f) < 2 ^ 64) → (octets : List ℕ) → AreOctets octets → (n : ℕ) → option_map of (parts_in octets) ≡ Some n → n < 2 ^ 64
time_small of each octets small n h =
    let seconds = seconds_since_1970 (big_number 4 octets) in
    let fraction = big_number 4 (drop 4 octets) in
    let read = mapped of (parts_in octets) n h in
    let parts = cond_some (eqb (length octets) 8) (seconds, fraction) read.0 read.1 in
    let bound : fraction < 256 ^ 4 = big_from-lt 0 4 (drop 4 octets) (each_small (drop 4 octets) (All-drop (λ b. b < 256) 4 octets small)) in
    subst (λ (m : ℕ). m < 2 ^ 64) (ap of parts.1 ∙ read.2) (each seconds fraction (mod-lt _ (omega arith)) (omega (arith, bound)))

-- ---- records

value_tells : (kind : ElementKind) (octets : List ℕ) → AreOctets octets → TellsValue kind octets (value_of kind octets)
value_tells (Plain kind) octets small = either TellsCell value_of_cell (cell_in kind octets) (value_text kind octets) (λ c h. cell_tells c (room_in kind octets small c h))
value_tells Boolean octets small = either (λ b value. value ≡ boolean b) (λ b. boolean b) (boolean_in octets) (misfit_text octets) (λ b h. refl)
value_tells (Signed width) octets small =
    either TellsNumber signed_value (signed_in width octets) (misfit_text octets) (λ z h. by_size (is_exact (unsigned_abs z)) z (signed_small width octets small z h))
value_tells Micros octets small =
    either (λ n. TellsNumber (pos n)) unsigned_value (micros_in octets) (misfit_text octets) (λ n h. unsigned_tells n (time_small micros_of (λ s f low high. omega (arith, low, high)) octets small n h))
value_tells Nanos octets small = either (λ n. TellsNumber (pos n)) unsigned_value (nanos_in octets) (misfit_text octets) (λ n h. unsigned_tells n (time_small nanos_of (λ s f low high. omega (arith, low, high)) octets small n h))
value_tells Text octets small = either (λ s value. value ≡ string s) (λ s. string s) (string_in octets) (misfit_text octets) (λ s h. refl)

fields_tell : (known : List Known) (fs : List Field) → All (λ f. AreOctets f.octets) fs → AllZip (TellsField known) fs (map (object_of_field known) fs)
fields_tell known [] small = tt
fields_tell known (f ∷ fs) small = (
  record {
    name = (string (element_name known f.element), refl, refl);
    octets = (value_of (element_kind known f.element) f.octets, refl, value_tells (element_kind known f.element) f.octets (All-head (λ f. AreOctets f.octets) f fs small));
  },
  fields_tell known fs (All-tail (λ f. AreOctets f.octets) f fs small),
)

pub record_tells : (known : List Known) (r : DataRecord) → HasOctets r → FitsTypes r → TellsRecord known r (object_of known r)
record_tells known r small fits =
    record {
      domain = (number (decimal r.domain), refl, number_spelled (pos r.domain) (omega (arith, fits.domain)));
      template = (number (decimal r.template), refl, number_spelled (pos r.template) (omega (arith, fits.template)));
      export_time = (number (decimal r.export_time), refl, number_spelled (pos r.export_time) (omega (arith, fits.export_time)));
      scope = (number (decimal r.scope), refl, number_spelled (pos r.scope) (omega (arith, fits.scope)));
      fields = (array (items_of (map (object_of_field known) r.fields)), refl, (map (object_of_field known) r.fields, refl, fields_tell known r.fields small));
    }
