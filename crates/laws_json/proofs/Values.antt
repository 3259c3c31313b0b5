-- The values in lines: their texts are those that are written.
use Rattle.std.proofs.Common.{◌≡◌, ℕ, ℤ, pos, ◌<◌, ◌^◌, Bool, true, false, List, ◌++◌, Option, Some, None, refl, sym, subst}
use Rattle.std.specs.Prelude.{unsigned_abs}
use Rattle.std.specs.Option.{option_map_or}
use Rattle.std.specs.Fmt.{signed_decimal}
use Rattle.std.specs.Str.{is_utf8}
use Rattle.std.proofs.lemmas.Bool.{ltb-true}
use Rattle.std.proofs.lemmas.Option.{cond_some}
use Rattle.json.specs.Json.{Json, boolean, string}
use Rattle.json.specs.Tree.{depth}
use Rattle.hex.specs.Hex.{encode_lower}
use Rattle.ipfix_elements.specs.JsonValues.{in_quotes, is_exact, json_cell, json_number}
use Rattle.ipfix_elements.specs.Texts.{cell_text, hex_mark, value_text}
use Rattle.ipfix_elements.specs.Values.{cell_in}
use Rattle.ipfix_elements.specs.declared.cell.Cell.{Cell}
use Rattle.ipfix_elements.specs.declared.cell.Cell.TheVariants.{Number, Ipv4, Ipv6, Mac}
use Rattle.ipfix_elements.specs.declared.kind.Kind.{Kind}
use Rattle.ipfix_elements.specs.declared.kind.Width.{Width}
use Rattle.element_registry.specs.declared.kind.ElementKind.{ElementKind}
use Rattle.element_registry.specs.declared.kind.ElementKind.TheVariants.{Plain, Boolean, Signed, Micros, Nanos, Text}
use Rattle.element_values.specs.FieldTexts.{boolean_text, digits_by, json_signed, element_json, misfit_text}
use Rattle.element_values.specs.Instants.{micros_in, nanos_in}
use Rattle.element_values.specs.Numbers.{boolean_in, signed_in}
use Rattle.element_values.specs.Strings.{json_string, string_in, without_zeros}
use Rattle.laws_json.specs.Objects.{signed_value, unsigned_value, value_by, value_of, value_of_cell}
use Rattle.laws_json.specs.Texts.{compact_text, IsDecimal, IsExact, TextsAre}
use Rattle.laws_json.proofs.Plain.{AreOctets, cell_plain, has_address, HasAddress, marked_plain, misfit_plain, signed_plain}
use Rattle.laws_json.proofs.Reading.{Utf8}
use Rattle.laws_json.proofs.Strings.{plain_string, plain_utf8}
use Rattle.laws_json.proofs.Tests.{IsPlain}

-- a value that is written as a text, of whose numbers P holds
pub record Written (P : ℤ → Type 0) (j : Json) (w : List ℕ) : Type 0 where
  pub text : compact_text j ≡ w
  pub texts : TextsAre (IsDecimal P) Utf8 j
  pub flat : depth j ≡ 0

plain_written : (P : ℤ → Type 0) (s : List ℕ) → IsPlain s → Written P (string s) (in_quotes s)
plain_written P s p = record { text = plain_string s p; texts = plain_utf8 s p; flat = refl }

digits_written : (P : ℤ → Type 0) (z : ℤ) → (IsExact z → P z) → (b : Bool) → is_exact (unsigned_abs z) ≡ b → Written P (value_by b (signed_decimal z)) (digits_by b (signed_decimal z))
digits_written P z each true is = record { text = refl; texts = (z, refl, each (ltb-true (unsigned_abs z) (2 ^ 53) is)); flat = refl }
digits_written P z each false is = plain_written P (signed_decimal z) (signed_plain z)

-- what octets are, or the text of what is no value
either : {X : Type 0} (P : ℤ → Type 0) (value : X → Json) (text : X → List ℕ) (o : Option X) (other : List ℕ) → ((x : X) → o ≡ Some x → Written P (value x) (text x)) → (o ≡ None → IsPlain other)
    → Written P (option_map_or value o (string other)) (option_map_or text o (in_quotes other))
either P value text (Some x) other is plain = is x refl
either P value text None other is plain = plain_written P other (plain refl)

no_cell_plain : (kind : Kind) (octets : List ℕ) → AreOctets octets → cell_in kind octets ≡ None → IsPlain (value_text kind octets)
no_cell_plain kind octets all none = subst (λ (o : Option Cell). IsPlain (option_map_or cell_text o (hex_mark kind ++ encode_lower octets))) (sym none) (marked_plain kind octets all)

string_utf8 : (octets s : List ℕ) → string_in octets ≡ Some s → is_utf8 s ≡ true
string_utf8 octets s h =
    let given = cond_some (is_utf8 (without_zeros octets)) (without_zeros octets) s h in
    subst Utf8 given.1 given.0

module _ (P : ℤ → Type 0) (natural : (n : ℕ) → n < 2 ^ 53 → P (pos n)) where
  number_written : (n : ℕ) → Written P (unsigned_value n) (json_number n)
  number_written n = digits_written P (pos n) (natural n) (is_exact n) refl

  pub cell_written : (cell : Cell) → HasAddress cell → Written P (value_of_cell cell) (json_cell cell)
  cell_written (Number n) all = number_written n
  cell_written (Ipv4 a) all = plain_written P (cell_text (Ipv4 a)) (cell_plain (Ipv4 a) all)
  cell_written (Ipv6 a) all = plain_written P (cell_text (Ipv6 a)) (cell_plain (Ipv6 a) all)
  cell_written (Mac a) all = plain_written P (cell_text (Mac a)) (cell_plain (Mac a) all)

  pub value_written : (kind : ElementKind) (octets : List ℕ) → AreOctets octets → ((width : Width) → kind ≡ Signed width → (z : ℤ) → IsExact z → P z) → Written P (value_of kind octets) (element_json kind octets)
  value_written (Plain kind) octets all signed =
      either P value_of_cell json_cell (cell_in kind octets) (value_text kind octets) (λ c h. cell_written c (has_address kind octets all c h)) (no_cell_plain kind octets all)
  value_written Boolean octets all signed =
      either P (λ b. boolean b) boolean_text (boolean_in octets) (misfit_text octets) (λ b h. record { text = refl; texts = tt; flat = refl }) (λ none. misfit_plain octets all)
  value_written (Signed width) octets all signed =
      either P signed_value json_signed (signed_in width octets) (misfit_text octets) (λ z h. digits_written P z (signed width refl z) (is_exact (unsigned_abs z)) refl) (λ none. misfit_plain octets all)
  value_written Micros octets all signed = either P unsigned_value json_number (micros_in octets) (misfit_text octets) (λ n h. number_written n) (λ none. misfit_plain octets all)
  value_written Nanos octets all signed = either P unsigned_value json_number (nanos_in octets) (misfit_text octets) (λ n h. number_written n) (λ none. misfit_plain octets all)
  value_written Text octets all signed =
      either P (λ s. string s) json_string (string_in octets) (misfit_text octets) (λ s h. record { text = refl; texts = string_utf8 octets s h; flat = refl }) (λ none. misfit_plain octets all)
