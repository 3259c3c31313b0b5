-- A counter of the kind of all counters is read alike in a dump and in a table.
use Rattle.std.proofs.Common.{◌≡◌, ℕ, not, eqb, false, true, Bool, List, [], ◌∷◌, Option, Some, None, is_none, option_map, refl, ap, ◌∙◌}
use Rattle.std.specs.Prelude.{All, decimal}
use Rattle.std.specs.List.{list_all, list_any}
use Rattle.std.specs.Option.{option_map_or}
use Rattle.std.proofs.lemmas.Bool.{and_parts, not-true, or_from}
use Rattle.std.proofs.lemmas.List.Elements.{All-weaker}
use Rattle.ipfix_wire.specs.declared.specifier.ElementId.{ElementId}
use Rattle.ipfix_elements.specs.JsonValues.{in_quotes, json_cell, json_number}
use Rattle.ipfix_elements.specs.Texts.{cell_text}
use Rattle.ipfix_elements.specs.Values.{number_in}
use Rattle.ipfix_elements.specs.declared.cell.Cell.TheVariants.{Number}
use Rattle.ipfix_elements.specs.declared.kind.Kind.TheVariants.{Unsigned}
use Rattle.ipfix_elements.specs.declared.kind.Width.TheVariants.{Eight}
use Rattle.element_registry.specs.Registries.{Known, element_kind}
use Rattle.element_registry.specs.declared.kind.ElementKind.TheVariants.{Plain}
use Rattle.element_registry.specs.declared.kind.ElementKind.{ElementKind}
use Rattle.element_values.specs.FieldTexts.{element_json, element_text, misfit_text}
use Rattle.flow_table.specs.declared.choices.Totals.{Totals}
use Rattle.flow_table.specs.Plans.{is_taken_total}
use Rattle.laws_json.specs.Counters.{has_mark, IsReadAlike, SaysWhatCounts}
use Rattle.laws_json.proofs.Tests.{decimal_passes}

none_passes : (test : ℕ → Bool) (xs : List ℕ) → list_all (λ x. not (test x)) xs ≡ true → list_any test xs ≡ false
none_passes test [] none = refl
none_passes test (x ∷ xs) none =
    let both = and_parts (not (test x)) (list_all (λ x. not (test x)) xs) none in
    or_from (test x) (list_any test xs) (not-true (test x) both.0) (none_passes test xs both.1)

text_of : (counted : Option ℕ) (octets : List ℕ) → option_map_or cell_text (option_map (λ n. Number n) counted) (misfit_text octets) ≡ option_map_or decimal counted (misfit_text octets)
unfolding cell_text
text_of None octets = refl
text_of (Some n) octets = refl

json_of : (counted : Option ℕ) (octets : List ℕ)
    → option_map_or json_cell (option_map (λ n. Number n) counted) (in_quotes (option_map_or cell_text (option_map (λ n. Number n) counted) (misfit_text octets)))
    ≡ option_map_or json_number counted (in_quotes (misfit_text octets))
json_of None octets = refl
json_of (Some n) octets = refl

mark_of : (counted : Option ℕ) (octets : List ℕ) → has_mark (option_map_or decimal counted (misfit_text octets)) ≡ is_none counted
mark_of None octets = refl
mark_of (Some n) octets = none_passes (λ b. eqb b 63) (decimal n) (decimal_passes (λ b. not (eqb b 63)) refl n)

says : (known : List Known) (e : ElementId) → element_kind known e ≡ Plain (Unsigned Eight) → (octets : List ℕ) → SaysWhatCounts known e (number_in (Unsigned Eight) octets) octets
says known e of octets =
    let counted = number_in (Unsigned Eight) octets in
    let text = ap (λ (kind : ElementKind). element_text kind octets) of ∙ text_of counted octets in
    record {
      text = text;
      json = ap (λ (kind : ElementKind). element_json kind octets) of ∙ json_of counted octets;
      absent = ap has_mark text ∙ mark_of counted octets;
    }

pub read_alike : (known : List Known) (totals : Totals) (counters : List ElementId) → All (λ c. is_taken_total totals c ≡ false → element_kind known c ≡ Plain (Unsigned Eight)) counters
    → All (λ c. is_taken_total totals c ≡ false → IsReadAlike known c) counters
read_alike known totals counters =
    All-weaker (λ c. is_taken_total totals c ≡ false → element_kind known c ≡ Plain (Unsigned Eight)) (λ c. is_taken_total totals c ≡ false → IsReadAlike known c)
    (λ e of other r octets found. rw found (says known e (of other) octets)) counters
