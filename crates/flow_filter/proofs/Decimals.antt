-- Numbers in texts: a decimal number, as it is written.
use Rattle.std.proofs.Common.{◌≡◌, ℕ, ◌^◌, ◌<◌, false, List, length, get_or, Option, Some, None, Result, inl, inr, sym, ap, subst, ◌∙◌, arith}
use Rattle.std.specs.Prelude.{◌≢◌}
use denote.Bor.{Bor}
use Rattle.std.specs.Fmt.{decimal}
use Rattle.std.specs.List.{list_any}
use Rattle.std.specs.Option.{MatchOption}
use Rattle.std.specs.Result.{result_ok}
use Rattle.std.specs.Str.Parse.{AllDigits, digits_value, ParsesUnsigned}
use Rattle.std.proofs.lemmas.Bool.{and_parts, and_from, cond-true, lt-ltb, ltb-true, ne_eqb}
use Rattle.std.proofs.lemmas.Fmt.{digits_value-decimal, parse-decimal}
use Rattle.std.proofs.lemmas.List.Elements.{All-from_get_or}
use Rattle.std.proofs.lemmas.List.Folds.{list_any_none}
use Rattle.std.proofs.lemmas.Str.Parse.{IsNumeralModel, numerals_by_value, tells_digits}
use Rattle.std.proofs.lemmas.Option.{cond_some, none-some}
use Rattle.std.proofs.lemmas.Slice.Eq.{bytes_eq-Decides}
use Rattle.ipfix_elements.proofs.Lookups.{cases_Option}
use Rattle.flow_filter.specs.Texts.{is_dash, number_in}

digits : IsNumeralModel (AllDigits 10) (digits_value 10)
digits = numerals_by_value (AllDigits 10) tells_digits

-- what is written for a number is read
pub number_again : (text : List ℕ) (n : ℕ) → n < 2 ^ 64 → text ≡ decimal n → number_in text ≡ Some n
number_again text n small is =
    let same : digits_value 10 text ≡ n = ap (digits_value 10) is ∙ digits_value-decimal digits n (omega (arith, small)) in
    let written = (bytes_eq-Decides text (decimal (digits_value 10 text))).1 (is ∙ ap decimal (sym same)) in
    let fits = lt-ltb (digits_value 10 text) (2 ^ 64) (subst (λ (m : ℕ). m < 2 ^ 64) (sym same) small) in
    cond-true _ (Some (digits_value 10 text)) None (and_from _ _ written fits) ∙ ap (λ (m : ℕ). Some m) same

-- what is read is written so
number_so : (text : List ℕ) (n : ℕ) → number_in text ≡ Some n → (n < 2 ^ 64) × (text ≡ decimal n)
number_so text n h =
    let chosen = cond_some _ (digits_value 10 text) n h in
    let both = and_parts _ _ chosen.0 in (
      subst (λ (m : ℕ). m < 2 ^ 64) chosen.1 (ltb-true (digits_value 10 text) (2 ^ 64) both.1),
      (bytes_eq-Decides text (decimal (digits_value 10 text))).0 both.0 ∙ ap decimal chosen.1,
    )

-- nothing is read if nothing is written so
pub no_number : (text : List ℕ) → ((n : ℕ) → n < 2 ^ 64 → text ≡ decimal n → ⊥) → None ≡ number_in text
no_number text none =
    elim (cases_Option (number_in text)) [
      | inl e ↦ sym e
      | inr found ↦ let so = number_so text found.0 found.1 in absurd (none found.0 so.0 so.1)
    ]

-- what is written for a number is parsed
pub parsed : {E : Type 0} (n : ℕ) (text : List ℕ) (r : Result ℕ E) (o : Option ℕ) → n < 2 ^ 64 → text ≡ decimal n → ParsesUnsigned 64 10 text r → o ≡ result_ok r → o ≡ Some n
parsed n text r o small is parses ok = ok ∙ ap result_ok (parse-decimal 64 n text r small (omega (arith, small)) is parses)

-- a text without a dash
pub no_dash : (text : List ℕ) (r : Option (Bor (List ℕ) × Bor (List ℕ))) (P : Bor (List ℕ) × Bor (List ℕ) → Type 0) → MatchOption r ((i : ℕ) → i < length text → get_or text i 0 ≢ 45) P → r ≡ None → list_any is_dash text ≡ false
no_dash text None P none is = list_any_none is_dash text (All-from_get_or (λ b. is_dash b ≡ false) text 0 (λ i inside. ne_eqb (get_or text i 0) 45 (none i inside)))
no_dash text (Some x) P none is = absurd (none-some x (sym is))
