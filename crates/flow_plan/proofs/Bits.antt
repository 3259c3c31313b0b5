-- The bits of a prefix: a decimal number, as it is written.
use Rattle.std.proofs.Common.{◌≡◌, ℕ, ◌<◌, List, Option, Some, None, Result, inl, inr, sym, ap, subst, ◌∙◌, arith}
use Rattle.std.specs.Fmt.{decimal}
use Rattle.std.specs.Result.{result_ok}
use Rattle.std.specs.Str.Parse.{AllDigits, digits_value, ParsesUnsigned}
use Rattle.std.proofs.lemmas.Bool.{and_parts, and_from, cond-true, lt-ltb, ltb-true}
use Rattle.std.proofs.lemmas.Fmt.{digits_value-decimal, parse-decimal}
use Rattle.std.proofs.lemmas.Str.Parse.{IsNumeralModel, numerals_by_value, tells_digits}
use Rattle.std.proofs.lemmas.Option.{cond_some}
use Rattle.std.proofs.lemmas.Slice.Eq.{bytes_eq-Decides}
use Rattle.ipfix_elements.proofs.Lookups.{cases_Option}
use Rattle.flow_plan.specs.PlanTexts.{bits_in}

digits : IsNumeralModel (AllDigits 10) (digits_value 10)
digits = numerals_by_value (AllDigits 10) tells_digits

-- what is written for a number is read
pub bits_again : (text : List ℕ) (n : ℕ) → n < 256 → text ≡ decimal n → bits_in text ≡ Some n
bits_again text n small is =
    let same : digits_value 10 text ≡ n = ap (digits_value 10) is ∙ digits_value-decimal digits n (omega (arith, small)) in
    let written = (bytes_eq-Decides text (decimal (digits_value 10 text))).1 (is ∙ ap decimal (sym same)) in
    let fits = lt-ltb (digits_value 10 text) 256 (subst (λ (m : ℕ). m < 256) (sym same) small) in
    cond-true _ (Some (digits_value 10 text)) None (and_from _ _ written fits) ∙ ap (λ (m : ℕ). Some m) same

-- what is read is written so
pub bits_so : (text : List ℕ) (n : ℕ) → bits_in text ≡ Some n → (n < 256) × (text ≡ decimal n)
bits_so text n h =
    let chosen = cond_some _ (digits_value 10 text) n h in
    let both = and_parts _ _ chosen.0 in (
      subst (λ (m : ℕ). m < 256) chosen.1 (ltb-true (digits_value 10 text) 256 both.1),
      (bytes_eq-Decides text (decimal (digits_value 10 text))).0 both.0 ∙ ap decimal chosen.1,
    )

-- nothing is read if nothing is written so
pub no_bits : (text : List ℕ) → ((n : ℕ) → n < 256 → text ≡ decimal n → ⊥) → None ≡ bits_in text
no_bits text none =
    elim (cases_Option (bits_in text)) [
      | inl e ↦ sym e
      | inr found ↦ let so = bits_so text found.0 found.1 in absurd (none found.0 so.0 so.1)
    ]

-- what is written for a number is parsed
pub parsed : {E : Type 0} (n : ℕ) (text : List ℕ) (r : Result ℕ E) (o : Option ℕ) → n < 256 → text ≡ decimal n → ParsesUnsigned 8 10 text r → o ≡ result_ok r → o ≡ Some n
parsed n text r o small is parses ok = ok ∙ ap result_ok (parse-decimal 8 n text r small (omega (arith, small)) is parses)
