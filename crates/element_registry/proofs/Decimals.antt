-- Decimal numbers: what is read is what is written so.
use Rattle.std.proofs.Common.{◌≡◌, ℕ, ◌<◌, ◌≤◌, ◌^◌, List, Option, Some, None, Result, inl, inr, sym, ap, subst, ◌∙◌, arith}
use Rattle.std.specs.Fmt.{decimal}
use Rattle.std.specs.Result.{result_ok}
use Rattle.std.specs.Str.{IsUtf8}
use Rattle.std.proofs.lemmas.Str.{IsUtf8-from_ascii}
use Rattle.std.specs.Str.Parse.{AllDigits, digits_value, ParsesUnsigned}
use Rattle.std.proofs.lemmas.Bool.{and_parts, and_from, cond-true, lt-ltb, ltb-true}
use Rattle.std.proofs.lemmas.Fmt.{IsAscii-decimal, digits_value-decimal, parse-decimal}
use Rattle.std.proofs.lemmas.Str.Parse.{IsNumeralModel, numerals_by_value, tells_digits}
use Rattle.std.proofs.lemmas.Option.{cond_some}
use Rattle.std.proofs.lemmas.Slice.Eq.{bytes_eq-Decides}
use Rattle.ipfix_elements.proofs.Lookups.{cases_Option}
use Rattle.element_registry.specs.Rows.{number_below}

digits : IsNumeralModel (AllDigits 10) (digits_value 10)
digits = numerals_by_value (AllDigits 10) tells_digits

-- what is written for a number is read
pub number_again : (limit : ℕ) (text : List ℕ) (n : ℕ) → n < limit → limit ≤ 2 ^ 64 → text ≡ decimal n → number_below limit text ≡ Some n
number_again limit text n small fits is =
    let same : digits_value 10 text ≡ n = ap (digits_value 10) is ∙ digits_value-decimal digits n (omega (arith, small, fits)) in
    let written = (bytes_eq-Decides text (decimal (digits_value 10 text))).1 (is ∙ ap decimal (sym same)) in
    let below = lt-ltb (digits_value 10 text) limit (subst (λ (m : ℕ). m < limit) (sym same) small) in
    cond-true _ (Some (digits_value 10 text)) None (and_from _ _ written below) ∙ ap (λ (m : ℕ). Some m) same

-- what is read is written so
pub number_so : (limit : ℕ) (text : List ℕ) (n : ℕ) → number_below limit text ≡ Some n → (n < limit) × (text ≡ decimal n)
number_so limit text n h =
    let chosen = cond_some _ (digits_value 10 text) n h in
    let both = and_parts _ _ chosen.0 in (
      subst (λ (m : ℕ). m < limit) chosen.1 (ltb-true (digits_value 10 text) limit both.1),
      (bytes_eq-Decides text (decimal (digits_value 10 text))).0 both.0 ∙ ap decimal chosen.1,
    )

-- nothing is read if nothing is written so
pub no_number : (limit : ℕ) (text : List ℕ) → ((n : ℕ) → n < limit → text ≡ decimal n → ⊥) → None ≡ number_below limit text
no_number limit text none =
    elim (cases_Option (number_below limit text)) [
      | inl e ↦ sym e
      | inr found ↦ let so = number_so limit text found.0 found.1 in absurd (none found.0 so.0 so.1)
    ]

-- what is written for a number is parsed
pub parsed : {E : Type 0} (n : ℕ) (text : List ℕ) (r : Result ℕ E) (o : Option ℕ) → n < 2 ^ 32 → text ≡ decimal n → ParsesUnsigned 32 10 text r → o ≡ result_ok r → o ≡ Some n
parsed n text r o small is parses ok = ok ∙ ap result_ok (parse-decimal 32 n text r small (omega (arith, small)) is parses)

-- what is written for a number is UTF-8
pub decimal_utf8 : (text : List ℕ) (n : ℕ) → n < 2 ^ 32 → text ≡ decimal n → IsUtf8 text
decimal_utf8 text n small is = subst IsUtf8 (sym is) (IsUtf8-from_ascii (decimal n) (IsAscii-decimal n (omega (arith, small))))
