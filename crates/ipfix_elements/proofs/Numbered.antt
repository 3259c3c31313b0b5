-- The form e<pen>.<number>: what is written is read again, and nothing else is read.
use Rattle.std.proofs.Common.{◌≡◌, ℕ, ◌+◌, ◌<◌, ◌^◌, true, List, [], ◌∷◌, ◌++◌, length, get_or, take, drop, Option, Some, None, Result, refl, sym, ap, subst, ◌∙◌, append_assoc, length-append, arith}
use denote.Bor.{Bor}
use Rattle.std.specs.Prelude.{◌==◌, ◌≢◌}
use Rattle.std.specs.Option.{MatchOption, IsSomeAnd}
use Rattle.std.specs.List.{before_first, after_first, position_or_len, list_any}
use Rattle.std.specs.Fmt.{decimal}
use Rattle.std.specs.Result.{result_ok}
use Rattle.std.specs.Str.Parse.{AllDigits, digits_value, ParsesUnsigned}
use Rattle.std.proofs.lemmas.Bool.{and_parts, and_from, cond-true, eq-eqb, ne_eqb, lt-ltb, ltb-true, or_right}
use Rattle.std.proofs.lemmas.Fmt.{digits_decimal, digits_value-decimal, parse-decimal}
use Rattle.std.proofs.lemmas.Str.Parse.{IsNumeralModel, numerals_by_value, tells_digits, not_in_digits}
use Rattle.std.proofs.lemmas.List.{take_at, drop_at, drop-drop, get_or_append_left}
use Rattle.std.proofs.lemmas.List.Sums.{position_or_len_is}
use Rattle.std.proofs.lemmas.List.Folds.{list_any-append}
use Rattle.std.proofs.lemmas.Option.{none-some, same_Some, cond_some}
use Rattle.std.proofs.lemmas.Slice.Eq.{bytes_eq-Decides}
use Rattle.std.proofs.Math.Seq.{get_or-append_seam}
use Rattle.ipfix_wire.specs.declared.specifier.ElementId.{ElementId}
use Rattle.ipfix_elements.specs.Names.{IsElement, numbered_text, numbers_in, numbered_element}

digits : IsNumeralModel (AllDigits 10) (digits_value 10)
digits = numerals_by_value (AllDigits 10) tells_digits

-- a decimal number has no dot
pub no_dot : (n : ℕ) → n < 2 ^ 64 → (i : ℕ) → i < length (decimal n) → get_or (decimal n) i 0 ≢ 46
no_dot n small i within = not_in_digits digits (decimal n) 46 (digits_decimal digits n small) (λ r. omega (arith, r.0, r.1)) i within

-- one way to group the parts
pub numbered_parts : (e : ElementId) → numbered_text e ≡ 101 ∷ (decimal e.pen ++ 46 ∷ decimal e.number)
numbered_parts e = ap (λ (t : List ℕ). 101 ∷ t) (append_assoc (decimal e.pen) (46 ∷ []) (decimal e.number))

pub numbered_has_dot : (e : ElementId) → list_any (λ b. b == 46) (numbered_text e) ≡ true
numbered_has_dot e =
    ap (list_any (λ b. b == 46)) (numbered_parts e)
    ∙ list_any-append (λ b. b == 46) (decimal e.pen) (46 ∷ decimal e.number)
    ∙ or_right (list_any (λ b. b == 46) (decimal e.pen)) true refl

-- the first dot is the one after a text that has none
cut : (xs ys : List ℕ) → ((i : ℕ) → i < length xs → get_or xs i 0 ≢ 46) → position_or_len (λ b. b == 46) (xs ++ 46 ∷ ys) ≡ length xs
cut xs ys none =
    position_or_len_is (λ b. b == 46) (xs ++ 46 ∷ ys) (length xs) 0 (omega (arith, length-append xs (46 ∷ ys)))
    (λ k within. ne_eqb (get_or (xs ++ 46 ∷ ys) k 0) 46 (subst (λ (n : ℕ). n ≢ 46) (sym (get_or_append_left xs (46 ∷ ys) 0 k within)) (none k within)))
    (λ _. eq-eqb (get_or (xs ++ 46 ∷ ys) (length xs) 0) 46 (get_or-append_seam xs 46 ys 0))

before : (xs ys : List ℕ) → ((i : ℕ) → i < length xs → get_or xs i 0 ≢ 46) → before_first (λ b. b == 46) (xs ++ 46 ∷ ys) ≡ xs
before xs ys none = ap (λ (n : ℕ). take n (xs ++ 46 ∷ ys)) (cut xs ys none) ∙ take_at xs (46 ∷ ys) (length xs) refl

after : (xs ys : List ℕ) → ((i : ℕ) → i < length xs → get_or xs i 0 ≢ 46) → after_first (λ b. b == 46) (xs ++ 46 ∷ ys) ≡ ys
after xs ys none =
    ap (λ (n : ℕ). drop (n + 1) (xs ++ 46 ∷ ys)) (cut xs ys none)
    ∙ sym (drop-drop 1 (length xs) (xs ++ 46 ∷ ys))
    ∙ ap (drop 1) (drop_at xs (46 ∷ ys) (length xs) refl)

-- the numbers of a written form
numbers_again : (e : ElementId) → IsElement e → numbers_in (numbered_text e) ≡ e
unfolding numbers_in
numbers_again e fits =
    let small : e.pen < 2 ^ 64 = omega (arith, fits.pen) in
    let parts = ap (drop 1) (numbered_parts e) in
    let pen = ap (λ (t : List ℕ). digits_value 10 (before_first (λ b. b == 46) t)) parts ∙ ap (digits_value 10) (before (decimal e.pen) (decimal e.number) (no_dot e.pen small)) ∙ digits_value-decimal digits e.pen small in
    let number = ap (λ (t : List ℕ). digits_value 10 (after_first (λ b. b == 46) t)) parts ∙ ap (digits_value 10) (after (decimal e.pen) (decimal e.number) (no_dot e.pen small)) ∙ digits_value-decimal digits e.number (omega (arith, fits.number)) in
    λ i. record { pen = pen i; number = number i }

-- what is written is read again
pub numbered_again : (t : List ℕ) (e : ElementId) → IsElement e → t ≡ numbered_text e → numbered_element t ≡ Some e
numbered_again t e fits is =
    let same = ap numbers_in is ∙ numbers_again e fits in
    let text = (bytes_eq-Decides t (numbered_text (numbers_in t))).1 (is ∙ ap numbered_text (sym same)) in
    let pen = lt-ltb (numbers_in t).pen (2 ^ 32) (subst (λ (d : ElementId). d.pen < 2 ^ 32) (sym same) fits.pen) in
    let number = lt-ltb (numbers_in t).number (2 ^ 15) (subst (λ (d : ElementId). d.number < 2 ^ 15) (sym same) fits.number) in
    cond-true _ (Some (numbers_in t)) None (and_from _ _ (and_from _ _ text pen) number) ∙ ap (λ (d : ElementId). Some d) same

-- what is read is written so
pub numbered_so : (t : List ℕ) (e : ElementId) → numbered_element t ≡ Some e → IsElement e × (t ≡ numbered_text e)
numbered_so t e h =
    let chosen = cond_some _ (numbers_in t) e h in
    let tests = and_parts _ _ chosen.0 in
    let both = and_parts _ _ tests.0 in
    let pen = ltb-true (numbers_in t).pen (2 ^ 32) both.1 in
    let number = ltb-true (numbers_in t).number (2 ^ 15) tests.1 in (
      record { pen = subst (λ (d : ElementId). d.pen < 2 ^ 32) chosen.1 pen; number = subst (λ (d : ElementId). d.number < 2 ^ 15) chosen.1 number },
      (bytes_eq-Decides t (numbered_text (numbers_in t))).0 both.0 ∙ ap numbered_text chosen.1,
    )

-- a decimal number is parsed
pub parsed : {E : Type 0} (k n : ℕ) (bs : List ℕ) (r : Result ℕ E) (o : Option ℕ) → n < 2 ^ k → n < 2 ^ 64 → bs ≡ decimal n → ParsesUnsigned k 10 bs r → o ≡ result_ok r → o ≡ Some n
parsed k n bs r o fits small is parses ok = ok ∙ ap result_ok (parse-decimal k n bs r fits small is parses)

-- what follows an `e`
pub stripped_none : (bs rest : List ℕ) (r : Option (Bor (List ℕ))) → MatchOption r ((rest : List ℕ) → bs ≢ 101 ∷ rest) (λ x. bs ≡ 101 ∷ x.now) → r ≡ None → bs ≡ 101 ∷ rest → ⊥
stripped_none bs rest None h none is = h rest is
stripped_none bs rest (Some x) h none is = none-some x (sym none)

pub stripped_some : (bs rest : List ℕ) (x : Bor (List ℕ)) (r : Option (Bor (List ℕ))) → MatchOption r ((rest : List ℕ) → bs ≢ 101 ∷ rest) (λ x. bs ≡ 101 ∷ x.now) → r ≡ Some x → bs ≡ 101 ∷ rest → x.now ≡ rest
stripped_some bs rest x None h some is = absurd (none-some x some)
stripped_some bs rest x (Some y) h some is =
    let same : y.now ≡ rest = cc in
    ap (λ (v : Bor (List ℕ)). v.now) (sym (same_Some y x some)) ∙ same

pub some_and : {X : Type 0} (P : X → Type 0) (o : Option X) → MatchOption o ⊥ P → IsSomeAnd o P
some_and P None h = h
some_and P (Some x) h = h
