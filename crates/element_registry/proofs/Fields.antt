-- Fields of a row: their places, and the octets of names.
use Rattle.std.proofs.Common.{Bor, ◌≡◌, ◌<◌, ◌+◌, ℕ, zero, suc, true, false, List, [], ◌∷◌, drop, Option, Some, None, refl, sym, ap, ◌∙◌, inl, inr, arith}
use Rattle.std.specs.Prelude.{◌&&◌, ◌||◌, ◌==◌, Result, Ok, Err, nat_le, not, length, slice_index, if◌then◌else◌}
use Rattle.std.specs.Result.{MatchResult, result_ok}
use Rattle.std.specs.Char.{is_ascii_alphanumeric}
use Rattle.std.specs.Int.{is_in_range}
use Rattle.std.specs.List.{list_all}
use Rattle.std.specs.Str.{IsUtf8, bytes_eq}
use Rattle.std.proofs.lemmas.Bool.{and_parts, cases_Bool, cond-true, cond-false, or_cases, eqb-true, leb-true}
use Rattle.std.proofs.lemmas.Option.{none-some, same_Some}
use Rattle.std.proofs.lemmas.Str.{IsUtf8-from_ascii}
use Rattle.csv.specs.Records.{field_at}
use Rattle.element_registry.specs.Rows.{begins_with_letter, is_name, is_name_octet, is_reserved, place_from}

-- one field further
next_at : (t : List ℕ) (n : ℕ) (fields : List (List ℕ)) (i : ℕ) (f : List ℕ) → field_at fields i ≡ Some f
    → place_from t n (drop i fields) ≡ (if bytes_eq f t then Some n else place_from t (n + 1) (drop (suc i) fields))
unfolding field_at
next_at t n [] i f h = absurd (none-some f h)
next_at t n (g ∷ fields) zero f h = ap (λ (x : List ℕ). if bytes_eq x t then Some n else place_from t (n + 1) fields) (same_Some g f h)
next_at t n (g ∷ fields) (suc i) f h = next_at t n fields i f h

pub place_next : (t : List ℕ) (n : ℕ) (fields : List (List ℕ)) (i : ℕ) (f : List ℕ) → field_at fields i ≡ Some f
    → place_from t n (drop i fields) ≡ (if bytes_eq f t then Some n else place_from t (n + 1) (drop (i + 1) fields))
place_next t n fields i f h =
    let is : suc i ≡ i + 1 = omega arith in
    next_at t n fields i f h ∙ ap (λ (k : ℕ). if bytes_eq f t then Some n else place_from t (n + 1) (drop k fields)) is

pub place_at : (t : List ℕ) (n : ℕ) (fields : List (List ℕ)) (i : ℕ) (f : List ℕ) → field_at fields i ≡ Some f → bytes_eq f t ≡ true
    → place_from t n (drop i fields) ≡ Some n
place_at t n fields i f h same = place_next t n fields i f h ∙ cond-true (bytes_eq f t) (Some n) (place_from t (n + 1) (drop (i + 1) fields)) same

pub place_past : (t : List ℕ) (n : ℕ) (fields : List (List ℕ)) (i : ℕ) (f : List ℕ) → field_at fields i ≡ Some f → bytes_eq f t ≡ false
    → place_from t n (drop i fields) ≡ place_from t (n + 1) (drop (i + 1) fields)
place_past t n fields i f h other = place_next t n fields i f h ∙ cond-false (bytes_eq f t) (Some n) (place_from t (n + 1) (drop (i + 1) fields)) other

-- after the last field
pub place_none : (t : List ℕ) (n : ℕ) (fields : List (List ℕ)) (i : ℕ) → field_at fields i ≡ None → place_from t n (drop i fields) ≡ None
unfolding field_at
place_none t n [] zero h = refl
place_none t n [] (suc i) h = refl
place_none t n (g ∷ fields) zero h = absurd cc
place_none t n (g ∷ fields) (suc i) h = place_none t n fields i h

range_small : (low high b : ℕ) → high < 128 → is_in_range low high b ≡ true → b < 128
range_small low high b small h = omega (arith, small, leb-true b high (and_parts (nat_le low b) (nat_le b high) h).1)

letter_small : (b : ℕ) → is_ascii_alphanumeric b ≡ true → b < 128
letter_small b h =
    elim (or_cases (is_in_range 48 57 b || is_in_range 65 90 b) (is_in_range 97 122 b) h) [
      | inl first ↦
          elim (or_cases (is_in_range 48 57 b) (is_in_range 65 90 b) first) [
            | inl digit ↦ range_small 48 57 b (omega arith) digit
            | inr upper ↦ range_small 65 90 b (omega arith) upper
          ]
      | inr lower ↦ range_small 97 122 b (omega arith) lower
    ]

octet_small : (b : ℕ) → is_name_octet b ≡ true → b < 128
octet_small b h =
    elim (or_cases (is_ascii_alphanumeric b || (b == 95)) (b == 45) h) [
      | inl first ↦
          elim (or_cases (is_ascii_alphanumeric b) (b == 95) first) [
            | inl letter ↦ letter_small b letter
            | inr low ↦ omega (arith, eqb-true b 95 low)
          ]
      | inr dash ↦ omega (arith, eqb-true b 45 dash)
    ]

small_all : (text : List ℕ) → list_all is_name_octet text ≡ true → (i : ℕ) → slice_index text i < 128
small_all [] h i = omega arith
small_all (b ∷ text) h zero = octet_small b (and_parts (is_name_octet b) (list_all is_name_octet text) h).0
small_all (b ∷ text) h (suc i) = small_all text (and_parts (is_name_octet b) (list_all is_name_octet text) h).1 i

pub name_utf8 : (text : List ℕ) → list_all is_name_octet text ≡ true → IsUtf8 text
name_utf8 text h = IsUtf8-from_ascii text (small_all text h)

-- octets that are refused are no UTF-8
pub refused_text : {E : Type 0} (t : List ℕ) (Q : E → Type 0) (r : Result (Bor (List ℕ)) E) (o : Option (Bor (List ℕ)))
    → MatchResult r (λ s. (s.now ≡ t) × IsUtf8 t) (λ e. (¬ (IsUtf8 t)) × Q e) → o ≡ result_ok r → o ≡ None → IsUtf8 t → ⊥
refused_text t Q (Ok s) o cases ok none good = none-some s (sym none ∙ ok)
refused_text t Q (Err e) o cases ok none good = cases.0 good

-- octets that are taken are the text
pub read_text : {E : Type 0} (t : List ℕ) (Q : E → Type 0) (r : Result (Bor (List ℕ)) E) (o : Option (Bor (List ℕ))) (b : Bor (List ℕ))
    → MatchResult r (λ s. (s.now ≡ t) × IsUtf8 t) (λ e. (¬ (IsUtf8 t)) × Q e) → o ≡ result_ok r → o ≡ Some b → b.now ≡ t
read_text t Q (Ok s) o b cases ok some = ap (λ (x : Bor (List ℕ)). x.now) (same_Some b s (sym some ∙ ok)) ∙ cases.0
read_text t Q (Err e) o b cases ok some = absurd (none-some b (sym ok ∙ some))

-- what is no UTF-8 is no name
pub no_name : (t : List ℕ) → (IsUtf8 t → ⊥) → is_name t ≡ false
no_name t bad =
    elim (cases_Bool (is_name t)) [
      | inl good ↦ absurd (bad (name_utf8 t (octets_of_name good)))
      | inr other ↦ other
    ]
  where
    octets_of_name : is_name t ≡ true → list_all is_name_octet t ≡ true
    octets_of_name good =
        let outer = and_parts (begins_with_letter t && list_all is_name_octet t && nat_le (length t) 64) (not (is_reserved t)) good in
        let inner = and_parts (begins_with_letter t && list_all is_name_octet t) (nat_le (length t) 64) outer.0 in
        (and_parts (begins_with_letter t) (list_all is_name_octet t) inner.0).1
