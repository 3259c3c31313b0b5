-- Texts that are cut at an octet, and lists of which each item has something.
use Rattle.std.proofs.Common.{◌≡◌, ◌<◌, ◌≤◌, ℕ, Bool, true, false, cond, eqb, nat_lt, List, [], ◌∷◌, ◌++◌, length, map, Option, Some, None, option_map, refl, sym, ap, ap₂, ◌∙◌, append_assoc, arith, inl, inr}
use Rattle.std.specs.Prelude.{◌≢◌, MatchOption, option_and_then}
use Rattle.std.specs.List.{after_first, before_first, position_or_len}
use Rattle.std.proofs.lemmas.Bool.{cases_Bool, eqb-true, ltb-false, ltb-true}
use denote.Bor.{Bor}
use Rattle.flow_plan_fields.specs.Keys.{after_space, cut_at}

both_parts : List ℕ → List ℕ → Option (List ℕ × List ℕ)
both_parts a b = Some (a, b)

pub cut_is : (c : ℕ) (text : List ℕ) (r : Option (Bor (List ℕ) × Bor (List ℕ)))
    → MatchOption r (position_or_len (λ b. eqb b c) text ≡ length text) (λ x. (position_or_len (λ b. eqb b c) text < length text) × (x.0.now ≡ before_first (λ b. eqb b c) text) × (x.1.now ≡ after_first (λ b. eqb b c) text))
    → option_map (λ p. (p.0.now, p.1.now)) r ≡ cut_at c text
cut_is c text None h = elim (cases_Bool (nat_lt (position_or_len (λ b. eqb b c) text) (length text))) [
  | inl less ↦ let below : position_or_len (λ b. eqb b c) text < length text = ltb-true _ _ less in absurd (omega (arith, below, h))
  | inr not ↦ sym (ap (λ (b : Bool). cond b (Some (before_first (λ b. eqb b c) text, after_first (λ b. eqb b c) text)) None) not)
]
cut_is c text (Some x) h = elim (cases_Bool (nat_lt (position_or_len (λ b. eqb b c) text) (length text))) [
  | inl less ↦
      ap₂ (λ (a b : List ℕ). Some (a, b)) h.1 h.2 ∙ sym (ap (λ (b : Bool). cond b (Some (before_first (λ b. eqb b c) text, after_first (λ b. eqb b c) text)) None) less)
  | inr not ↦ let above : length text ≤ position_or_len (λ b. eqb b c) text = ltb-false _ _ not in absurd (omega (arith, above, h.0))
]

-- ---- a space in front

pub no_space : (text : List ℕ) → ((rest : List ℕ) → text ≢ 32 ∷ rest) → text ≡ after_space text
no_space [] none = refl
no_space (b ∷ text) none = elim (cases_Bool (eqb b 32)) [
  | inl is ↦ absurd (none text (ap (λ (n : ℕ). n ∷ text) (eqb-true b 32 is)))
  | inr not ↦ sym (ap (λ (c : Bool). cond c text (b ∷ text)) not)
]

pub a_space : (text rest : List ℕ) → text ≡ 32 ∷ rest → rest ≡ after_space text
a_space text rest is = sym (ap after_space is)

-- ---- what each of a list has

pub one_named : {X : Type 0} (first : Option X) (x : X) (xs : List X) (o : Option (List X)) → first ≡ Some x
    → option_map (λ more. (xs ++ x ∷ []) ++ more) o ≡ option_map (λ more. xs ++ more) (option_and_then (λ y. option_map (λ ys. y ∷ ys) o) first)
one_named first x xs None is = sym (ap (λ f. option_map (λ more. xs ++ more) (option_and_then (λ y. option_map (λ ys. y ∷ ys) None) f)) is)
one_named first x xs (Some more) is =
    ap (λ l. Some l) (append_assoc xs (x ∷ []) more) ∙ sym (ap (λ f. option_map (λ more. xs ++ more) (option_and_then (λ y. option_map (λ ys. y ∷ ys) (Some more)) f)) is)
