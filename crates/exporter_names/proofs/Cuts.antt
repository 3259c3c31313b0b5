-- Texts that are cut at their last octet of a value.
use Rattle.std.proofs.Common.{◌≡◌, ℕ, ◌<◌, ◌≤◌, ◌+◌, List, [], ◌∷◌, ◌++◌, zero, suc, length, get_or, take, drop, eqb, refl, take-append-drop, Option, Some, None, sym, ap, subst, ◌∙◌, length-append, arith}
use denote.Bor.{Bor}
use Rattle.std.specs.Prelude.{◌≢◌}
use Rattle.std.specs.Option.{MatchOption}
use Rattle.std.specs.Str.{NoCharPasses}
use Rattle.std.specs.Str.Pattern.{RFindsChar}
use Rattle.std.proofs.lemmas.Str.Pattern.{NoCharPasses-char, drop_at_char}
use Rattle.std.proofs.Math.Seq.{get_or-append_seam}
use Rattle.exporter_names.specs.Cuts.{CutsAtLast, HasNo, joined}

-- ---- texts without it

pub none_in-nothing : {c : ℕ} → HasNo c []
none_in-nothing i within = absurd (omega (arith, within))

pub none_in-cons : (c b : ℕ) (text : List ℕ) → b ≢ c → HasNo c text → HasNo c (b ∷ text)
none_in-cons c b text head tail zero within = head
none_in-cons c b text head tail (suc i) within = tail i (omega (arith, within))

pub none_in-append : (c : ℕ) (xs ys : List ℕ) → HasNo c xs → HasNo c ys → HasNo c (xs ++ ys)
none_in-append c [] ys none more = more
none_in-append c (x ∷ xs) ys none more =
    none_in-cons c x (xs ++ ys) (none 0 (omega arith)) (none_in-append c xs ys (λ i within. none (suc i) (omega (arith, within))) more)

-- it follows any text
pub no_seam : (c : ℕ) (text front back : List ℕ) → HasNo c text → text ≢ joined c front back
no_seam c text front back none is =
    none (length front) (subst (λ (t : List ℕ). length front < length t) (sym is) (omega (arith, length-append front (c ∷ back))))
    (ap (λ (t : List ℕ). get_or t (length front) 0) is ∙ get_or-append_seam front c back 0)

-- ---- the last one

-- the clause of `rsplit_once` at a character
abbrev IsSplitLast : ℕ → List ℕ → Option (Bor (List ℕ) × Bor (List ℕ)) → Type 0
IsSplitLast c bs r = MatchOption r (RFindsChar c bs None)
    (λ x. (i : ℕ) × (j : ℕ) × RFindsChar c bs (Some (i, j)) × (x.0.now ≡ take i bs) × (x.1.now ≡ drop j bs) × (i ≤ j) × (length x.0.now ≡ i) × (length x.1.now + j ≡ length bs))

-- what it finds
pub last_parts : (c : ℕ) → c < 128 → (text : List ℕ) (r : Option (Bor (List ℕ) × Bor (List ℕ))) → IsSplitLast c text r
    → CutsAtLast c text r
last_parts c small text None h = λ i. NoCharPasses-char c text i h (omega (arith, small))
last_parts c small text (Some x) h = (
  sym (take-append-drop h.0 text) ∙ (λ k. sym h.3 k ++ (drop_at_char c text h.0 h.1 h.2.1 (omega (arith, small)) ∙ ap (λ l. c ∷ l) (sym h.4)) k),
  λ i. NoCharPasses-char c x.1.now i (subst (NoCharPasses (λ d. eqb d c)) (sym h.4) h.2.0) (omega (arith, small)),
)

-- there is one
pub one_cut : (c : ℕ) (front other back rest : List ℕ) → HasNo c back → HasNo c rest → joined c front back ≡ joined c other rest → (front ≡ other) × (back ≡ rest)
one_cut c [] [] back rest none no_more is = (refl, ap (drop 1) is)
one_cut c [] (b ∷ other) back rest none no_more is = absurd (no_seam c back other rest none (ap (drop 1) is))
one_cut c (b ∷ front) [] back rest none no_more is = absurd (no_seam c rest front back no_more (sym (ap (drop 1) is)))
one_cut c (b ∷ front) (d ∷ other) back rest none no_more is =
    let r = one_cut c front other back rest none no_more (ap (drop 1) is) in
    let head : b ≡ d = ap (λ (t : List ℕ). get_or t 0 0) is in
    (subst (λ (x : ℕ). b ∷ front ≡ x ∷ other) head (ap (λ (t : List ℕ). b ∷ t) r.0), r.1)
