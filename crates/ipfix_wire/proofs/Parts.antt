-- Reading one spelling after another gives the one list that is spelled.
use Rattle.std.proofs.Common.{◌≡◌, ℕ, zero, suc, ◌<◌, ◌≤◌, List, [], ◌∷◌, ◌++◌, length, Result, Ok, Err, refl, sym, ap, subst, ◌∙◌, append_assoc, arith, inl, inr}
use Rattle.std.specs.Prelude.{◌⊎◌, All}
use Rattle.std.proofs.lemmas.List.Elements.{All-nil, All-cons}
use Rattle.ipfix_wire.specs.Numbers.{IsOctets}
use Rattle.ipfix_wire.specs.InTurn.{InTurn, Reader, Parts, parts_with, parts_of}
use Rattle.ipfix_wire.proofs.Octets.{IsOctets-front, IsOctets-rest}

-- either of the two, with the equation
pub cases_read : {F A : Type 0} (r : Result A F) → ((x : A) × (r ≡ Ok x)) ⊎ ((e : F) × (r ≡ Err e))
cases_read (Ok x) = inl (x, refl)
cases_read (Err e) = inr (e, refl)

-- a reader takes at least one octet
pub record Shrinks {F X : Type 0} (step : Reader F X) : Type 0 where
  pub less : (w : List ℕ) (x : X) (r : List ℕ) → step w ≡ Ok (x, r) → length r < length w

abbrev pub cons : {X : Type 0} → X → Parts X → Parts X
cons x more = record { items = x ∷ more.items; rest = more.rest }

abbrev pub nothing : {X : Type 0} → List ℕ → Parts X
nothing w = record { items = []; rest = w }

-- ---- any fuel from the length of the text on is enough

pub parts_with-next : {F X : Type 0} (step : Reader F X) (fuel : ℕ) (w : List ℕ) (x : X) (r : List ℕ) → step w ≡ Ok (x, r) → parts_with step (suc fuel) w ≡ cons x (parts_with step fuel r)
unfolding parts_with
parts_with-next step fuel w x r h = rw (h, parts_with) refl

pub parts_with-none : {F X : Type 0} (step : Reader F X) (fuel : ℕ) (w : List ℕ) (e : F) → step w ≡ Err e → parts_with step fuel w ≡ nothing w
unfolding parts_with
parts_with-none step zero w e h = refl
parts_with-none step (suc fuel) w e h = rw (h, parts_with) refl

pub parts_with-zero : {F X : Type 0} (step : Reader F X) (w : List ℕ) → parts_with step 0 w ≡ nothing w
unfolding parts_with
parts_with-zero step w = refl

pub enough : {F X : Type 0} (step : Reader F X) → Shrinks step → (n m : ℕ) (w : List ℕ) → length w ≤ n → length w ≤ m → parts_with step n w ≡ parts_with step m w
enough step shrinks zero m w a b =
    elim (cases_read (step w)) [
      | inl found ↦ let less = shrinks.less w found.0.0 found.0.1 found.1 in absurd (omega arith)
      | inr none ↦ parts_with-none step 0 w none.0 none.1 ∙ sym (parts_with-none step m w none.0 none.1)
    ]
enough step shrinks (suc n) zero w a b =
    elim (cases_read (step w)) [
      | inl found ↦ let less = shrinks.less w found.0.0 found.0.1 found.1 in absurd (omega arith)
      | inr none ↦ parts_with-none step (suc n) w none.0 none.1 ∙ sym (parts_with-none step 0 w none.0 none.1)
    ]
enough step shrinks (suc n) (suc m) w a b =
    elim (cases_read (step w)) [
      | inl found ↦
          let less = shrinks.less w found.0.0 found.0.1 found.1 in
          parts_with-next step n w found.0.0 found.0.1 found.1
          ∙ ap (cons found.0.0) (enough step shrinks n m found.0.1 (omega arith) (omega arith))
          ∙ sym (parts_with-next step m w found.0.0 found.0.1 found.1)
      | inr none ↦ parts_with-none step (suc n) w none.0 none.1 ∙ sym (parts_with-none step (suc m) w none.0 none.1)
    ]

pub parts_of-is : {F X : Type 0} (step : Reader F X) (w : List ℕ) → parts_of step w ≡ parts_with step (length w) w
unfolding parts_of
parts_of-is step w = refl

-- one more in front
pub parts_of-next : {F X : Type 0} (step : Reader F X) → Shrinks step → (w : List ℕ) (x : X) (r : List ℕ) → step w ≡ Ok (x, r) → parts_of step w ≡ cons x (parts_of step r)
parts_of-next step shrinks w x r h =
    let less = shrinks.less w x r h in
    parts_of-is step w ∙ enough step shrinks (length w) (suc (length w)) w (omega arith) (omega arith)
    ∙ parts_with-next step (length w) w x r h
    ∙ ap (cons x) (enough step shrinks (length w) (length r) r (omega arith) (omega arith) ∙ sym (parts_of-is step r))

-- none in front
pub parts_of-none : {F X : Type 0} (step : Reader F X) (w : List ℕ) (e : F) → step w ≡ Err e → parts_of step w ≡ nothing w
parts_of-none step w e h = parts_of-is step w ∙ parts_with-none step (length w) w e h

-- ---- what is read is spelled so, and what is spelled so is read

pub record Spelled {X : Type 0} (P : X → List ℕ → Type 0) (w : List ℕ) (x : X) (r : List ℕ) : Type 0 where
  pub text : List ℕ
  pub whole : w ≡ text ++ r
  pub is : P x text

-- what holds of each that octets spell holds of all that they spell in turn
pub InTurn-all : {X : Type 0} (P : X → List ℕ → Type 0) (Q : X → Type 0) → ((x : X) (u : List ℕ) → IsOctets u → P x u → Q x) → (xs : List X) (w : List ℕ) → IsOctets w → InTurn P xs w → All Q xs
InTurn-all P Q each [] w fits spelled = All-nil Q
InTurn-all P Q each (x ∷ xs) w fits spelled =
    let u = spelled.0 in
    let v = spelled.1 in
    let both = subst IsOctets spelled.2 fits in
    All-cons Q x xs (each x u (IsOctets-front u v both) spelled.3) (InTurn-all P Q each xs v (IsOctets-rest u v both) spelled.4)

pub record Reads {F X : Type 0} (P : X → List ℕ → Type 0) (step : Reader F X) : Type 0 where
  pub found : (w : List ℕ) (x : X) (r : List ℕ) → IsOctets w → step w ≡ Ok (x, r) → Spelled P w x r
  pub only : (x : X) (u r : List ℕ) → P x u → step (u ++ r) ≡ Ok (x, r)

pub record AllSpelled {X : Type 0} (P : X → List ℕ → Type 0) (w : List ℕ) (parts : Parts X) : Type 0 where
  pub text : List ℕ
  pub whole : w ≡ text ++ parts.rest
  pub is : InTurn P parts.items text

pub parts_with-found : {F X : Type 0} (P : X → List ℕ → Type 0) (step : Reader F X) → Reads P step → (fuel : ℕ) (w : List ℕ) → IsOctets w → AllSpelled P w (parts_with step fuel w)
parts_with-found P step reads zero w fits = subst (AllSpelled P w) (sym (parts_with-zero step w)) (record { text = []; whole = refl; is = refl })
parts_with-found P step reads (suc fuel) w fits =
    elim (cases_read (step w)) [
      | inl found ↦
          let one = reads.found w found.0.0 found.0.1 fits found.1 in
          let more = parts_with-found P step reads fuel found.0.1 (IsOctets-rest one.text found.0.1 (subst IsOctets one.whole fits)) in
          subst (AllSpelled P w) (sym (parts_with-next step fuel w found.0.0 found.0.1 found.1))
          (record { text = one.text ++ more.text; whole = one.whole ∙ ap (λ (t : List ℕ). one.text ++ t) more.whole ∙ sym (append_assoc one.text more.text _); is = (one.text, more.text, refl, one.is, more.is) })
      | inr none ↦ subst (AllSpelled P w) (sym (parts_with-none step (suc fuel) w none.0 none.1)) (record { text = []; whole = refl; is = refl })
    ]

pub parts_of-found : {F X : Type 0} (P : X → List ℕ → Type 0) (step : Reader F X) → Reads P step → (w : List ℕ) → IsOctets w → AllSpelled P w (parts_of step w)
parts_of-found P step reads w fits = subst (AllSpelled P w) (sym (parts_of-is step w)) (parts_with-found P step reads (length w) w fits)

pub parts_of-only : {F X : Type 0} (P : X → List ℕ → Type 0) (step : Reader F X) → Reads P step → Shrinks step → (xs : List X) (u r : List ℕ) (e : F) → InTurn P xs u → step r ≡ Err e
    → parts_of step (u ++ r) ≡ record { items = xs; rest = r }
parts_of-only P step reads shrinks [] u r e spelled none = rw spelled (parts_of-none step r e none)
parts_of-only P step reads shrinks (x ∷ xs) u r e spelled none =
    let a = spelled.0 in
    let b = spelled.1 in
    let regrouped : u ++ r ≡ a ++ (b ++ r) = ap (λ (t : List ℕ). t ++ r) spelled.2 ∙ append_assoc a b r in
    ap (parts_of step) regrouped ∙ parts_of-next step shrinks (a ++ (b ++ r)) x (b ++ r) (reads.only x a (b ++ r) spelled.3)
    ∙ ap (cons x) (parts_of-only P step reads shrinks xs b r e spelled.4 none)
