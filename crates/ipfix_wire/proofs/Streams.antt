-- Reading a text that goes on: what was read stays, and reading goes on from the rest.
use Rattle.std.proofs.Common.{◌≡◌, ℕ, zero, suc, ◌≤◌, List, ◌++◌, length, Ok, sym, ap, ◌∙◌, arith, inl, inr}
use Rattle.ipfix_wire.specs.InTurn.{Reader, Parts, parts_of}
use Rattle.ipfix_wire.proofs.Parts.{Shrinks, cons, cases_read, parts_of-next, parts_of-none}

-- what a text begins with does not change when more follows
pub record Stable {F X : Type 0} (step : Reader F X) : Type 0 where
  pub same : (w : List ℕ) (x : X) (r y : List ℕ) → step w ≡ Ok (x, r) → step (w ++ y) ≡ Ok (x, r ++ y)

-- after what was read before
abbrev pub join : {X : Type 0} → List X → Parts X → Parts X
join xs p = record { items = xs ++ p.items; rest = p.rest }

-- reading a text that goes on is reading on from its rest
pub parts_of-append : {F X : Type 0} (step : Reader F X) → Shrinks step → Stable step → (fuel : ℕ) (w y : List ℕ) → length w ≤ fuel
    → parts_of step (w ++ y) ≡ join (parts_of step w).items (parts_of step ((parts_of step w).rest ++ y))
parts_of-append {F} {X} step shrinks stable zero w y enough =
    elim (cases_read (step w)) [
      | inl found ↦ let less = shrinks.less w found.0.0 found.0.1 found.1 in absurd (omega arith)
      | inr none ↦ sym (ap (λ (p : Parts X). join p.items (parts_of step (p.rest ++ y))) (parts_of-none step w none.0 none.1))
    ]
parts_of-append {F} {X} step shrinks stable (suc fuel) w y enough =
    elim (cases_read (step w)) [
      | inl found ↦
          let x = found.0.0 in
          let r = found.0.1 in
          let less = shrinks.less w x r found.1 in
          parts_of-next step shrinks (w ++ y) x (r ++ y) (stable.same w x r y found.1)
          ∙ ap (cons x) (parts_of-append step shrinks stable fuel r y (omega arith))
          ∙ sym (ap (λ (p : Parts X). join p.items (parts_of step (p.rest ++ y))) (parts_of-next step shrinks w x r found.1))
      | inr none ↦ sym (ap (λ (p : Parts X). join p.items (parts_of step (p.rest ++ y))) (parts_of-none step w none.0 none.1))
    ]
