-- Reading one spelling after another finds the longest list that is spelled.
use Rattle.std.proofs.Common.{◌≡◌, ℕ, zero, suc, ◌≤◌, List, ◌++◌, length, Result, Ok, Err, sym, ap, subst, ◌∙◌, arith, inl, inr}
use Rattle.ipfix_wire.specs.Numbers.{IsOctets}
use Rattle.ipfix_wire.specs.InTurn.{IsLongest, Reader, Parts, parts_of}
use Rattle.ipfix_wire.proofs.Octets.{IsOctets-rest}
use Rattle.ipfix_wire.proofs.Parts.{Shrinks, Reads, cases_read, parts_of-next, parts_of-none, parts_of-found, parts_of-only}

abbrev pub FaultAt : {F X : Type 0} → Reader F X → List ℕ → Type 0
FaultAt {F} step w = (e : F) × (step w ≡ Err e)

-- the rest begins with nothing
pub parts_of-last : {F X : Type 0} (step : Reader F X) → Shrinks step → (fuel : ℕ) (w : List ℕ) → length w ≤ fuel → FaultAt step (parts_of step w).rest
parts_of-last {F} {X} step shrinks zero w enough =
    elim (cases_read (step w)) [
      | inl found ↦ let less = shrinks.less w found.0.0 found.0.1 found.1 in absurd (omega arith)
      | inr none ↦ subst (λ (p : Parts X). FaultAt step p.rest) (sym (parts_of-none step w none.0 none.1)) none
    ]
parts_of-last {F} {X} step shrinks (suc fuel) w enough =
    elim (cases_read (step w)) [
      | inl found ↦
          let less = shrinks.less w found.0.0 found.0.1 found.1 in
          subst (λ (p : Parts X). FaultAt step p.rest) (sym (parts_of-next step shrinks w found.0.0 found.0.1 found.1))
          (parts_of-last step shrinks fuel found.0.1 (omega arith))
      | inr none ↦ subst (λ (p : Parts X). FaultAt step p.rest) (sym (parts_of-none step w none.0 none.1)) none
    ]

abbrev read_ok : {F X : Type 0} → X → List ℕ → Result (X × List ℕ) F
read_ok x r = Ok (x, r)

-- where reading fails nothing is spelled
fault_spells_none : {F X : Type 0} (P : X → List ℕ → Type 0) (step : Reader F X) → Reads P step → (rest : List ℕ) (e : F) → step rest ≡ Err e
    → (x : X) (u v : List ℕ) → rest ≡ u ++ v → P x u → ⊥
fault_spells_none {F} {X} P step reads rest e fails x u v split spelled =
    let found : step rest ≡ read_ok x v = ap step split ∙ reads.only x u v spelled in
    let both : read_ok {F = F} x v ≡ Err e = sym found ∙ fails in
    cc

-- what is read is the longest list that is spelled
pub longest_from : {F X : Type 0} (P : X → List ℕ → Type 0) (step : Reader F X) → Reads P step → Shrinks step → (w : List ℕ) → IsOctets w
    → IsLongest P (parts_of step w).items (parts_of step w).rest w
longest_from P step reads shrinks w fits =
    let all = parts_of-found P step reads w fits in
    let last = parts_of-last step shrinks (length w) w (omega arith) in
    record { text = all.text; whole = all.whole; spelled = all.is; last = fault_spells_none P step reads (parts_of step w).rest last.0 last.1 }

-- the longest list that is spelled is read
pub longest_only : {F X : Type 0} (P : X → List ℕ → Type 0) (step : Reader F X) → Reads P step → Shrinks step → (xs : List X) (rest w : List ℕ) → IsOctets w
    → IsLongest P xs rest w → parts_of step w ≡ record { items = xs; rest = rest }
longest_only {F} {X} P step reads shrinks xs rest w fits longest =
    elim (cases_read (step rest)) [
      | inl found ↦
          let one = reads.found rest found.0.0 found.0.1 (IsOctets-rest longest.text rest (subst IsOctets longest.whole fits)) found.1 in
          absurd (longest.last found.0.0 one.text found.0.1 one.whole one.is)
      | inr none ↦ ap (parts_of step) longest.whole ∙ parts_of-only P step reads shrinks xs longest.text rest none.0 longest.spelled none.1
    ]
