-- Runs that may end for want of a thread or of memory, before they have an answer or a failure.
use Rattle.std.specs.Prelude.{Result, IfErr, IfOk}

-- if a run has an answer, this holds of it
abbrev pub IfAnswered : {X Failure Shortage : Type 0} → Result (Result X Failure) Shortage → (X → Type 0) → Type 0
IfAnswered result P = IfOk result (λ run. IfOk run P)

-- and of a failure
abbrev pub IfFailed : {X Failure Shortage : Type 0} → Result (Result X Failure) Shortage → (Failure → Type 0) → Type 0
IfFailed result P = IfOk result (λ run. IfErr run P)
