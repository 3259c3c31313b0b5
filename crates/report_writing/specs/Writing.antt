-- What a call answers that writes lines.
use Rattle.std.specs.Prelude.{ℕ, List, OnErr, OnOk, Result}
use Rattle.report_writing.specs.Lines.{Adds, LinesView, StaysFailed}

-- on Ok the text was written after what was told before, and nothing else; on Err a write failed; and one that failed before has failed
pub record Tells {W A E : Type 0} (lines : W → LinesView) (old new : W) (result : Result A E) (text : List ℕ) : Type 0 where
  pub told : OnOk result (Adds lines old new text)
  pub failed : OnErr result (lines new).failed
  pub kept : StaysFailed lines old new
