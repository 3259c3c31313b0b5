-- A period has one state, and a table.
use Rattle.std.proofs.Common.{ℕ, List, Some, string_bytes, refl, arith}
use Rattle.std.specs.Prelude.{◌≢◌}
use Rattle.std.specs.Borrow.{Bor}
use Rattle.std.specs.declared.alloc.Global.{Global}
use Rattle.std.specs.declared.string.String.{String}
use Rattle.recording_periods.specs.FinishedPeriods.{HoldsUp, IsFinished, IsPeriodState}
use Rattle.recording_periods.specs.TableStates.{IsGone, IsLate, IsListed, IsNamed, IsPathTo, IsTableState}
use Rattle.recording_periods.specs.declared.due_tables.TableState.TheVariants.{Due, UpToDate, Gone}
use Rattle.recording_periods.specs.declared.finished_period.PeriodRule.{PeriodRule}
use Rattle.recording_periods.specs.declared.finished_period.PeriodState.{PeriodState}
use Rattle.recording_periods.specs.declared.finished_period.PeriodState.TheVariants.{NotOver, HeldUp, Finished}
use Rattle.recording_periods.proofs.Loops.{no_first, some_or_all}

module _ (files paths : List (String Global)) where
  pub not_if_due : IsTableState files (Some paths) Due → IsTableState files (Some paths) UpToDate → ⊥
  not_if_due due up = some_or_all (IsLate paths) (IsNamed paths) files
      (λ name late named. some_or_all (λ (path : String Global). IsPathTo (string_bytes name) (string_bytes path)) (λ (path : String Global). ¬ IsPathTo (string_bytes name) (string_bytes path)) paths (λ path is isnt. isnt is) named late) due.1 up.1

  pub not_if_gone : (path : Bor (List ℕ)) → IsTableState files (Some paths) (Gone path) → IsTableState files (Some paths) UpToDate → ⊥
  not_if_gone path gone up = no_first (IsListed files) (IsGone files) paths path.now
      (λ one is listed. some_or_all (λ (name : String Global). IsPathTo (string_bytes name) (string_bytes one)) (λ (name : String Global). ¬ IsPathTo (string_bytes name) (string_bytes one)) files (λ name is_path isnt. isnt is_path) listed is) gone up.0

pub not_if_it_waits : (rule : PeriodRule) (now : ℕ) (unfinished : List (String Global)) (begins : ℕ) (state : PeriodState) → state ≢ Finished → IsPeriodState rule now unfinished begins state → IsFinished rule now unfinished begins → ⊥
not_if_it_waits rule now unfinished begins NotOver other is finished = absurd (omega (arith, is, finished.over))
not_if_it_waits rule now unfinished begins (HeldUp name) other is finished =
    no_first (λ held. ¬ HoldsUp begins (string_bytes held)) (λ held. HoldsUp begins (string_bytes held)) unfinished name.now (λ held holds free. free holds) is.1 finished.free
not_if_it_waits rule now unfinished begins Finished other is finished = other refl
