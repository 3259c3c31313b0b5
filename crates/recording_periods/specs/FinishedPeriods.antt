-- When a period is finished.
use Rattle.std.specs.Prelude.{◌≡◌, ◌<◌, ◌≤◌, ◌+◌, ℕ, List, All, string_bytes}
use Rattle.std.specs.declared.alloc.Global.{Global}
use Rattle.std.specs.declared.string.String.{String}
use Rattle.recording_names.specs.PeriodNames.{calendar_end}
use Rattle.recording_names.specs.UnfinishedNames.{name_of_unfinished}
use Rattle.recording_periods.specs.Firsts.{IsFirst}
use Rattle.recording_periods.specs.declared.finished_period.PeriodRule.{PeriodRule}
use Rattle.recording_periods.specs.declared.finished_period.PeriodState.{PeriodState}
use Rattle.recording_periods.specs.declared.finished_period.PeriodState.TheVariants.{NotOver, HeldUp, Finished}

-- by the clock its end and the grace are over
abbrev pub IsOver : PeriodRule → ℕ → ℕ → Type 0
IsOver rule now begins = begins + rule.every + rule.grace ≤ now

-- the name of an unfinished file of the period that begins then, or of one before it; any other name holds nothing up
pub record HoldsUp (begins : ℕ) (name : List ℕ) : Type 0 where
  pub period : ℕ
  pub session : List ℕ
  pub in_calendar : period < calendar_end
  pub up_to : period ≤ begins
  pub named : name ≡ name_of_unfinished period session

-- none of these names holds it up
abbrev pub NoneHoldsUp : ℕ → List (String Global) → Type 0
NoneHoldsUp begins unfinished = All (λ name. ¬ HoldsUp begins (string_bytes name)) unfinished

-- its end and the grace are over, and no unfinished file is of it or of a period before it
pub record IsFinished (rule : PeriodRule) (now : ℕ) (unfinished : List (String Global)) (begins : ℕ) : Type 0 where
  pub over : IsOver rule now begins
  pub free : NoneHoldsUp begins unfinished

-- the first of these names that holds it up
abbrev pub IsFirstToHold : ℕ → List (String Global) → List ℕ → Type 0
IsFirstToHold begins = IsFirst (λ name. ¬ HoldsUp begins (string_bytes name)) (λ name. HoldsUp begins (string_bytes name))

-- why a period isn't finished, or that it is; exactly one of the three is so
abbrev pub IsPeriodState : PeriodRule → ℕ → List (String Global) → ℕ → PeriodState → Type 0
IsPeriodState rule now unfinished begins NotOver = now < begins + rule.every + rule.grace
IsPeriodState rule now unfinished begins (HeldUp name) = IsOver rule now begins × IsFirstToHold begins unfinished name.now
IsPeriodState rule now unfinished begins Finished = IsFinished rule now unfinished begins
