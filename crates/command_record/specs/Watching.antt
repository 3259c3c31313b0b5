-- A clock that is set and a folder that is gone while a run goes on, and the lines that tell of it.
use Rattle.std.specs.Prelude.{ℕ, ◌-◌, nat_le, Bool, if◌then◌else◌, List, [], ◌++◌, codes, decimal, Option, Some, None}
use Rattle.report_writing.specs.OpeningLines.{because_line}
use Rattle.report_writing.specs.declared.reason.Reason.{Reason}
use Rattle.command_record.specs.declared.watching.ClockStep.{ClockStep}
use Rattle.command_record.specs.declared.watching.ClockStep.TheVariants.{Forward, Back}

-- the clock said that the run began at one second, and then at another: it was set by what is between, if that is two seconds or more
abbrev pub step_of : ℕ → ℕ → Option ClockStep
step_of before after =
    if nat_le 2 (after - before) then Some (Forward (after - before)) else if nat_le 2 (before - after) then Some (Back (before - after)) else None

-- before its first second the clock said nothing
abbrev pub step_since : Option ℕ → ℕ → Option ClockStep
step_since None after = None
step_since (Some before) after = step_of before after

unfoldable pub forward_line : ℕ → List ℕ
forward_line seconds = codes "collectd: record: clock set forward by " ++ (decimal seconds ++ codes " seconds\n")

unfoldable pub back_line : ℕ → List ℕ
back_line seconds = codes "collectd: record: clock set back by " ++ (decimal seconds ++ codes " seconds\n")

abbrev pub set_lines : Option ClockStep → List ℕ
set_lines None = []
set_lines (Some (Forward seconds)) = forward_line seconds
set_lines (Some (Back seconds)) = back_line seconds

-- what is told of a folder that isn't there, and why it isn't: nothing if it was told before
abbrev pub folder_lines : Bool → List ℕ → Option Reason → List ℕ
folder_lines is_told path None = []
folder_lines is_told path (Some reason) = if is_told then [] else because_line (codes "folder") path reason
