-- How the table of a day stands to its parts, by its receipt.
use Rattle.std.proofs.Common.{ℕ, List, Some, Result, Ok, Err, inr}
use Rattle.std.specs.Prelude.{IfOk}
use Rattle.std.specs.Borrow.{Bor}
use Rattle.recording_names.specs.declared.period.Period.{Period}
use Rattle.report_writing.specs.declared.reason.Reason.{Reason}
use Rattle.table_parts.specs.declared.files.PartFiles.{PartFiles}
use Rattle.period_tables.specs.Standing.{PlaceView}
use Rattle.command_tables.specs.DayOutcomes.{StandsAs}
use Rattle.command_tables.specs.SaidTogether.{IsStanding}
use Rattle.command_tables.specs.TextsByName.{HasText, RefusesText}
use Rattle.command_tables.specs.declared.days.day_job.DayJob.{DayJob}
use Rattle.command_tables.specs.declared.days.standing.Standing.{Standing}
use Rattle.command_tables.specs.declared.days.standing.Standing.TheVariants.{Theirs, Others, Lacking}

pub settled : {T : Type 0} (sees : PlaceView T) (job : DayJob) (parts : Bor (List PartFiles)) (day : Period) (tables days : T) (own : List ℕ) → sees.receipt_at days day.begins (Some own) → (answer : Result Standing Reason)
    → IfOk answer (IsStanding (HasText sees tables) (RefusesText sees tables) job.text.at_hand parts.now own)
    → IfOk answer (StandsAs sees job parts day tables days)
settled sees job parts day tables days own stands (Ok Theirs) says = record { own = own; stands = stands; says = says }
settled sees job parts day tables days own stands (Ok Others) says = inr (own, stands, says)
settled sees job parts day tables days own stands (Ok (Lacking name)) says = record { own = own; stands = stands; less = says }
settled sees job parts day tables days own stands (Err reason) says = tt
