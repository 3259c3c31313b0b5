-- Why nothing was collected: of which records a sum is too large, and where.
use Rattle.std.specs.Prelude.{◌≡◌, ◌≢◌, ◌⊎◌, ℕ, true, List, Option, Some, None, Result, Ok, Err}
use Rattle.ipfix_message.specs.declared.record.DataRecord.{DataRecord}
use Rattle.ipfix_session.specs.Sources.{SourceView}
use Rattle.flow_table.specs.Plans.{PlanValue}
use Rattle.flow_table.specs.Tables.{AreTooMany, IsLargeRow}
use Rattle.flow_table.specs.declared.table.RowPlace.{RowPlace}
use Rattle.flow_collect.specs.Great.{first_great}
use Rattle.flow_collect.specs.Headline.{all_of}
use Rattle.flow_collect.specs.InFull.{IsGivenInContext}
use Rattle.flow_collect.specs.Places.{Each4}
use Rattle.flow_collect.specs.Rated.{tell_large}
use Rattle.flow_collect.specs.Refusals.{AreTooLargeInContext}
use Rattle.flow_collect.specs.declared.collected.FilteredReport.{FilteredReport}
use Rattle.flow_collect.specs.declared.failure.CollectFailure.{CollectFailure}
use Rattle.flow_collect.specs.declared.fault.CollectFault.{CollectFault}
use Rattle.flow_collect.specs.declared.fault.CollectFault.TheVariants.{SumTooLarge}
use Rattle.flow_collect.specs.declared.session_context.InContext.{InContext}

-- a fault alone
abbrev pub only_fault : CollectFault → CollectFailure
only_fault fault = record { fault = fault; row = None; session = None }

-- a sum is too large, where sessions tell this
abbrev pub large_failure : Option RowPlace → List FilteredReport → CollectFailure
large_failure row reports = record { fault = SumTooLarge; row = row; session = first_great reports }

-- by what sessions tell of sampling
abbrev pub sampling_failure : CollectFault → List FilteredReport → CollectFailure
sampling_failure SumTooLarge reports = large_failure None reports
sampling_failure fault reports = only_fault fault

-- its fault alone
abbrev pub fault_in : {X : Type 0} → Result X CollectFailure → Result X CollectFault
fault_in (Ok x) = Ok x
fault_in (Err failure) = Err failure.fault

-- of the rows of these records this one is too large; or without a row there are too many records to be counted, or a
-- session tells of an estimate that is too large
abbrev pub NamesLarge : PlanValue → List DataRecord → List FilteredReport → Option RowPlace → Type 0
NamesLarge plan records reports (Some row) = IsLargeRow plan records row
NamesLarge plan records reports None = AreTooMany plan records ⊎ (tell_large reports ≡ true)

module _ {S : Type 0} (seen : S → SourceView) (plan : PlanValue) (sources : List (InContext S)) where
  -- each session got records of its source, as its report tells; of all these the row is too large, and the session is the
  -- first that tells of a great counter
  pub record IsOfLarge (failure : CollectFailure) : Type 0 where
    pub afters : List S
    pub reports : List FilteredReport
    pub records : List (List DataRecord)
    pub given : Each4 (IsGivenInContext seen) sources afters reports records
    pub row_is : NamesLarge plan (all_of records) reports failure.row
    pub session_is : failure.session ≡ first_great reports

  -- a row and a session stand only beside a sum that is too large
  pub record TellsLarge (failure : CollectFailure) : Type 0 where
    pub large : failure.fault ≡ SumTooLarge → IsOfLarge failure
    pub others : failure.fault ≢ SumTooLarge → failure ≡ only_fault failure.fault

  -- the sum of a row is too large
  pub record IsLargeRun (failure : CollectFailure) : Type 0 where
    pub fault_is : failure.fault ≡ SumTooLarge
    pub due : AreTooLargeInContext seen plan sources
    pub of_large : IsOfLarge failure
