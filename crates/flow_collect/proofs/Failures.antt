-- Where a sum is too large.
use Rattle.std.proofs.Common.{◌≡◌, ◌≢◌, List, Option, Some, None, Ok, Err, Result, Bool, true, refl, sym, ap, ◌∙◌, subst, inl, inr}
use Rattle.std.specs.Option.{IfSome}
use Rattle.ipfix_message.specs.declared.record.DataRecord.{DataRecord}
use Rattle.ipfix_session.specs.Sources.{SourceView}
use Rattle.flow_table.specs.Bags.{IsSameBag}
use Rattle.flow_table.specs.Partials.{StandsFor, fault_of, plan_of}
use Rattle.flow_table.specs.Plans.{PlanValue}
use Rattle.flow_table.specs.Tables.{AreTooMany, IsLargeRow}
use Rattle.flow_table.specs.declared.partial.Partial.{Partial}
use Rattle.flow_table.specs.declared.table.RowPlace.{RowPlace}
use Rattle.flow_table.specs.declared.table_fault.TableFault.TheVariants as table
use Rattle.flow_table.proofs.Bags.{large_place-bag, too_many-bag}
use Rattle.flow_collect.specs.Failures.{IsLargeRun, IsOfLarge, NamesLarge, TellsLarge, large_failure, only_fault, sampling_failure}
use Rattle.flow_collect.specs.Headline.{all_of}
use Rattle.flow_collect.specs.InFull.{IsGivenInContext}
use Rattle.flow_collect.specs.Places.{Each4}
use Rattle.flow_collect.specs.Rated.{sampling_fault, tell_large}
use Rattle.flow_collect.specs.declared.collected.FilteredReport.{FilteredReport}
use Rattle.flow_collect.specs.declared.failure.CollectFailure.{CollectFailure}
use Rattle.flow_collect.specs.declared.fault.CollectFault.{CollectFault}
use Rattle.flow_collect.specs.declared.fault.CollectFault.TheVariants.{Workers, Sessions, Link, NoThread, OutOfMemory, SumTooLarge, Sampled}
use Rattle.flow_collect.specs.declared.session_context.InContext.{InContext}
use Rattle.flow_collect.specs.Refusals.{HasFaultsOrSampled}
use Rattle.flow_collect.proofs.Judged.{judged, large_told}

-- the row that a table names
pub named : (plan : PlanValue) (p : Partial) (rs : List DataRecord) (reports : List FilteredReport) (row : Option RowPlace) → plan_of p ≡ plan → StandsFor p rs
    → IfSome row (IsLargeRow (plan_of p) rs) → (row ≡ None → fault_of p ≡ Some table.SumTooLarge → AreTooMany (plan_of p) rs) → fault_of p ≡ Some table.SumTooLarge → NamesLarge plan rs reports row
named plan p rs reports (Some row) is stands there none fault = subst (λ (q : PlanValue). IsLargeRow q rs row) is there
named plan p rs reports None is stands there none fault = inl (subst (λ (q : PlanValue). AreTooMany q rs) is (none refl fault))

-- in whatever order the records are
pub names_bag : (plan : PlanValue) (rs qs : List DataRecord) (reports : List FilteredReport) (row : Option RowPlace) → IsSameBag rs qs → NamesLarge plan rs reports row → NamesLarge plan qs reports row
names_bag plan rs qs reports (Some row) same is = large_place-bag plan rs qs same row.interval row.key.items is
names_bag plan rs qs reports None same (inl many) = inl (too_many-bag plan rs qs same many)
names_bag plan rs qs reports None same (inr large) = inr large

-- ---- a failure

pub tells_fault : {S : Type 0} (seen : S → SourceView) (plan : PlanValue) (sources : List (InContext S)) (fault : CollectFault) → fault ≢ SumTooLarge → TellsLarge seen plan sources (only_fault fault)
tells_fault seen plan sources fault other = record { large = λ same. absurd (other same); others = λ _. refl }

pub tells_run : {S : Type 0} (seen : S → SourceView) (plan : PlanValue) (sources : List (InContext S)) (failure : CollectFailure) → IsLargeRun seen plan sources failure → TellsLarge seen plan sources failure
tells_run seen plan sources failure run = record { large = λ _. run.of_large; others = λ other. absurd (other run.fault_is) }

-- by what sessions tell of sampling
pub tells_sampling : {S : Type 0} (seen : S → SourceView) (plan : PlanValue) (sources : List (InContext S)) (afters : List S) (reports : List FilteredReport) (records : List (List DataRecord)) (refuses : Bool) (fault : CollectFault)
    → Each4 (IsGivenInContext seen) sources afters reports records → Some fault ≡ sampling_fault refuses reports → TellsLarge seen plan sources (sampling_failure fault reports)
tells_sampling seen plan sources afters reports records refuses SumTooLarge given is =
    record {
      large = λ _. record { afters = afters; reports = reports; records = records; given = given; row_is = inr (large_told refuses reports is); session_is = refl };
      others = λ other. absurd (other refl);
    }
tells_sampling seen plan sources afters reports records refuses Workers given is = tells_fault seen plan sources Workers (λ e. cc e)
tells_sampling seen plan sources afters reports records refuses Sessions given is = tells_fault seen plan sources Sessions (λ e. cc e)
tells_sampling seen plan sources afters reports records refuses Link given is = tells_fault seen plan sources Link (λ e. cc e)
tells_sampling seen plan sources afters reports records refuses NoThread given is = tells_fault seen plan sources NoThread (λ e. cc e)
tells_sampling seen plan sources afters reports records refuses OutOfMemory given is = tells_fault seen plan sources OutOfMemory (λ e. cc e)
tells_sampling seen plan sources afters reports records refuses Sampled given is = tells_fault seen plan sources Sampled (λ e. cc e)

-- its fault is that of sampling
fault_of_sampling : (fault : CollectFault) (reports : List FilteredReport) → (sampling_failure fault reports).fault ≡ fault
fault_of_sampling SumTooLarge reports = refl
fault_of_sampling Workers reports = refl
fault_of_sampling Sessions reports = refl
fault_of_sampling Link reports = refl
fault_of_sampling NoThread reports = refl
fault_of_sampling OutOfMemory reports = refl
fault_of_sampling Sampled reports = refl

pub judged_as : {X : Type 0} (first : Option CollectFault) (TooLarge AreSampled : Type 0) (refuses : Bool) (reports told : List FilteredReport) (fault : CollectFault) (failure : CollectFailure) → failure ≡ sampling_failure fault told
    → first ≡ None → Some fault ≡ sampling_fault refuses reports → (tell_large reports ≡ true → TooLarge) → (sampling_fault refuses reports ≡ Some Sampled → AreSampled) → HasFaultsOrSampled {X = X} first TooLarge AreSampled (Err failure.fault)
judged_as {X} first TooLarge AreSampled refuses reports told fault failure is none due large sampled =
    subst (λ (e : CollectFault). HasFaultsOrSampled {X = X} first TooLarge AreSampled (Err e)) (sym (ap (λ (x : CollectFailure). x.fault) is ∙ fault_of_sampling fault told))
    (judged first TooLarge AreSampled refuses reports fault none due large sampled)
