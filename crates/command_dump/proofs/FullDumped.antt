-- How a dump ended, what it told, and what was written.
use Rattle.std.proofs.Common.{◌≡◌, ℕ, Bool, true, false, List, [], ◌∷◌, ◌++◌, All, Option, Some, None, refl, ap, ap₂, subst}
use Rattle.std.proofs.lemmas.List.Elements.{All-nil, All-cons, All-head}
use Rattle.std.proofs.KnownBytes.{Appends-kept}
use Rattle.std.specs.Io.KnownBytes.{Keeps}
use Rattle.std.specs.Prelude.{◌↔◌, ◌⊎◌, IsTrue, is_none, codes}
use Rattle.std.specs.declared.io.ErrorKind.{ErrorKind}
use Rattle.element_registry.specs.Registries.{Known}
use Rattle.ipfix_message.specs.declared.record.DataRecord.{DataRecord}
use Rattle.ipfix_session.specs.Sources.{SourceView}
use Rattle.ipfix_session.specs.declared.report.FullReport.{FullReport}
use Rattle.ipfix_dump.specs.Dumped.{DumpsInFull}
use Rattle.report_sessions.specs.ReadFailures.{read_reason}
use Rattle.report_sessions.specs.ReportLines.{report_lines}
use Rattle.report_sessions.specs.Spotless.{IsSpotlessSession}
use Rattle.report_sessions.proofs.Untold.{session_plain, unread_plain}
use Rattle.report_writing.specs.Statuses.{number_of}
use Rattle.report_writing.specs.declared.status.Status.{Status}
use Rattle.report_writing.specs.declared.status.Status.TheVariants.{NotOpened}
use Rattle.report_writing.specs.declared.verbosity.Verbosity.{Verbosity}
use Rattle.report_writing.specs.declared.verbosity.TheConstants.{NOTHING_MORE}
use Rattle.report_writing.proofs.Ended.{never_two}
use Rattle.command_dump.specs.Dumps.{EndedWell, RunsDump, TellsDump}
use Rattle.command_dump.specs.declared.job.DumpJob.{DumpJob}

pub well_no_fault : (strict : Bool) (full : FullReport) → EndedWell strict full → full.report.fault ≡ None
well_no_fault true full well = well.no_fault
well_no_fault false full well = well

-- the tests of it
pub tested_strict : (strict : Bool) (full : FullReport) (passed : Bool) → strict ≡ true → (IsTrue passed ↔ All IsSpotlessSession (full ∷ [])) → (IsTrue passed ↔ EndedWell strict full)
tested_strict true full passed is tested =
    (λ yes. All-head IsSpotlessSession full [] (tested.0 yes), λ well. tested.1 (All-cons IsSpotlessSession full [] well (All-nil IsSpotlessSession)))
tested_strict false full passed is tested = absurd (cc is)

none_tested : {X : Type 0} (fault : Option X) → IsTrue (is_none fault) ↔ (fault ≡ None)
none_tested None = (λ yes. refl, λ none. refl)
none_tested (Some fault) = (λ yes. absurd (cc yes), λ none. absurd (cc none))

pub tested_plain : (strict : Bool) (full : FullReport) (passed : Bool) → strict ≡ false → passed ≡ is_none full.report.fault → (IsTrue passed ↔ EndedWell strict full)
tested_plain true full passed is tested = absurd (cc is)
tested_plain false full passed is tested = rw tested (none_tested full.report.fault)

-- what was written is still there when it is flushed
pub flushed : {S : Type 0} (seen : S → SourceView) (line_of : DataRecord → List ℕ) (templates : Option ℕ) (before after : S) (old written new : Option (List ℕ)) (full : FullReport)
    → DumpsInFull line_of templates seen before after old written full → Keeps written new → DumpsInFull line_of templates seen before after old new full
flushed seen line_of templates before after old written new full d kept =
    record {
      dumps = record { records = d.dumps.records; given = d.dumps.given; written = Appends-kept old written new _ d.dumps.written kept };
      in_full = d.in_full;
    }

-- without options the report is told, and nothing else
pub told_plain : (job : DumpJob) (known : List Known) → job.verbosity ≡ NOTHING_MORE → (answered : Option ErrorKind) (full : FullReport) (AreTold : List ℕ → Type 0) → TellsDump answered job known full AreTold → AreTold (report_lines (full.report ∷ []))
told_plain job known plain answered full AreTold tells =
    let verbose : job.verbosity.verbose ≡ false = ap (λ (v : Verbosity). v.verbose) plain in
    let strict : job.verbosity.strict ≡ false = ap (λ (v : Verbosity). v.strict) plain in
    let session = session_plain job.verbosity verbose strict known 1 job.origin None full in
    let reason = unread_plain job.verbosity verbose (codes "standard input") (read_reason full.report.fault tells.said) in
    subst AreTold (ap₂ (λ (l m : List ℕ). l ++ m) session reason) tells.told

-- a dump that told its lines, said otherwise
module _ {S : Type 0} {line_of : DataRecord → List ℕ} {templates : Option ℕ} {seen : S → SourceView} {before after : S} {old new : Option (List ℕ)} {status : ℕ} {strict : Bool}
    {Tells Retells : FullReport → (List ℕ → Type 0) → Type 0} {AreTold Told : List ℕ → Type 0} where
  pub retold : ((full : FullReport) → Tells full AreTold → Retells full Told) → ((lines : List ℕ) → AreTold lines → Told lines)
      → RunsDump line_of templates seen before after old new status strict Tells AreTold → RunsDump line_of templates seen before after old new status strict Retells Told
  retold session otherwise runs =
      record {
        statuses = runs.statuses;
        all = runs.all;
        dumped = λ ran.
            let to_end = runs.dumped ran in
            record { full = to_end.full; dumps = to_end.dumps; told = session _ to_end.told; status_is = to_end.status_is };
        failed = λ three.
            let fault = runs.failed three in
            (fault.0, otherwise _ fault.1);
      }

-- a dump was not one whose files were not read
pub never_opened : {P : Type 0} (status : Status) → (number_of status ≡ 0) ⊎ (number_of status ≡ 1) ⊎ (number_of status ≡ 3) → status ≡ NotOpened → P
never_opened status ends is = never_two (number_of status) ends (ap number_of is)
