-- Lines that were told one after another.
use Rattle.std.proofs.Common.{◌≡◌, ℕ, ◌+◌, List, [], ◌∷◌, ◌++◌, map, Option, None, Result, Ok, Err, refl, ap, ap₂, ◌∙◌, subst, sym, inl, inr, append-nil, false}
use Rattle.std.specs.Prelude.{OnOk, OnErr}
use Rattle.std.specs.List.{flat_map, enumerate_from}
use Rattle.std.specs.Io.KnownBytes.{Appends}
use Rattle.std.specs.declared.net.socket_addr.SocketAddr.{SocketAddr}
use Rattle.std.proofs.KnownBytes.{Appends-trans}
use Rattle.ipfix_session.specs.declared.report.FullReport.{FullReport}
use Rattle.flow_collect.specs.InFull.{reports_in}
use Rattle.flow_collect.specs.declared.failure.CollectFailure.{CollectFailure}
use Rattle.flow_export.specs.declared.fault.ExportFault.{ExportFault}
use Rattle.flow_table.specs.Plans.{PlanValue}
use Rattle.flow_table.specs.declared.missing.Missing.{Missing}
use Rattle.flow_table.specs.declared.table.Table.{Table}
use Rattle.flow_table.specs.declared.tally.Tally.{Tally}
use Rattle.flow_estimates.specs.declared.report.SamplingReport.{SamplingReport}
use Rattle.flow_times.specs.declared.notes.TimesReport.{TimesReport}
use Rattle.flow_times.specs.declared.notes.TimeNoting.TheVariants.{Nothing}
use Rattle.report_sampling.specs.SamplingLines.{sampling_told}
use Rattle.report_times.specs.TimesLines.{times_told}
use Rattle.report_sessions.specs.EndedSessions.{EndedSession}
use Rattle.report_sessions.specs.MissingLines.{missing_told}
use Rattle.report_writing.specs.Lines.{LinesView}
use Rattle.report_writing.specs.OpeningLines.{if_verbose, opened_line}
use Rattle.report_sessions.specs.ReportLines.{report_lines, tally_line, tally_line_with}
use Rattle.report_writing.specs.Told.{AreTold}
use Rattle.report_writing.specs.Writing.{Tells}
use Rattle.report_writing.specs.declared.origin.Origin.{Origin}
use Rattle.report_writing.specs.declared.verbosity.Verbosity.{Verbosity}
use Rattle.report_writing.specs.declared.verbosity.TheConstants.{NOTHING_MORE}
use Rattle.report_writing.proofs.LinesTold.{both_told, told_then}
use Rattle.report_sessions.proofs.Untold.{told_plain}
use Rattle.input_sources.specs.InputsTold.{opened_lines, StopsAt, TellsPeers}
use Rattle.command_collect.specs.CollectLines.{collect_fault_line}
use Rattle.command_collect.specs.Large.{failure_lines, row_lines, session_lines}
use Rattle.command_collect.specs.Told.{counts_told, if_filtered, run_lines, table_told, TellsFault}
use Rattle.command_collect.specs.declared.job.CollectJob.{CollectJob}

-- the fault of a run that failed, said otherwise
module _ {F G : Type 0} (IsUntouched : Type 0) (IsCollect : F → Type 0) (AsCollect : G → Type 0) (lines_of : F → List ℕ) (as_lines : G → List ℕ) (IsExport AsExport : ExportFault → Type 0) (Told AreTold : List ℕ → Type 0) where
  pub fault_told : (turned : F → G) → ((fault : F) → IsCollect fault → AsCollect (turned fault)) → ((fault : F) → as_lines (turned fault) ≡ lines_of fault) → ((fault : ExportFault) → IsExport fault → AsExport fault)
      → ((line : List ℕ) → Told line → AreTold line) → TellsFault IsUntouched IsCollect lines_of IsExport Told → TellsFault IsUntouched AsCollect as_lines AsExport AreTold
  fault_told turned collect lines export otherwise (inl f) = inl (turned f.0, collect f.0 f.1, f.2, subst AreTold (sym (lines f.0)) (otherwise _ f.3))
  fault_told turned collect lines export otherwise (inr f) = inr (f.0, export f.0 f.1, otherwise _ f.2)

-- a write, after one that is Ok, of which these are the lines
on_ok : {T E : Type 0} (answer : Result T E) (old mid new : Option (List ℕ)) (xs ys : List ℕ) → Appends old mid xs → OnOk answer (Appends mid new ys) → OnOk answer (Appends old new (xs ++ ys))
on_ok (Ok x) old mid new xs ys first then = Appends-trans old mid new xs ys first then
on_ok (Err e) old mid new xs ys first then = tt

pub tells_both : {W T U E : Type 0} (out_lines : W → LinesView) (old mid new : W) (x : T) (answer : Result U E) (xs ys : List ℕ)
    → Tells {E = E} out_lines old mid (Ok x) xs → Tells out_lines mid new answer ys → Tells out_lines old new answer (xs ++ ys)
tells_both out_lines old mid new x answer xs ys first then =
    record { told = on_ok answer (out_lines old).contents (out_lines mid).contents (out_lines new).contents xs ys first.told then.told; failed = then.failed; kept = λ failed. then.kept (first.kept failed) }

-- what is told of a table, by its tally and by what records lack
pub table_lines : {T E : Type 0} (answer : Result T E) (job : CollectJob) (table : Table) (filtered : ℕ) (tally : Tally) (missing : Missing) (old mid new : Option (List ℕ)) → tally ≡ table.tally → missing ≡ table.missing
    → Appends old mid (tally_line_with (if_filtered job filtered) tally) → OnOk answer (Appends mid new (missing_told job.verbosity job.elements.now job.plan.now missing)) → OnOk answer (Appends old new (table_told job table filtered))
table_lines answer job table filtered tally missing old mid new is_tally is_missing first rest =
    let lack = λ (y : Missing). missing_told job.verbosity job.elements.now job.plan.now y in
    subst (λ (l : List ℕ). OnOk answer (Appends old new l)) (ap₂ (λ (x : Tally) (y : Missing). tally_line_with (if_filtered job filtered) x ++ lack y) is_tally is_missing)
    (on_ok answer old mid new (tally_line_with (if_filtered job filtered) tally) (lack missing) first rest)

-- without options nothing is told of it
pub none_opened : (verbosity : Verbosity) → verbosity.verbose ≡ false → (n : ℕ) (origins : List Origin) → flat_map (λ (x : ℕ × Origin). if_verbose verbosity (opened_line x.0 x.1)) (enumerate_from n origins) ≡ []
none_opened verbosity plain n [] = refl
none_opened verbosity plain n (o ∷ origins) =
    let nothing : if_verbose verbosity (opened_line n o) ≡ [] = rw plain refl in
    ap (λ (l : List ℕ). l ++ flat_map (λ (x : ℕ × Origin). if_verbose verbosity (opened_line x.0 x.1)) (enumerate_from (n + 1) origins)) nothing ∙ none_opened verbosity plain (n + 1) origins

module _ (job : CollectJob) (plain : job.verbosity ≡ NOTHING_MORE) where
  is_verbose : job.verbosity.verbose ≡ false
  is_verbose = ap (λ (v : Verbosity). v.verbose) plain

  pub is_strict : job.verbosity.strict ≡ false
  is_strict = ap (λ (v : Verbosity). v.strict) plain

  pub not_verbose : (line : List ℕ) → if_verbose job.verbosity line ≡ []
  not_verbose line = rw is_verbose refl

  plain_table : job.filter ≡ None → (table : Table) (filtered : ℕ) → table_told job table filtered ≡ tally_line table.tally
  plain_table all table filtered =
      let nothing : missing_told job.verbosity job.elements.now job.plan.now table.missing ≡ [] = rw (is_verbose, is_strict) refl in
      let counts : tally_line_with (if_filtered job filtered) table.tally ≡ tally_line table.tally = rw all refl in
      ap (λ (l : List ℕ). tally_line_with (if_filtered job filtered) table.tally ++ l) nothing ∙ append-nil _ ∙ counts

  -- and of sessions only their reports
  pub plain_lines : job.filter ≡ None → job.times ≡ Nothing → (origins : List Origin) (fulls : List FullReport) (samplings : List SamplingReport) (times : List TimesReport) (table : Table) (filtered : ℕ) (ended : List EndedSession) → map (λ (e : EndedSession). e.full) ended ≡ fulls
      → run_lines job origins (counts_told job origins samplings times table filtered) ended ≡ report_lines (reports_in fulls) ++ tally_line table.tally
  plain_lines all no_times origins fulls samplings times table filtered ended are =
      let nothing : sampling_told job.verbosity origins samplings ≡ [] = rw (is_verbose, is_strict) refl in
      let untold : times_told job.times origins times ≡ [] = rw no_times refl in
      let counts = ap₂ (λ (l m : List ℕ). l ++ m) nothing (ap₂ (λ (l m : List ℕ). l ++ m) untold (plain_table all table filtered)) in
      ap₂ (λ (l m : List ℕ). l ++ m) (told_plain job.verbosity is_verbose is_strict job.elements.now origins ended fulls are) counts

  -- and of a fault only its line
  pub plain_failure : (plan : PlanValue) (origins : List Origin) (failure : CollectFailure) → collect_fault_line failure.fault ≡ failure_lines job.verbosity plan origins failure
  plain_failure plan origins failure =
      sym (ap (λ (l : List ℕ). collect_fault_line failure.fault ++ l) (not_verbose (row_lines plan failure.row ++ session_lines origins failure.session)) ∙ append-nil _)

  -- what follows nothing
  pub behind_nothing : (first : List ℕ) → first ≡ [] → (origins : List Origin) (lines : List ℕ) → first ++ (opened_lines job.verbosity origins ++ lines) ≡ lines
  behind_nothing first none origins lines = ap₂ (λ (l m : List ℕ). l ++ (m ++ lines)) none (none_opened job.verbosity is_verbose 1 origins)

-- ---- what stops a run

-- a write after the path at which a run stops
pub stops_then : {T E : Type 0} (HasSize : List ℕ → Option ℕ → Type 0) (names : List (List ℕ)) (verbosity : Verbosity) (old mid new : Option (List ℕ)) (Before After : Type 0) (name ys : List ℕ) (answer : Result T E)
    → StopsAt HasSize names verbosity (AreTold old mid Before) name → OnOk answer (Appends mid new ys) → OnErr answer After → (Before → After) → StopsAt HasSize names verbosity (λ lines. AreTold old new After (lines ++ ys)) name
stops_then HasSize names verbosity old mid new Before After name ys answer stops ok err kept =
    record {
      before = stops.before;
      later = stops.later;
      place = stops.place;
      origins = stops.origins;
      named = stops.named;
      told = told_then old mid new Before After answer (opened_lines verbosity stops.origins) ys stops.told ok err kept;
    }

-- and after the connections that were accepted
pub peers_then : {S T E : Type 0} (IsOf : S → SocketAddr → Type 0) (verbosity : Verbosity) (old first mid new : Option (List ℕ)) (Start Before After : Type 0) (xs ys : List ℕ) (answer : Result T E)
    → AreTold old first Start xs → TellsPeers IsOf verbosity (AreTold first mid Before) → OnOk answer (Appends mid new ys) → OnErr answer After → (Start → Before) → (Before → After)
    → TellsPeers IsOf verbosity (λ lines. AreTold old new After (xs ++ (lines ++ ys)))
peers_then IsOf verbosity old first mid new Start Before After xs ys answer start peers ok err before kept =
    record {
      sources = peers.sources;
      origins = peers.origins;
      peers = peers.peers;
      told = both_told old first new Start After xs _ start (told_then first mid new Before After answer (opened_lines verbosity peers.origins) ys peers.told ok err kept) (λ failed. kept (before failed));
    }
