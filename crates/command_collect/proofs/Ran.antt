-- What a run wrote, from the headline and from what the export wrote; and what it is without the rest.
use Rattle.std.proofs.Common.{◌≡◌, ℕ, length, Bool, true, false, List, [], ◌∷◌, Option, None, All, ap, refl, sym, subst, suc}
use Rattle.std.specs.Prelude.{◌↔◌}
use Rattle.std.specs.List.{AllZip}
use Rattle.std.specs.Option.{ForSome}
use Rattle.std.proofs.lemmas.List.Elements.{All-cons, All-nil}
use Rattle.std.specs.declared.net.ip_addr.IpAddr.{IpAddr}
use Rattle.ipfix_message.specs.declared.record.DataRecord.{DataRecord}
use Rattle.std.specs.declared.alloc.Global.{Global}
use Rattle.std.specs.declared.vec.Vec.{Vec}
use Rattle.ipfix_session.specs.Given.{IsPrefix}
use Rattle.ipfix_session.specs.Ledger.{capped}
use Rattle.ipfix_session.specs.Sources.{SourceView}
use Rattle.ipfix_session.specs.declared.report.FullReport.{FullReport}
use Rattle.flow_estimates.specs.declared.report.SamplingReport.{SamplingReport}
use Rattle.flow_times.specs.declared.notes.TimesReport.{TimesReport}
use Rattle.flow_times.specs.declared.notes.TimeNoting.TheVariants.{Nothing}
use Rattle.report_writing.specs.declared.origin.Origin.{Origin}
use Rattle.report_writing.specs.declared.verbosity.TheConstants.{NOTHING_MORE}
use Rattle.flow_table.specs.Plans.{PlanValue}
use Rattle.flow_table.specs.declared.table.Table.{Table}
use Rattle.flow_collect.specs.Contexts.{sources_of}
use Rattle.flow_collect.specs.Headline.{IsAddedUp, IsGivenBy, SerialAnswer, all_of}
use Rattle.flow_collect.specs.InFull.{FullSerialAnswer, FullSerialHeadline, IsGivenInContext, fulls_in, reports_in}
use Rattle.flow_collect.specs.Places.{Each4}
use Rattle.flow_collect.specs.Refusals.{AreTooLarge}
use Rattle.flow_collect.specs.Texts.{AreTexts}
use Rattle.flow_collect.specs.declared.fault.CollectFault.{CollectFault}
use Rattle.flow_collect.specs.declared.fault.CollectFault.TheVariants.{Sampled}
use Rattle.flow_collect.specs.declared.session_context.InContext.{InContext}
use Rattle.flow_collect.specs.declared.session_context.TheConstants.{NOTHING_WANTED}
use Rattle.flow_collect.proofs.Contexts.{IsUnwanted, first_in_context, given_plain, if_late_plain, never_refused, records_plain, too_large_plain, whole_in_context}
use Rattle.flow_collect.proofs.InFull.{short_sessions}
use Rattle.flow_export.specs.declared.fault.ExportFault.{ExportFault}
use Rattle.flow_table.specs.AddedUp.{rows_in}
use Rattle.std.specs.declared.io.ErrorKind.{ErrorKind}
use Rattle.output_tables.specs.TableTexts.{IsNotWritten, Writes}
use Rattle.report_sessions.specs.EndedSessions.{TellsEnded}
use Rattle.output_tables.specs.declared.output.Output.{Output}
use Rattle.exporter_options.specs.declared.beside.TheConstants as asked
use Rattle.command_collect.specs.Engines.{CollectsBy, due_fault}
use Rattle.command_collect.specs.Exporters.{asked_of, in_context, in_places, other_origins, others_told}
use Rattle.command_collect.specs.Runs.{AddsUpWhole, EndedWell, HaveNoFault, IsCollectFault, IsFaultBy, IsNotExported, IsOfWhole, WritesAndTellsJob, WritesTable, plain_texts, texts_in_context}
use Rattle.command_collect.specs.Gathered.{all_filtered, IsGathered, samplings_in, times_of_each}
use Rattle.command_collect.specs.Told.{counts_told, gathered_counts, run_lines}
use Rattle.command_collect.specs.declared.engine.Engine.{Engine}
use Rattle.command_collect.specs.declared.gathered.Gathered.{Gathered}
use Rattle.command_collect.specs.declared.job.CollectJob.{CollectJob}
use Rattle.command_collect.proofs.WentWell.{NoFault, no_fault_each, well_plainly}

-- these sources, and nothing is wanted of what their sessions know
pub record IsPlain {S : Type 0} (given : List (InContext S)) (sources : List S) : Type 0 where
  pub sources_are : sources_of given ≡ sources
  pub unwanted : All IsUnwanted given

-- a job that tells nothing more, wants no context and nothing of options records, and has no maps, no estimates, no filter and no limit of
-- templates
pub record IsPlainJob (job : CollectJob) : Type 0 where
  pub no_files : job.elements.now ≡ []
  pub quiet : job.verbosity ≡ NOTHING_MORE
  pub unwanted : job.wanted ≡ NOTHING_WANTED
  pub unasked : job.options ≡ asked.NOTHING_WANTED
  pub unmapped : job.maps ≡ None
  pub all : job.filter ≡ None
  pub unestimated : job.estimates ≡ None
  pub none_refused : job.refuses_sampled ≡ false
  pub no_times : job.times ≡ Nothing
  pub no_limit : job.templates ≡ None

-- asks for nothing
nothing_asked : (job : CollectJob) → IsPlainJob job → asked_of job ≡ asked.NOTHING_WANTED
nothing_asked job plain = rw (plain.unasked, plain.quiet) refl

plain_places : {S : Type 0} (job : CollectJob) (sources : List S) (told : List (Option IpAddr)) (origins : List Origin) → IsPlainJob job → IsPlain (in_places job sources told origins) sources
plain_places job [] told origins plain = record { sources_are = refl; unwanted = All-nil IsUnwanted }
plain_places job (s ∷ sources) told origins plain =
    let rest = plain_places job sources (others_told told) (other_origins origins) plain in
    record { sources_are = ap (λ (l : List _). s ∷ l) rest.sources_are; unwanted = All-cons IsUnwanted _ _ (plain.unwanted, nothing_asked job plain, plain.unmapped, plain.all, plain.unestimated, plain.none_refused, plain.no_limit) rest.unwanted }

pub plainly_given : {S : Type 0} (job : CollectJob) (sources : List S) (origins : List Origin) → IsPlainJob job → IsPlain (in_context job sources origins) sources
plainly_given job sources origins plain = plain_places job sources job.exporters.now origins plain

-- the same run, with reports that aren't in full
abbrev pub short_run : {S : Type 0} → FullSerialAnswer S → SerialAnswer S
short_run c = record { sessions = short_sessions c.sessions; sources = c.sources; table = c.table }

-- there are as many
pub as_many : {S : Type 0} (job : CollectJob) (sources : List S) (told : List (Option IpAddr)) (origins : List Origin) → length (in_places job sources told origins) ≡ length sources
as_many job [] told origins = refl
as_many job (s ∷ sources) told origins = ap suc (as_many job sources (others_told told) (other_origins origins))

-- what is said of what was gathered is said of what was collected
pub of_gathered : {S : Type 0} (P : List S → List FullReport → List SamplingReport → List TimesReport → Table → ℕ → Type 0) (c : FullSerialAnswer S) (g : Gathered S) → IsGathered c g
    → P g.run.sources.items g.run.sessions.items g.sampling.items g.times.items g.run.table g.filtered
    → P c.sources.items (fulls_in c.sessions.items) (samplings_in c.sessions.items) (times_of_each c.sessions.items) c.table (capped (all_filtered c.sessions.items))
of_gathered {S = S} P c g is p =
    let fulls = fulls_in c.sessions.items in
    let samplings = samplings_in c.sessions.items in
    let times = times_of_each c.sessions.items in
    subst (λ (n : ℕ). P c.sources.items fulls samplings times c.table n) is.filtered_is
    (subst (λ (t : Table). P c.sources.items fulls samplings times t g.filtered) is.table_is
    (subst (λ (l : List TimesReport). P c.sources.items fulls samplings l g.run.table g.filtered) is.times_is
    (subst (λ (l : List SamplingReport). P c.sources.items fulls l g.times.items g.run.table g.filtered) is.sampling_is
    (subst (λ (l : List FullReport). P c.sources.items l g.sampling.items g.times.items g.run.table g.filtered) is.sessions_are
    (subst (λ (v : Vec S Global). P v.items g.run.sessions.items g.sampling.items g.times.items g.run.table g.filtered) is.sources_are p)))))

pub tells_gathered : {S W : Type 0} (contents : W → Option (List ℕ)) (old new : W) (AreTold : List ℕ → Type 0) (failure : S → Option ErrorKind) (job : CollectJob) (origins : List Origin) (c : FullSerialAnswer S) (g : Gathered S) → IsGathered c g
    → Writes job.elements.now job.plan.now job.output (contents old) (contents new) g.run.table → TellsEnded failure g.run.sources.items g.run.sessions.items (run_lines job origins (gathered_counts job origins g)) AreTold
    → WritesAndTellsJob contents old new AreTold failure job origins c
tells_gathered {S = S} contents old new AreTold failure job origins c g is writes tells =
    of_gathered (λ (sources : List S) (fulls : List FullReport) (samplings : List SamplingReport) (times : List TimesReport) (table : Table) (n : ℕ).
    Writes job.elements.now job.plan.now job.output (contents old) (contents new) table × TellsEnded failure sources fulls (run_lines job origins (counts_told job origins samplings times table n)) AreTold) c g is (writes, tells)

pub not_written_of : {S : Type 0} (output : Output) (IsUntouched : Type 0) (fault : ExportFault) (c : FullSerialAnswer S) (g : Gathered S) → IsGathered c g → IsNotWritten output (length (rows_in g.run.table)) IsUntouched fault
    → IsNotWritten output (length (rows_in c.table)) IsUntouched fault
not_written_of output IsUntouched fault c g is not = subst (λ (t : Table). IsNotWritten output (length (rows_in t)) IsUntouched fault) is.table_is not

module _ {S : Type 0} (seen : S → SourceView) where
  pub adds_up_whole : ((s : S) → (seen s).ended ≡ true → ForSome (seen s).text (λ xs. xs ≡ [])) → (c : FullSerialAnswer S) (sources : List (InContext S)) (plan : PlanValue)
      → FullSerialHeadline seen sources plan c → All NoFault (fulls_in c.sessions.items) → AddsUpWhole (texts_in_context seen) sources plan c.table
  adds_up_whole at_end c sources plan h none = λ texts t.
      let (are, clean) = whole_in_context seen at_end sources c.sources.items c.sessions.items h.records texts h.given t (no_fault_each c.sessions.items none) in
      record { whole = clean; added_up = subst (λ (rs : List (List DataRecord)). IsAddedUp plan (all_of rs) c.table) are h.added_up }

  module _ (strict is_scaled : Bool) (plan : PlanValue) (engine : Engine) (status : ℕ) where
    abbrev pub Full : (FullSerialAnswer S → Type 0) → List (InContext S) → Type 0
    Full Ends sources = WritesTable (texts_in_context seen) (IsGivenInContext seen) (EndedWell strict is_scaled) plan engine status Ends sources

    pub writes_table : (Ends : FullSerialAnswer S → Type 0) (sources : List (InContext S)) (c : FullSerialAnswer S)
        → CollectsBy engine (IsGivenInContext seen) sources plan c → ((status ≡ 0) ↔ EndedWell strict is_scaled c.sessions.items c.table) → (status ≡ 0 → AddsUpWhole (texts_in_context seen) sources plan c.table) → Ends c
        → Full Ends sources
    writes_table Ends sources c h status_is whole ends =
        record {
          collected = c;
          collects = h;
          first = λ texts t. first_in_context seen sources c.sources.items c.sessions.items h.headline.records texts h.headline.given t;
          status_is = status_is;
          whole = whole;
          ends = ends;
        }

    -- the same, where more is said of how it ended
    pub ends_so : (Ends All_ends : FullSerialAnswer S → Type 0) (sources : List (InContext S)) → ((c : FullSerialAnswer S) → Ends c → All_ends c) → Full Ends sources → Full All_ends sources
    ends_so Ends All_ends sources all w =
        record { collected = w.collected; collects = w.collects; first = w.first; status_is = w.status_is; whole = w.whole; ends = all w.collected w.ends }

    -- ---- without the rest, and with nothing that sessions know

    module _ (given : List (InContext S)) (sources : List S) (plain : IsPlain given sources) where
      texts_there : (texts : List (List ℕ)) → AreTexts seen sources texts → AreTexts seen (sources_of given) texts
      texts_there texts t = subst (λ (l : List S). AreTexts seen l texts) (sym plain.sources_are) t

      collects_short : (c : FullSerialAnswer S) → CollectsBy engine (IsGivenInContext seen) given plan c → CollectsBy engine (IsGivenBy seen) sources plan (short_run c)
      collects_short c b =
          let h = b.headline in
          let own = given_plain seen given c.sources.items c.sessions.items h.records plain.unwanted h.given in
          let there = subst (λ (l : List S). Each4 (IsGivenBy seen) l c.sources.items (reports_in (fulls_in c.sessions.items)) h.records) plain.sources_are own in
          record { headline = record { records = h.records; given = there; added_up = h.added_up }; came = b.came }

      pub not_exported_short : (output : Output) (IsUntouched : Type 0) (fault : ExportFault)
          → IsNotExported (texts_in_context seen) (IsGivenInContext seen) plan engine output IsUntouched given fault → IsNotExported (plain_texts seen) (IsGivenBy seen) plan engine output IsUntouched sources fault
      not_exported_short output IsUntouched fault n =
          record { collected = short_run n.collected; collects = collects_short n.collected n.collects; not_written = n.not_written }

      pub fault_plain : (count : ℕ) (fault : CollectFault) → IsFaultBy seen count engine given plan fault → IsCollectFault count (AreTooLarge seen plan sources) engine fault
      fault_plain count fault f =
          let none : (fault ≡ Sampled → ⊥) = λ is. never_refused seen given plain.unwanted (f.sampled is) in
          record { arguments = f.arguments; others = if_late_plain (due_fault engine count) fault none f.others; too_large = λ is. subst (AreTooLarge seen plan) plain.sources_are (too_large_plain seen plan given plain.unwanted (f.too_large is)) }

      pub table_short : (Ends : FullSerialAnswer S → Type 0) (Short : SerialAnswer S → Type 0) → strict ≡ false → ((c : FullSerialAnswer S) → Ends c → Short (short_run c))
          → Full Ends given → WritesTable (plain_texts seen) (IsGivenBy seen) HaveNoFault plan engine status Short sources
      unfolding collects_short
      table_short Ends Short loose shorter w =
          record {
            collected = short_run w.collected;
            collects = collects_short w.collected w.collects;
            first = λ texts t.
                let there = texts_there texts t in
                subst (λ (l : List (List DataRecord)). AllZip IsPrefix w.collects.headline.records l) (records_plain given texts _ plain.unwanted there) (w.first texts there);
            status_is = well_plainly status strict is_scaled (fulls_in w.collected.sessions.items) (samplings_in w.collected.sessions.items) w.collected.table loose w.status_is;
            whole = λ well texts t.
                let there = texts_there texts t in
                subst (IsOfWhole plan w.collected.table texts) (records_plain given texts _ plain.unwanted there) (w.whole well texts there);
            ends = shorter w.collected w.ends;
          }
