-- Sessions that report in full.
use Rattle.std.proofs.Common.{◌≡◌, ℕ, ◌+◌, ◌%◌, ◌<◌, List, [], ◌∷◌, Option, None, Some, length, refl, sym, ap, ◌∙◌, subst, map, append-nil, arith}
use Rattle.std.specs.Prelude.{◌≢◌, ◌-◌, ◌^◌}
use Rattle.std.specs.List.{AllZip}
use Rattle.std.specs.declared.vec.Vec.{Vec}
use Rattle.std.proofs.lemmas.List.{length-map}
use Rattle.ipfix_message.specs.Domains.{Message}
use Rattle.ipfix_message.specs.declared.fault.MessageFault.TheVariants.{OutOfMemory}
use Rattle.ipfix_message.specs.declared.record.DataRecord.{DataRecord}
use Rattle.ipfix_session.specs.Balances.{domain_balance, sequence_at_end, accounted_for, AdvanceBy, KeepsCount}
use Rattle.ipfix_session.specs.Drives.{PutsUpTo, DrivesInFull}
use Rattle.ipfix_session.specs.Feeding.{PutsWhole}
use Rattle.ipfix_session.specs.Given.{given_within, records_in, records_within, IsPrefix}
use Rattle.ipfix_session.specs.Ledger.{domains_of, domain_report, messages_of}
use Rattle.ipfix_session.specs.Places.{ReportsInFull, IsFullReportWithin}
use Rattle.ipfix_session.specs.Sinks.{SinkView, Takes}
use Rattle.ipfix_session.specs.Sources.{SourceView}
use Rattle.ipfix_session.specs.declared.fault.SessionFault.{SessionFault}
use Rattle.ipfix_session.specs.declared.fault.SessionFault.TheVariants as faults
use Rattle.ipfix_session.specs.declared.report.DomainBalance.{DomainBalance}
use Rattle.ipfix_session.specs.declared.report.DomainReport.{DomainReport}
use Rattle.ipfix_session.specs.declared.report.FullReport.{FullReport}
use Rattle.ipfix_session.specs.declared.report.SessionReport.{SessionReport}
use Rattle.ipfix_session.proofs.Balances.{balances}
use Rattle.ipfix_session.proofs.Driven.{driven_took_all_within}
use Rattle.ipfix_session.proofs.Driving.{drives_told}
use Rattle.ipfix_session.proofs.Giving.{given_within-prefix}
use Rattle.ipfix_session.proofs.Places.{place_is_within}
use Rattle.ipfix_session.proofs.Reaching.{takes-append}
use Rattle.flow_table.specs.Plans.{PlanValue}
use Rattle.flow_table.proofs.FlatTables.{is_same_table}
use Rattle.flow_collect.specs.Headline.{Answer, Headline, all_of}
use Rattle.flow_collect.specs.Contexts.{alone, limits_in, sources_of}
use Rattle.flow_collect.specs.InFull.{FullAnswer, FullHeadline, IsBalanced, IsGivenInContext, IsGivenInFull, HasBalanced, IsWithoutRest, fulls_in, reports_in}
use Rattle.flow_collect.specs.Places.{Each3, Each4}
use Rattle.flow_collect.specs.Texts.{EachGave, GaveThese, ReportsOctetsInFull, WasReadOut}
use Rattle.flow_collect.specs.declared.collected.FilteredReport.{FilteredReport}
use Rattle.flow_collect.specs.declared.collected.Pool.{Pool}
use Rattle.flow_collect.specs.declared.session_context.InContext.{InContext}
use Rattle.flow_collect.proofs.Contexts.{given_alone}
use Rattle.flow_collect.proofs.GivenLists.{gave_is, report_of_octets}

-- ---- what a driven session gave, if its sink gave no record back

module _ {S K : Type 0} (seen : S → SourceView) (view : SinkView K) (before : InContext S) (after : S) (first last : K) (full : FullReport) where
  -- the sink took the records that the source gave, as the full report tells
  pub record TookInFull : Type 0 where
    pub records : List DataRecord
    pub given : IsGivenInFull seen before after full records
    pub takes : Takes view first records last

  -- these messages count, and their records were put
  took_whole : (d : DrivesInFull seen view (limits_in before.context) before.source after first last full) (whole : List Message) → IsPrefix whole (given_within before.context.templates d.gave).messages
      → (full.report.fault ≢ Some (faults.Message OutOfMemory) → whole ≡ (given_within before.context.templates d.gave).messages) → IsPrefix (given_within before.context.templates d.given.stops.earlier).messages whole → full.report.fault ≢ Some faults.SinkClosed
      → PutsWhole view (given_within before.context.templates d.given.stops.earlier).messages whole d.middle last (ReportsInFull full) → TookInFull
  took_whole d whole some all from taken p =
      record {
        records = records_in whole;
        given = record {
          given = record { gave = d.gave; given = d.given; counted = whole; first = some; all = all; earlier = from; records_are = refl; report_is = p.tells.counts.reports; not_closed = taken };
          told = p.tells;
        };
        takes = subst (λ (rs : List DataRecord). Takes view first rs last) (sym p.records) (takes-append view first d.middle last (records_within before.context.templates d.given.stops.earlier) p.put d.earlier p.takes);
      }

  -- all messages count
  took_each : (d : DrivesInFull seen view (limits_in before.context) before.source after first last full) → full.report.fault ≢ Some faults.SinkClosed
      → PutsWhole view (given_within before.context.templates d.given.stops.earlier).messages (given_within before.context.templates d.gave).messages d.middle last (ReportsInFull full) → TookInFull
  took_each d taken p =
      let all = (given_within before.context.templates d.gave).messages in
      let stops = d.given.stops in
      took_whole d all ([], sym (append-nil all)) (λ _. refl) (subst (λ (w : List ℕ). IsPrefix (given_within before.context.templates stops.earlier).messages (given_within before.context.templates w).messages) (sym stops.is) (given_within-prefix before.context.templates stops.earlier stops.last)) taken p

  -- by the fault
  took_by : (d : DrivesInFull seen view (limits_in before.context) before.source after first last full) (fault : Option SessionFault) → full.report.fault ≡ fault → full.report.fault ≢ Some faults.SinkClosed
      → PutsUpTo view fault (given_within before.context.templates d.given.stops.earlier).messages (given_within before.context.templates d.gave).messages d.middle last (ReportsInFull full) → TookInFull
  took_by d None is taken p = took_each d taken p
  took_by d (Some faults.Truncated) is taken p = took_each d taken p
  took_by d (Some faults.ReadFailed) is taken p = took_each d taken p
  took_by d (Some faults.TooManyReads) is taken p = took_each d taken p
  took_by d (Some (faults.Message OutOfMemory)) is taken p = took_whole d p.whole p.up_to (λ (memory : full.report.fault ≢ Some (faults.Message OutOfMemory)). absurd (memory is)) p.from taken p.puts
  took_by d (Some (faults.Message e)) is taken p = took_each d taken p
  took_by d (Some faults.SinkClosed) is taken p = absurd (taken is)

  pub took_in_full : DrivesInFull seen view (limits_in before.context) before.source after first last full → view.refused last ≡ 0 → TookInFull
  took_in_full d none =
      let short = driven_took_all_within seen view (limits_in before.context) before.source after first last full.report (drives_told seen view (limits_in before.context) before.source after first last full.report.fault _ _ (λ ms delivered told. told.counts.reports) d) none in
      took_by d full.report.fault refl short.given.not_closed d.puts

-- ---- the ledgers

balances_at : (ms : List Message) (domain : ℕ) (first : Message) (more : List Message) → messages_of domain ms ≡ first ∷ more
    → (domain_report ms domain).backward ≡ 0 → (domain_balance ms domain).late ≡ 0
    → (domain_report ms domain).count < 2 ^ 64 - 1 → (domain_report ms domain).lost < 2 ^ 64 - 1 → (domain_balance ms domain).unaccounted < 2 ^ 64 - 1
    → (first.header.sequence + (domain_report ms domain).count + (domain_report ms domain).lost + (domain_balance ms domain).unaccounted) % 2 ^ 32 ≡ sequence_at_end first more
balances_at ms domain first more is backward late count lost unaccounted =
    let report = domain_report ms domain in
    let balance = domain_balance ms domain in
    let keeps : KeepsCount ms domain = record { none_backward = backward; none_late = late; count = count; lost = lost; unaccounted = unaccounted } in
    let advance : AdvanceBy (accounted_for ms domain) (first ∷ more) = subst (AdvanceBy (accounted_for ms domain)) is (balances ms domain keeps) in
    let sum : first.header.sequence + report.count + report.lost + balance.unaccounted ≡ first.header.sequence + accounted_for ms domain = omega arith in
    ap (λ (n : ℕ). n % 2 ^ 32) sum ∙ advance

balanced_in : (ms : List Message) (domains : List ℕ) → AllZip (IsBalanced ms) (map (domain_report ms) domains) (map (domain_balance ms) domains)
balanced_in ms [] = tt
balanced_in ms (domain ∷ domains) = (record { domain_is = refl; balances = balances_at ms domain }, balanced_in ms domains)

balanced_of : (ms : List Message) (reports : List DomainReport) (of_domains : List DomainBalance) → reports ≡ map (domain_report ms) (domains_of ms) → of_domains ≡ map (domain_balance ms) (domains_of ms)
    → AllZip (IsBalanced ms) reports of_domains
balanced_of ms reports of_domains r b = rw (r, b) (balanced_in ms (domains_of ms))

-- ---- a run without the rest

-- as many reports, without the rest
pub as_many_short : (l : List FilteredReport) → length (reports_in (fulls_in l)) ≡ length l
as_many_short l = length-map (fulls_in l) (λ (full : FullReport). full.report) ∙ length-map l (λ (told : FilteredReport). told.full)

abbrev pub short_sessions : {Z : Type 0} → Vec FilteredReport Z → Vec SessionReport Z
short_sessions v = record { ptr = v.ptr; len = v.len; cap = v.cap; alloc = v.alloc; items = reports_in (fulls_in v.items); ok = (v.ok.0 ∙ sym (as_many_short v.items), v.ok.1); small = v.small }

-- each run in full has one
abbrev pub short_run : {S : Type 0} → FullAnswer S → Answer S
short_run c = record { sessions = short_sessions c.sessions; links = c.links; sources = c.sources; table = c.table }

-- ---- all sessions

module _ {S : Type 0} (seen : S → SourceView) where
  has_balanced : (before : InContext S) (after : S) (told : FilteredReport) (records : List DataRecord) → IsGivenInContext seen before after told records → HasBalanced seen before after told records
  has_balanced before after told records c =
      let g = c.given in
      record { given = c; balanced = balanced_of g.given.counted told.full.report.domains.items told.full.balances.items g.told.counts.reports.domains g.told.counts.balances }

  pub balanced_each : (befores : List (InContext S)) (afters : List S) (fulls : List FilteredReport) (qs : List (List DataRecord)) → Each4 (IsGivenInContext seen) befores afters fulls qs → Each4 (HasBalanced seen) befores afters fulls qs
  balanced_each [] [] [] [] e = tt
  balanced_each (s ∷ befores) (a ∷ afters) (f ∷ fulls) (q ∷ qs) e = (has_balanced s a f q e.0, balanced_each befores afters fulls qs e.1)
  balanced_each befores afters fulls qs e = absurd e

  full_of_octets : (before : InContext S) (after : S) (full : FullReport) (q : List DataRecord) (b : List ℕ) → IsGivenInFull seen before after full q → GaveThese (seen before.source) (seen after) b
      → WasReadOut full.report → IsFullReportWithin before.context.templates full b
  full_of_octets before after full q b g t out =
      let limit = before.context.templates in
      let limits = limits_in before.context in
      let is = gave_is seen limits before.source after full.report q b g.given t in
      let told : ReportsInFull full (given_within limit g.given.gave).messages (length (records_within limit g.given.gave)) =
      subst (λ (ms : List Message). ReportsInFull full ms (length (records_in ms))) (g.given.all out.had_memory) (subst (λ (rs : List DataRecord). ReportsInFull full g.given.counted (length rs)) g.given.records_are g.told) in
      let here : ReportsInFull full (given_within limit b).messages (length (records_within limit b)) =
      subst (λ (w : List ℕ). ReportsInFull full (given_within limit w).messages (length (records_within limit w))) (sym is) told in
      record { reports = here; fault = (report_of_octets seen limits before.source after full.report q b g.given t out).fault; stopped_at = here.counts.stopped_at ∙ place_is_within limit b }

  pub full_each : (befores : List (InContext S)) (afters : List S) (fulls : List FilteredReport) (qs : List (List DataRecord)) (bs : List (List ℕ)) → Each4 (IsGivenInContext seen) befores afters fulls qs
      → EachGave seen (sources_of befores) afters bs → Each3 ReportsOctetsInFull befores (fulls_in fulls) bs
  full_each [] [] [] [] [] e t = tt
  full_each (s ∷ befores) (a ∷ afters) (f ∷ fulls) (q ∷ qs) (b ∷ bs) e t = (full_of_octets s a f.full e.0.own b e.0.given t.0, full_each befores afters fulls qs bs e.1 t.1)
  full_each [] [] [] [] (b ∷ bs) e t = absurd t
  full_each (s ∷ befores) (a ∷ afters) (f ∷ fulls) (q ∷ qs) [] e t = absurd t
  full_each befores afters fulls qs bs e t = absurd e

  pub headline_short : (sources : List S) (befores : List (InContext S)) (plan : PlanValue) (pool : Pool) (c : FullAnswer S) (short : Answer S) → befores ≡ map alone sources → FullHeadline seen befores plan pool c → IsWithoutRest c short
      → Headline seen sources plan pool short
  headline_short sources befores plan pool c short are h w =
      record {
        records = h.records;
        received = rw w.links_are h.received;
        given = rw (w.sources_are, w.sessions_are) (given_alone seen sources befores c.sources.items c.sessions.items h.records are h.given);
        added_up = record { table_is = is_same_table plan (all_of h.records) c.table short.table w.same h.added_up.table_is; not_too_large = h.added_up.not_too_large };
      }
