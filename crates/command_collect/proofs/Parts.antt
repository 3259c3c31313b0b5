-- A run over sources that are parts of others.
use Rattle.std.proofs.Common.{◌≡◌, ℕ, Bool, ◌||◌, true, List, [], ◌∷◌, map, refl, sym, ap, subst, ◌∙◌, inl, inr}
use Rattle.std.specs.Prelude.{◌⊎◌, Option, Some}
use Rattle.std.specs.List.{list_any}
use Rattle.std.specs.declared.alloc.Global.{Global}
use Rattle.std.specs.declared.net.ip_addr.IpAddr.{IpAddr}
use Rattle.std.specs.declared.vec.Vec.{Vec}
use Rattle.ipfix_message.specs.declared.record.DataRecord.{DataRecord}
use Rattle.ipfix_session.specs.Given.{records_within}
use Rattle.ipfix_session.specs.Sources.{SourceView}
use Rattle.flow_estimates.specs.declared.report.SamplingReport.{SamplingReport}
use Rattle.flow_times.specs.declared.notes.TimesReport.{TimesReport}
use Rattle.report_writing.specs.declared.origin.Origin.{Origin}
use Rattle.flow_table.specs.Plans.{PlanValue}
use Rattle.flow_table.specs.declared.table.Table.{Table}
use Rattle.flow_table.specs.Tables.{IsTooLarge}
use Rattle.flow_collect.specs.Contexts.{counted_in, records_in_context, sources_of}
use Rattle.flow_collect.specs.Failures.{TellsLarge}
use Rattle.flow_collect.specs.Headline.{all_of}
use Rattle.flow_collect.specs.InFull.{FullSerialAnswer, IsGivenInContext}
use Rattle.flow_collect.specs.Places.{Each4}
use Rattle.flow_collect.specs.Rated.{have_large, is_large, refuse_sampled, sampling_fault}
use Rattle.flow_collect.specs.Refusals.{AreTooLargeInContext, IsRefused}
use Rattle.flow_collect.specs.Texts.{AreTexts}
use Rattle.flow_collect.specs.declared.collected.FilteredReport.{FilteredReport}
use Rattle.flow_collect.specs.declared.failure.CollectFailure.{CollectFailure}
use Rattle.flow_collect.specs.declared.fault.CollectFault.TheVariants.{Sampled}
use Rattle.flow_collect.specs.declared.session_context.InContext.{InContext}
use Rattle.command_collect.specs.Engines.{CollectsBy}
use Rattle.command_collect.specs.Exporters.{asked_of, exporter_of, first_origin, first_told, in_context, in_places, other_origins, others_told}
use Rattle.command_collect.specs.Gathered.{GathersBy}
use Rattle.command_collect.specs.declared.engine.Engine.{Engine}
use Rattle.command_collect.specs.declared.gathered.Gathered.{Gathered}
use Rattle.command_collect.specs.declared.job.CollectJob.{CollectJob}

module _ {H S : Type 0} (part : H → S) (seen : S → SourceView) where
  -- what a whole gave, its part gave
  given_part : (before : InContext H) (after : H) (told : FilteredReport) (records : List DataRecord)
      → IsGivenInContext (λ h. seen (part h)) before after told records
      → IsGivenInContext seen (record { source = part before.source; context = before.context; filter = before.filter }) (part after) told records
  given_part before after told records g =
      let d = g.given.given in
      let stops = d.given.stops in
      record {
        own = g.own;
        given = record {
          given = record {
            gave = d.gave;
            given = record {
              octets = d.given.octets;
              within = d.given.within;
              stops = record {
                at = part stops.at;
                earlier = stops.earlier;
                octets = stops.octets;
                no_fault = stops.no_fault;
                none_failed = stops.none_failed;
                not_ended = stops.not_ended;
                one_read = stops.one_read;
                last = stops.last;
                is = stops.is;
                size = stops.size;
              };
              fault_is_due = d.given.fault_is_due;
            };
            counted = d.counted;
            first = d.first;
            all = d.all;
            earlier = d.earlier;
            records_are = d.records_are;
            report_is = d.report_is;
            not_closed = d.not_closed;
          };
          told = g.given.told;
        };
        records_are = g.records_are;
        filtered_is = g.filtered_is;
        sampling_is = g.sampling_is;
        times_is = g.times_is;
        great_is = g.great_is;
      }

  given_parts : (job : CollectJob) (befores : List H) (told : List (Option IpAddr)) (origins : List Origin) (afters : List H) (fulls : List FilteredReport) (records : List (List DataRecord))
      → Each4 (IsGivenInContext (λ h. seen (part h))) (in_places job befores told origins) afters fulls records
      → Each4 (IsGivenInContext seen) (in_places job (map part befores) told origins) (map part afters) fulls records
  given_parts job [] told origins [] [] [] g = tt
  given_parts job [] told origins [] [] (r ∷ records) g = absurd g
  given_parts job [] told origins [] (f ∷ fulls) records g = absurd g
  given_parts job [] told origins (a ∷ afters) fulls records g = absurd g
  given_parts job (b ∷ befores) told origins [] fulls records g = absurd g
  given_parts job (b ∷ befores) told origins (a ∷ afters) [] records g = absurd g
  given_parts job (b ∷ befores) told origins (a ∷ afters) (f ∷ fulls) [] g = absurd g
  given_parts job (b ∷ befores) told origins (a ∷ afters) (f ∷ fulls) (r ∷ records) g =
      (given_part _ a f r g.0, given_parts job befores (others_told told) (other_origins origins) afters fulls records g.1)

  -- what was collected from wholes was collected from their parts
  pub collects_parts : (engine : Engine) (job : CollectJob) (plan : PlanValue) (wholes : List H) (sources : List S) (origins : List Origin) (c : FullSerialAnswer H) (s : FullSerialAnswer S)
      → map part wholes ≡ sources → s.sources.items ≡ map part c.sources.items → s.sessions.items ≡ c.sessions.items → s.table ≡ c.table
      → CollectsBy engine (IsGivenInContext (λ h. seen (part h))) (in_context job wholes origins) plan c → CollectsBy engine (IsGivenInContext seen) (in_context job sources origins) plan s
  collects_parts engine job plan wholes sources origins c s same afters sessions table by =
      let h = by.headline in
      let parts = given_parts job wholes job.exporters.now origins c.sources.items c.sessions.items h.records h.given in
      let these = subst (λ (l : List S). Each4 (IsGivenInContext seen) (in_context job l origins) (map part c.sources.items) c.sessions.items h.records) same parts in
      let there = subst (λ (l : List S). Each4 (IsGivenInContext seen) (in_context job sources origins) l c.sessions.items h.records) (sym afters) these in
      let given = subst (λ (l : List FilteredReport). Each4 (IsGivenInContext seen) (in_context job sources origins) s.sources.items l h.records) (sym sessions) there in
      record { headline = record { records = h.records; given = given; added_up = rw table h.added_up }; came = by.came }

  -- and so was what was gathered of it
  pub gathers_parts : (engine : Engine) (job : CollectJob) (plan : PlanValue) (wholes : List H) (sources : List S) (origins : List Origin) (whole : Gathered H) (run : Gathered S)
      → map part wholes ≡ sources → run.run.sources.items ≡ map part whole.run.sources.items → run.run.sessions.items ≡ whole.run.sessions.items → run.run.table ≡ whole.run.table → run.filtered ≡ whole.filtered → run.sampling ≡ whole.sampling → run.times ≡ whole.times
      → GathersBy engine (IsGivenInContext (λ h. seen (part h))) (in_context job wholes origins) plan whole → GathersBy engine (IsGivenInContext seen) (in_context job sources origins) plan run
  gathers_parts engine job plan wholes sources origins whole run same afters sessions table filtered sampling times by =
      let c = by.collected in
      let g = by.gathered in
      let s : FullSerialAnswer S = record { sessions = c.sessions; sources = run.run.sources; table = c.table } in
      let those : run.run.sources.items ≡ map part c.sources.items = afters ∙ ap (λ (v : Vec H Global). map part v.items) g.sources_are in
      record {
        collected = s;
        collects = collects_parts engine job plan wholes sources origins c s same those refl refl by.collects;
        gathered = record { sessions_are = sessions ∙ g.sessions_are; sources_are = refl; table_is = table ∙ g.table_is; filtered_is = filtered ∙ g.filtered_is; sampling_is = ap (λ (v : Vec SamplingReport Global). v.items) sampling ∙ g.sampling_is; times_is = ap (λ (v : Vec TimesReport Global). v.items) times ∙ g.times_is };
      }

  -- and parts are too large if their wholes are
  sources_same : (job : CollectJob) (wholes : List H) (told : List (Option IpAddr)) (origins : List Origin) (texts : List (List ℕ))
      → AreTexts seen (sources_of (in_places job (map part wholes) told origins)) texts → AreTexts (λ h. seen (part h)) (sources_of (in_places job wholes told origins)) texts
  sources_same job [] told origins texts t = t
  sources_same job (h ∷ wholes) told origins [] t = absurd t
  sources_same job (h ∷ wholes) told origins (x ∷ texts) t = (t.0, sources_same job wholes (others_told told) (other_origins origins) texts t.1)

  -- those of the first text
  abbrev first_records : CollectJob → H → List (Option IpAddr) → List Origin → List ℕ → List DataRecord
  first_records job h told origins x =
      counted_in (record { source = h; context = record { exporter = exporter_of (first_told told) (first_origin origins); wanted = job.wanted; options = asked_of job; maps = job.maps; estimates = job.estimates; refuses_sampled = job.refuses_sampled; times = job.times; great_counters = job.great_counters; templates = job.templates }; filter = job.filter }) (records_within job.templates x)

  records_same : (job : CollectJob) (wholes : List H) (told : List (Option IpAddr)) (origins : List Origin) (texts : List (List ℕ))
      → records_in_context (in_places job wholes told origins) texts ≡ records_in_context (in_places job (map part wholes) told origins) texts
  records_same job [] told origins texts = refl
  records_same job (h ∷ wholes) told origins [] = refl
  records_same job (h ∷ wholes) told origins (x ∷ texts) = ap (λ (l : List (List DataRecord)). first_records job h told origins x ∷ l) (records_same job wholes (others_told told) (other_origins origins) texts)

  -- whatever records they have
  large_same : (job : CollectJob) (wholes : List H) (told : List (Option IpAddr)) (origins : List Origin) (qs : List (List DataRecord))
      → have_large (in_places job wholes told origins) qs ≡ have_large (in_places job (map part wholes) told origins) qs
  large_same job [] told origins qs = refl
  large_same job (h ∷ wholes) told origins [] = refl
  large_same job (h ∷ wholes) told origins (q ∷ qs) = ap (λ (b : Bool). list_any (is_large job.estimates) q || b) (large_same job wholes (others_told told) (other_origins origins) qs)

  refuse_same : (job : CollectJob) (wholes : List H) (told : List (Option IpAddr)) (origins : List Origin)
      → refuse_sampled (in_places job wholes told origins) ≡ refuse_sampled (in_places job (map part wholes) told origins)
  refuse_same job [] told origins = refl
  refuse_same job (h ∷ wholes) told origins = ap (λ (b : Bool). job.refuses_sampled || b) (refuse_same job wholes (others_told told) (other_origins origins))

  pub too_large_parts : (job : CollectJob) (plan : PlanValue) (wholes : List H) (sources : List S) (origins : List Origin) → map part wholes ≡ sources
      → AreTooLargeInContext (λ h. seen (part h)) plan (in_context job wholes origins) → AreTooLargeInContext seen plan (in_context job sources origins)
  too_large_parts job plan wholes sources origins same large =
      subst (λ (l : List S). AreTooLargeInContext seen plan (in_context job l origins)) same (λ texts t.
      let told = job.exporters.now in
      let records = records_same job wholes told origins texts in
      elim (large texts (sources_same job wholes told origins texts t)) as (λ _. IsTooLarge plan (all_of (records_in_context (in_places job (map part wholes) told origins) texts)) ⊎ (have_large (in_places job (map part wholes) told origins) (records_in_context (in_places job (map part wholes) told origins) texts) ≡ true)) [
        | inl sum ↦ inl (subst (λ (l : List (List DataRecord)). IsTooLarge plan (all_of l)) records sum)
        | inr estimate ↦ inr (subst (λ (l : List (List DataRecord)). have_large (in_places job (map part wholes) told origins) l ≡ true) records (sym (large_same job wholes told origins (records_in_context (in_places job wholes told origins) texts)) ∙ estimate))
      ])

  -- and refused if they are
  pub refused_parts : (job : CollectJob) (wholes : List H) (sources : List S) (origins : List Origin) → map part wholes ≡ sources
      → IsRefused (λ h. seen (part h)) (in_context job wholes origins) → IsRefused seen (in_context job sources origins)
  refused_parts job wholes sources origins same r =
      let told = job.exporters.now in
      subst (λ (l : List S). IsRefused seen (in_context job l origins)) same (record {
        afters = map part r.afters;
        reports = r.reports;
        records = r.records;
        given = given_parts job wholes told origins r.afters r.reports r.records r.given;
        is = subst (λ (refuses : Bool). sampling_fault refuses r.reports ≡ Some Sampled) (refuse_same job wholes told origins) r.is;
      })

  -- and what they name where a sum is too large
  pub names_parts : (job : CollectJob) (plan : PlanValue) (wholes : List H) (sources : List S) (origins : List Origin) (failure : CollectFailure) → map part wholes ≡ sources
      → TellsLarge (λ h. seen (part h)) plan (in_context job wholes origins) failure → TellsLarge seen plan (in_context job sources origins) failure
  names_parts job plan wholes sources origins failure same names =
      let told = job.exporters.now in
      subst (λ (l : List S). TellsLarge seen plan (in_context job l origins) failure) same (record {
        large = λ is.
            let of = names.large is in
            record {
              afters = map part of.afters;
              reports = of.reports;
              records = of.records;
              given = given_parts job wholes told origins of.afters of.reports of.records of.given;
              row_is = of.row_is;
              session_is = of.session_is;
            };
        others = names.others;
      })
