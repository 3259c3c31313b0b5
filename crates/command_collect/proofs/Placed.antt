-- Sources in their places.
use Rattle.std.proofs.Common.{◌≡◌, ℕ, suc, ◌+◌, ◌<◌, ◌≤◌, List, [], ◌∷◌, ◌++◌, length, map, take, get_or, refl, sym, ap, subst, ◌∙◌, arith, append_assoc, append-nil, length-append}
use Rattle.std.specs.Prelude.{Option, None}
use Rattle.std.proofs.Math.Seq.{get_or-append_seam}
use Rattle.std.proofs.lemmas.List.{map-append, length-map, take_all, take_more}
use Rattle.std.specs.declared.alloc.Global.{Global}
use Rattle.std.specs.declared.net.ip_addr.IpAddr.{IpAddr}
use Rattle.std.specs.declared.vec.Vec.{Vec}
use Rattle.ipfix_message.specs.declared.record.DataRecord.{DataRecord}
use Rattle.ipfix_session.specs.Sources.{SourceView}
use Rattle.ipfix_session.specs.declared.driver.TheConstants.{READ_LIMIT}
use Rattle.ipfix_session.specs.declared.report.FullReport.{FullReport}
use Rattle.report_writing.specs.declared.origin.Origin.{Origin}
use Rattle.flow_collect.specs.InFull.{IsGivenInContext, fulls_in}
use Rattle.flow_collect.specs.Places.{Each3, Each4}
use Rattle.flow_collect.specs.declared.collected.FilteredReport.{FilteredReport}
use Rattle.input_digests.specs.HashedTexts.{IsOfCounted, IsOfSession}
use Rattle.command_collect.specs.Exporters.{in_places, other_origins, others_told}
use Rattle.flow_table.specs.Plans.{PlanValue}
use Rattle.command_collect.specs.Exporters.{in_context}
use Rattle.command_collect.specs.Gathered.{GathersBy}
use Rattle.command_collect.specs.declared.engine.Engine.{Engine}
use Rattle.command_collect.specs.declared.gathered.Gathered.{Gathered}
use Rattle.command_collect.specs.declared.job.CollectJob.{CollectJob}
use Rattle.command_collect.specs.Digests.{AreDigestsOf, AreOfSessions, StartAt}

module _ {S : Type 0} (seen : S → SourceView) where
  -- what the source at each place holds
  abbrev pub texts_of : List S → ℕ → Option (List ℕ)
  texts_of sources place = get_or (map (λ (s : S). (seen s).text) sources) place None

  text_there : (before : List S) (s : S) (after : List S) → texts_of (before ++ s ∷ after) (length before) ≡ (seen s).text
  text_there before s after =
      let f = λ (x : S). (seen x).text in
      ap (λ xs. get_or xs (length before) None) (map-append f before (s ∷ after))
      ∙ ap (λ (n : ℕ). get_or (map f before ++ map f (s ∷ after)) n None) (sym (length-map before f))
      ∙ get_or-append_seam (map f before) (f s) (map f after) None

  pub starts_at : (before sources : List S) → StartAt seen (texts_of (before ++ sources)) (length before) sources
  starts_at before [] = tt
  starts_at before (s ∷ sources) =
      let next = starts_at (before ++ s ∷ []) sources in
      let same : (before ++ s ∷ []) ++ sources ≡ before ++ s ∷ sources = append_assoc before (s ∷ []) sources in
      let place : length (before ++ s ∷ []) ≡ length before + 1 = length-append before (s ∷ []) in
      let there = subst (λ (xs : List S). StartAt seen (texts_of xs) (length (before ++ s ∷ [])) sources) same next in (
        sym (text_there before s sources),
        subst (λ (n : ℕ). StartAt seen (texts_of (before ++ s ∷ sources)) n sources) place there,
      )

  -- one more, at the next place
  pub of_sessions_more : (texts : ℕ → Option (List ℕ)) (place last : ℕ) (sources : List S) (fulls : List FullReport) (digests : List (List ℕ)) (s : S) (f : FullReport) (d : List ℕ)
      → AreOfSessions seen texts place sources fulls digests → place + length sources ≡ last → IsOfSession seen (texts last) s f d
      → AreOfSessions seen texts place (sources ++ s ∷ []) (fulls ++ f ∷ []) (digests ++ d ∷ [])
  of_sessions_more texts place last [] [] [] s f d all here one =
      let same : last ≡ place = omega (arith, here) in (subst (λ (n : ℕ). IsOfSession seen (texts n) s f d) same one, tt)
  of_sessions_more texts place last [] [] (e ∷ digests) s f d all here one = absurd all
  of_sessions_more texts place last [] (g ∷ fulls) digests s f d all here one = absurd all
  of_sessions_more texts place last (t ∷ sources) [] digests s f d all here one = absurd all
  of_sessions_more texts place last (t ∷ sources) (g ∷ fulls) [] s f d all here one = absurd all
  of_sessions_more texts place last (t ∷ sources) (g ∷ fulls) (e ∷ digests) s f d all here one =
      (all.0, of_sessions_more texts (place + 1) last sources fulls digests s f d all.1 (omega (arith, here)) one)

  -- the digests of sources that gave what their sessions got
  pub digests_are : (job : CollectJob) (texts : ℕ → Option (List ℕ)) (place : ℕ) (sources : List S) (told : List (Option IpAddr)) (origins : List Origin) (afters : List S) (fulls : List FilteredReport) (records : List (List DataRecord)) (digests : List (List ℕ))
      → StartAt seen texts place sources → Each4 (IsGivenInContext seen) (in_places job sources told origins) afters fulls records → AreOfSessions seen texts place afters (fulls_in fulls) digests → AreDigestsOf seen sources (fulls_in fulls) digests
  digests_are job texts place [] told origins [] [] [] [] start given of = tt
  digests_are job texts place [] told origins [] [] [] (d ∷ digests) start given of = absurd of
  digests_are job texts place [] told origins [] [] (r ∷ records) digests start given of = absurd given
  digests_are job texts place [] told origins [] (f ∷ fulls) records digests start given of = absurd given
  digests_are job texts place [] told origins (a ∷ afters) fulls records digests start given of = absurd given
  digests_are job texts place (s ∷ sources) told origins [] fulls records digests start given of = absurd given
  digests_are job texts place (s ∷ sources) told origins (a ∷ afters) [] records digests start given of = absurd given
  digests_are job texts place (s ∷ sources) told origins (a ∷ afters) (f ∷ fulls) [] digests start given of = absurd given
  digests_are job texts place (s ∷ sources) told origins (a ∷ afters) (f ∷ fulls) (r ∷ records) [] start given of = absurd of
  digests_are job texts place (s ∷ sources) told origins (a ∷ afters) (f ∷ fulls) (r ∷ records) (d ∷ digests) start given of =
      let full = given.0.given in
      let one : IsOfCounted (texts place) f.full d = of.0 (record { reads = READ_LIMIT; templates = job.templates }) s start.0 (record { records = given.0.own; given = full.given; told = full.told }) in (
        subst (λ (o : Option (List ℕ)). IsOfCounted o f.full d) (sym start.0) one,
        digests_are job texts (place + 1) sources (others_told told) (other_origins origins) afters fulls records digests start.1 given.1 of.1,
      )

  -- the same of what was gathered
  pub gathered_digests : (engine : Engine) (job : CollectJob) (plan : PlanValue) (texts : ℕ → Option (List ℕ)) (sources : List S) (origins : List Origin) (run : Gathered S) (digests : List (List ℕ))
      → StartAt seen texts 0 sources → GathersBy engine (IsGivenInContext seen) (in_context job sources origins) plan run → AreOfSessions seen texts 0 run.run.sources.items run.run.sessions.items digests
      → AreDigestsOf seen sources run.run.sessions.items digests
  gathered_digests engine job plan texts sources origins run digests start by of =
      let c = by.collected in
      let g = by.gathered in
      let there = subst (λ (v : Vec S Global). AreOfSessions seen texts 0 v.items (fulls_in c.sessions.items) digests) g.sources_are (subst (λ (l : List FullReport). AreOfSessions seen texts 0 run.run.sources.items l digests) g.sessions_are of) in
      subst (λ (l : List FullReport). AreDigestsOf seen sources l digests) (sym g.sessions_are)
      (digests_are job texts 0 sources job.exporters.now origins c.sources.items c.sessions.items by.collects.headline.records digests start by.collects.headline.given there)

-- as many
pub as_many_each : {A B C D : Type 0} (P : A → B → C → D → Type 0) (aa : List A) (bs : List B) (cs : List C) (ds : List D) → Each4 P aa bs cs ds → length bs ≡ length cs
as_many_each P [] [] [] [] e = refl
as_many_each P [] [] [] (d ∷ ds) e = absurd e
as_many_each P [] [] (c ∷ cs) ds e = absurd e
as_many_each P [] (b ∷ bs) cs ds e = absurd e
as_many_each P (a ∷ aa) [] cs ds e = absurd e
as_many_each P (a ∷ aa) (b ∷ bs) [] ds e = absurd e
as_many_each P (a ∷ aa) (b ∷ bs) (c ∷ cs) [] e = absurd e
as_many_each P (a ∷ aa) (b ∷ bs) (c ∷ cs) (d ∷ ds) e = ap suc (as_many_each P aa bs cs ds e.1)

-- ---- sources that wait

module _ {S : Type 0} (seen : S → SourceView) (texts : ℕ → Option (List ℕ)) where
  -- the first of those that wait holds what its place says
  pub first_starts : (place : ℕ) (waiting rest : List S) (s : S) → StartAt seen texts place waiting → waiting ≡ s ∷ rest → (seen s).text ≡ texts place
  first_starts place waiting rest s start split = (subst (StartAt seen texts place) split start).0

  -- and so do those after it
  pub others_start : (place next : ℕ) (waiting rest : List S) (s : S) → StartAt seen texts place waiting → waiting ≡ s ∷ rest → next ≡ place + 1 → StartAt seen texts next rest
  others_start place next waiting rest s start split is = subst (λ (n : ℕ). StartAt seen texts n rest) (sym is) (subst (StartAt seen texts place) split start).1

-- the first of those that wait comes after those that are there
pub moved_part : {H S : Type 0} (part : H → S) (there : List S) (s : S) (waiting rest : List H) (h : H) → waiting ≡ h ∷ rest → s ≡ part h → (there ++ s ∷ []) ++ map part rest ≡ there ++ map part waiting
moved_part part there s waiting rest h split is =
    append_assoc there (s ∷ []) (map part rest) ∙ ap (λ (x : _). there ++ x ∷ map part rest) is ∙ ap (λ xs. there ++ map part xs) (sym split)

pub made_part : {H S : Type 0} (part : H → S) (there : List H) (h : H) (waiting rest : List S) (s : S) → waiting ≡ s ∷ rest → part h ≡ s → map part (there ++ h ∷ []) ++ rest ≡ map part there ++ waiting
made_part part there h waiting rest s split is =
    ap (λ xs. xs ++ rest) (map-append part there (h ∷ [])) ∙ append_assoc (map part there) (part h ∷ []) rest
    ∙ ap (λ x. map part there ++ x ∷ rest) is ∙ ap (λ xs. map part there ++ xs) (sym split)

-- where as many are there as there were, none waits
pub none_waits : {H S : Type 0} (part : H → S) (there all : List S) (waiting : List H) → there ++ map part waiting ≡ all → length all ≤ length there → there ≡ all
none_waits part there all [] so_far enough = sym (append-nil there) ∙ so_far
none_waits part there all (h ∷ waiting) so_far enough = absurd (omega (arith, ap length so_far, length-append there (map part (h ∷ waiting)), enough))

module _ {S : Type 0} (seen : S → SourceView) (texts : ℕ → Option (List ℕ)) where
  -- one source more was finished, in its place
  pub finished_more : (sources : List S) (reports : List FullReport) (digests : List (List ℕ)) (i place : ℕ) (s given : S) (full : FullReport) (digest : List ℕ)
      → AreOfSessions seen texts 0 sources (take i reports) digests → length sources ≡ i → i < length reports → full ≡ get_or reports i full → place ≡ length sources → s ≡ given
      → IsOfSession seen (texts place) given full digest
      → AreOfSessions seen texts 0 (sources ++ s ∷ []) (take (i + 1) reports) (digests ++ digest ∷ [])
  finished_more sources reports digests i place s given full digest all count within is here same one =
      let there : IsOfSession seen (texts place) s full digest = subst (λ (x : S). IsOfSession seen (texts place) x full digest) (sym same) one in
      let next : take (i + 1) reports ≡ take i reports ++ full ∷ [] = take_more reports i full within ∙ ap (λ (f : FullReport). take i reports ++ f ∷ []) (sym is) in
      subst (λ (fs : List FullReport). AreOfSessions seen texts 0 (sources ++ s ∷ []) fs (digests ++ digest ∷ [])) (sym next)
      (of_sessions_more seen texts 0 place sources (take i reports) digests s full digest all (omega (arith, here)) there)

  -- and then all
  pub finished_all : (sources : List S) (reports : List FullReport) (digests : List (List ℕ)) (i : ℕ) → AreOfSessions seen texts 0 sources (take i reports) digests → length reports ≤ i → AreOfSessions seen texts 0 sources reports digests
  finished_all sources reports digests i all enough = subst (λ (fs : List FullReport). AreOfSessions seen texts 0 sources fs digests) (take_all i reports enough) all
