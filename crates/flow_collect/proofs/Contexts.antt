-- Sessions in context, and which of their records count.
use Rattle.std.proofs.Common.{◌≡◌, ℕ, Bool, ◌||◌, true, false, List, [], ◌∷◌, ◌++◌, filter, Option, None, Some, Result, Err, refl, sym, ap, ◌∙◌, subst, map, append-nil, inl, inr}
use Rattle.std.specs.Prelude.{◌⊎◌, ◌&&◌, if◌then◌else◌, All, IfNone, IfSome, IsSome, Vec, vec_len}
use Rattle.std.specs.Borrow.{Bor}
use Rattle.std.specs.Int.{w32, to_be_bytes}
use Rattle.std.specs.List.{AllZip, FoldsTo, flat_map, list_any}
use Rattle.std.specs.Option.{ForSome}
use Rattle.std.proofs.lemmas.Bool.{false≢true}
use Rattle.std.proofs.lemmas.Option.{IfSome_then}
use Rattle.std.proofs.lemmas.List.{map-append}
use Rattle.std.proofs.lemmas.List.Elements.{All-cons, All-head, All-nil, All-tail, filter-append}
use Rattle.ipfix_message.specs.Fields.{Field}
use Rattle.ipfix_message.specs.declared.record.DataRecord.{DataRecord}
use Rattle.ipfix_session.specs.Drives.{IsGivenWithin}
use Rattle.ipfix_session.specs.Given.{records_of, records_within, stop_of, IsPrefix}
use Rattle.ipfix_session.specs.Sinks.{SinkView}
use Rattle.ipfix_session.specs.Sources.{SourceView}
use Rattle.ipfix_session.specs.declared.driver.TheConstants.{READ_LIMIT}
use Rattle.ipfix_session.specs.declared.stop.Stop.TheVariants.{Clean}
use Rattle.exporter_options.specs.Beside.{Asked, all_told, asked_first, asked_next, with_told}
use Rattle.exporter_options.proofs.Wants.{told_append, unwanted_all}
use Rattle.flow_filter.specs.Sinks.{counted, left_out, is_let_by, TakesCounted}
use Rattle.flow_filter.specs.declared.filter.Filter.{Filter}
use Rattle.flow_filter.specs.declared.sink.FilterSink.{FilterSink}
use Rattle.flow_maps.specs.Numbers.{if_mapped}
use Rattle.flow_estimates.specs.Estimates.{if_estimated}
use Rattle.flow_filter.proofs.Chains.{counted_chain, left_out_new}
use Rattle.flow_table.specs.Bags.{IsSameBag}
use Rattle.flow_table.specs.Plans.{PlanValue}
use Rattle.flow_table.specs.Tables.{IsTooLarge}
use Rattle.flow_table.proofs.Bags.{too_large_bag}
use Rattle.flow_collect.specs.Contexts.{alone, all_in_context, all_with_context, counted_in, left_out_in, limits_in, named, origin_fields, records_in_context, sources_of, with_context, with_fields, context_fields}
use Rattle.exporter_options.specs.declared.beside.Wanted.{Wanted}
use Rattle.exporter_options.specs.declared.beside.TheConstants as options
use Rattle.flow_estimates.specs.declared.estimates.Estimates.{Estimates}
use Rattle.flow_collect.specs.Rated.{asked_after, have_large, is_large, refuse_sampled, sampling_fault, tell_large, tell_sampled}
use Rattle.flow_collect.proofs.Large.{all_small}
use Rattle.flow_collect.specs.Headline.{IsGivenBy, all_of}
use Rattle.flow_collect.specs.InFull.{fulls_in, reports_in, IsGivenInContext, IsGivenInFull}
use Rattle.flow_collect.specs.Places.{Each4}
use Rattle.flow_collect.specs.Refusals.{AreTooLarge, AreTooLargeInContext, HasFaults, HasFaultsInContext, IsLate, IsLateInContext, IsRefused, fault_of_arguments}
use Rattle.flow_collect.specs.Texts.{AreTexts, HasNoFault}
use Rattle.flow_collect.specs.declared.collected.FilteredReport.{FilteredReport}
use Rattle.flow_collect.specs.declared.collected.Pool.{Pool}
use Rattle.flow_collect.specs.declared.context_sink.ContextSink.{ContextSink}
use Rattle.flow_collect.specs.declared.fault.CollectFault.{CollectFault}
use Rattle.flow_collect.specs.declared.fault.CollectFault.TheVariants.{Workers, Sessions, Link, NoThread, OutOfMemory, SumTooLarge, Sampled}
use Rattle.flow_table.specs.declared.context.Context.{Context}
use Rattle.flow_table.specs.declared.context.TheConstants.{OBSERVATION_DOMAIN_ID}
use Rattle.flow_collect.specs.declared.session_context.Exporter.{Exporter}
use Rattle.flow_collect.specs.declared.session_context.Exporter.TheVariants.{Ipv4, Ipv6}
use Rattle.flow_collect.specs.declared.session_context.InContext.{InContext}
use Rattle.flow_collect.specs.declared.session_context.SessionContext.{SessionContext}
use Rattle.flow_collect.specs.declared.session_context.TheConstants.{NOTHING_WANTED}
use Rattle.flow_collect.proofs.GivenLists.{first_of_text, too_large_lists}
use Rattle.ipfix_session.proofs.Unlimited.{given_all_within}

-- ---- a sink that appends

-- records with what a session knows, of which options records told so much before the first
abbrev pub all_from : Asked → SessionContext → List DataRecord → List DataRecord
all_from told c q = map (with_context c) (all_told told q)

module _ {K : Type 0} (took : K → DataRecord → K → Type 0) where
  abbrev pub TakesInContext : ContextSink K → DataRecord → ContextSink K → Type 0
  TakesInContext before item after =
      IsSome after.lost ⊎ ((before.lost ≡ None) × (after.told ≡ asked_next before.told item) × (after.context ≡ before.context) × took before.sink (with_context before.context (with_told before.told item)) after.sink)

  -- a chain that lost nothing
  pub record Kept (first : ContextSink K) (q : List DataRecord) (last : ContextSink K) : Type 0 where
    pub none_lost : first.lost ≡ None
    pub told_is : last.told ≡ asked_after first.told q
    pub chain : FoldsTo took first.sink (all_from first.told first.context q) last.sink

  pub kept : (first last : ContextSink K) (q : List DataRecord) → FoldsTo TakesInContext first q last → last.lost ≡ None → Kept first q last
  kept first last [] is none = record { none_lost = ap (λ (s : ContextSink K). s.lost) is ∙ none; told_is = sym (ap (λ (s : ContextSink K). s.told) is); chain = ap (λ (s : ContextSink K). s.sink) is }
  kept first last (x ∷ q) c none =
      let rest = kept c.0 last q c.2 none in
      elim c.1 [
        | inl lost ↦ absurd (false≢true (subst IsSome rest.none_lost lost))
        | inr one ↦ record {
          none_lost = one.0;
          told_is = rest.told_is ∙ ap (λ (t : Asked). asked_after t q) one.1;
          chain = (
            c.0.sink,
            one.3,
            subst (λ (k : SessionContext). FoldsTo took c.0.sink (all_from (asked_next first.told x) k q) last.sink) one.2
                (subst (λ (t : Asked). FoldsTo took c.0.sink (all_from t c.0.context q) last.sink) one.1 rest.chain),
          );
        }
      ]

-- ---- a sink behind a filter, which a sink that appends puts into

module _ {S K : Type 0} (view : SinkView K) where
  -- it took those that count, and the others were left out
  pub kept_counted : (s : InContext S) (first last : ContextSink (FilterSink K)) (q : List DataRecord) → first.told ≡ asked_first s.context.options → first.context ≡ s.context → first.sink.filter ≡ s.filter → first.sink.filtered ≡ 0
      → FoldsTo (TakesInContext (TakesCounted view)) first q last → last.lost ≡ None
      → FoldsTo view.took first.sink.sink (counted_in s q) last.sink.sink × (last.sink.filtered ≡ left_out_in s q) × (last.told ≡ asked_after (asked_first s.context.options) q)
  kept_counted s first last q told context same none c lost =
      let keep = kept (TakesCounted view) first last q c lost in
      let there = subst (λ (k : SessionContext). FoldsTo (TakesCounted view) first.sink (all_from (asked_first s.context.options) k q) last.sink) context
      (subst (λ (t : Asked). FoldsTo (TakesCounted view) first.sink (all_from t first.context q) last.sink) told keep.chain) in (
        counted_chain view s.filter (all_with_context s.context q) first.sink last.sink same there,
        left_out_new view first.sink last.sink (all_with_context s.context q) none there ∙ ap (λ f. left_out f (all_with_context s.context q)) same,
        keep.told_is ∙ ap (λ (t : Asked). asked_after t q) told,
      )

-- ---- nothing is wanted, and all count

fields_unwanted : (wanted : Context) (exporter : Option Exporter) (domain : List ℕ) → wanted ≡ NOTHING_WANTED → origin_fields wanted exporter ++ named wanted.observation_domain_id OBSERVATION_DOMAIN_ID domain ≡ []
fields_unwanted wanted None domain none = rw none refl
fields_unwanted wanted (Some (Ipv4 a)) domain none = rw none refl
fields_unwanted wanted (Some (Ipv6 a)) domain none = rw none refl

with_unwanted : (c : SessionContext) (r : DataRecord) → c.wanted ≡ NOTHING_WANTED → c.maps ≡ None → c.estimates ≡ None → with_context c r ≡ r
with_unwanted c r none unmapped unestimated =
    ap (λ e. with_fields r (if_estimated e (if_mapped c.maps (r.fields ++ context_fields c r.domain)))) unestimated
    ∙ ap (λ m. with_fields r (if_mapped m (r.fields ++ context_fields c r.domain))) unmapped
    ∙ ap (with_fields r) (ap (λ (l : List Field). r.fields ++ l) (fields_unwanted c.wanted c.exporter (to_be_bytes w32 r.domain) none) ∙ append-nil r.fields)

map_unwanted : (c : SessionContext) (q : List DataRecord) → c.wanted ≡ NOTHING_WANTED → c.maps ≡ None → c.estimates ≡ None → map (with_context c) q ≡ q
map_unwanted c [] none unmapped unestimated = refl
map_unwanted c (r ∷ q) none unmapped unestimated =
    let first = with_unwanted c r none unmapped unestimated in
    let rest = map_unwanted c q none unmapped unestimated in cc

all_with_unwanted : (c : SessionContext) (q : List DataRecord) → c.wanted ≡ NOTHING_WANTED → c.options ≡ options.NOTHING_WANTED → c.maps ≡ None → c.estimates ≡ None → all_with_context c q ≡ q
all_with_unwanted c q none untold unmapped unestimated =
    let nothing = ap (λ (w : Wanted). w.init_time || w.sampling) untold in
    ap (map (with_context c)) (unwanted_all (asked_first c.options) q nothing) ∙ map_unwanted c q none unmapped unestimated

counted_all : (q : List DataRecord) → counted None q ≡ q
counted_all [] = refl
counted_all (r ∷ q) = ap (λ (l : List DataRecord). r ∷ l) (counted_all q)

-- nothing is wanted of what the session of a source knows, all of its records count, and its templates have no limit
abbrev pub IsUnwanted : {S : Type 0} → InContext S → Type 0
IsUnwanted s = (s.context.wanted ≡ NOTHING_WANTED) × (s.context.options ≡ options.NOTHING_WANTED) × (s.context.maps ≡ None) × (s.filter ≡ None) × (s.context.estimates ≡ None) × (s.context.refuses_sampled ≡ false) × (s.context.templates ≡ None)

pub counted_unwanted : {S : Type 0} (s : InContext S) (q : List DataRecord) → IsUnwanted s → counted_in s q ≡ q
counted_unwanted s q none =
    ap (λ f. counted f (all_with_context s.context q)) none.3 ∙ counted_all (all_with_context s.context q) ∙ all_with_unwanted s.context q none.0 none.1 none.2 none.4

pub records_plain : {S : Type 0} (given : List (InContext S)) (texts : List (List ℕ)) (Reads : S → List ℕ → Type 0) → All IsUnwanted given → AllZip Reads (sources_of given) texts → records_in_context given texts ≡ map records_of texts
records_plain [] [] Reads none t = refl
records_plain (s ∷ given) (text ∷ texts) Reads none t =
    let unwanted = All-head IsUnwanted s given none in
    let first : counted_in s (records_within s.context.templates text) ≡ records_of text =
    counted_unwanted s (records_within s.context.templates text) unwanted ∙ ap (λ (t : Option ℕ). records_within t text) unwanted.6 in
    let rest = records_plain given texts Reads (All-tail IsUnwanted s given none) t.1 in cc
records_plain [] (text ∷ texts) Reads none t = absurd t
records_plain (s ∷ given) [] Reads none t = absurd t

-- and no estimate is too large
none_large : {S : Type 0} (given : List (InContext S)) (qs : List (List DataRecord)) → All IsUnwanted given → have_large given qs ≡ false
none_large [] qs none = refl
none_large (s ∷ given) [] none = refl
none_large (s ∷ given) (q ∷ qs) none =
    ap (λ (e : Option (Bor Estimates)). list_any (is_large e) q || have_large given qs) (All-head IsUnwanted s given none).4
    ∙ ap (λ (b : Bool). b || have_large given qs) (all_small q) ∙ none_large given qs (All-tail IsUnwanted s given none)

-- and nothing is refused
none_refuse : {S : Type 0} (given : List (InContext S)) → All IsUnwanted given → refuse_sampled given ≡ false
none_refuse [] none = refl
none_refuse (s ∷ given) none =
    ap (λ (b : Bool). b || refuse_sampled given) (All-head IsUnwanted s given none).5 ∙ none_refuse given (All-tail IsUnwanted s given none)

never_sampled : (large sampled : Bool) → (if large then Some SumTooLarge else if false && sampled then Some Sampled else None) ≡ Some Sampled → ⊥
never_sampled true sampled is = absurd (cc is)
never_sampled false sampled is = absurd (cc is)

pub never_refused : {S : Type 0} (seen : S → SourceView) (given : List (InContext S)) → All IsUnwanted given → IsRefused seen given → ⊥
never_refused seen given none run =
    never_sampled (tell_large run.reports) (tell_sampled run.reports) (subst (λ (refuses : Bool). sampling_fault refuses run.reports ≡ Some Sampled) (none_refuse given none) run.is)

-- a fault that is not `Sampled` comes late in context if it does so in none
pub late_plain : (fault : CollectFault) → (fault ≡ Sampled → ⊥) → IsLateInContext fault → IsLate fault
late_plain Workers other late = late
late_plain Sessions other late = late
late_plain Link other late = late
late_plain NoThread other late = late
late_plain OutOfMemory other late = late
late_plain SumTooLarge other late = late
late_plain Sampled other late = absurd (other refl)

pub if_late_plain : (due : Option CollectFault) (fault : CollectFault) → (fault ≡ Sampled → ⊥) → IfNone due (IsLateInContext fault) → IfNone due (IsLate fault)
if_late_plain None fault other late = late_plain fault other late
if_late_plain (Some x) fault other late = tt

all_of_texts : (texts : List (List ℕ)) → all_of (map records_of texts) ≡ flat_map records_of texts
all_of_texts [] = refl
all_of_texts (text ∷ texts) = ap (λ (l : List DataRecord). records_of text ++ l) (all_of_texts texts)

module _ {S : Type 0} where
  pub sources_alone : (sources : List S) → sources_of (map alone sources) ≡ sources
  sources_alone [] = refl
  sources_alone (s ∷ sources) = ap (λ (l : List S). s ∷ l) (sources_alone sources)

  alone_unwanted : (sources : List S) → All IsUnwanted (map alone sources)
  alone_unwanted [] = All-nil IsUnwanted
  alone_unwanted (s ∷ sources) = All-cons IsUnwanted (alone s) (map alone sources) (refl, refl, refl, refl, refl, refl, refl) (alone_unwanted sources)

-- ---- all sessions

prefix_filter : {X : Type 0} (p : X → Bool) (xs ys : List X) → IsPrefix xs ys → IsPrefix (filter p xs) (filter p ys)
prefix_filter p xs ys h = (filter p h.0, ap (filter p) h.1 ∙ filter-append p xs h.0)

prefix_map : {X Y : Type 0} (f : X → Y) (xs ys : List X) → IsPrefix xs ys → IsPrefix (map f xs) (map f ys)
prefix_map f xs ys p = (map f p.0, ap (map f) p.1 ∙ map-append f xs p.0)

prefix_told : (told : Asked) (xs ys : List DataRecord) → IsPrefix xs ys → IsPrefix (all_told told xs) (all_told told ys)
prefix_told told xs ys p =
    let rest = told_append told xs p.0 in
    (all_told rest.0 p.0, ap (all_told told) p.1 ∙ rest.1)

module _ {S : Type 0} (seen : S → SourceView) where
  -- where all have one filter
  pub record OfCounted (f : Option (Bor Filter)) (befores : List (InContext S)) (afters : List S) (fulls : List FilteredReport) (qs : List (List DataRecord)) : Type 0 where
    pub own : List (List DataRecord)
    pub given : Each4 (IsGivenInFull seen) befores afters (fulls_in fulls) own
    pub all : all_of qs ≡ counted f (all_in_context befores own)

  pub of_counted : (f : Option (Bor Filter)) (befores : List (InContext S)) (afters : List S) (fulls : List FilteredReport) (qs : List (List DataRecord)) → All (λ (s : InContext S). s.filter ≡ f) befores
      → Each4 (IsGivenInContext seen) befores afters fulls qs → OfCounted f befores afters fulls qs
  of_counted f [] [] [] [] same e = record { own = []; given = tt; all = refl }
  of_counted f (s ∷ befores) (a ∷ afters) (r ∷ fulls) (q ∷ qs) same e =
      let HasIt = λ (s : InContext S). s.filter ≡ f in
      let rest = of_counted f befores afters fulls qs (All-tail HasIt s befores same) e.1 in
      let these = all_with_context s.context e.0.own in
      let first : q ≡ counted f these = e.0.records_are ∙ ap (λ (g : Option (Bor Filter)). counted g these) (All-head HasIt s befores same) in
      record {
        own = e.0.own ∷ rest.own;
        given = (e.0.given, rest.given);
        all = ap (λ (l : List DataRecord). l ++ all_of qs) first ∙ ap (λ (l : List DataRecord). counted f these ++ l) rest.all ∙ sym (filter-append (is_let_by f) these (all_in_context befores rest.own));
      }
  of_counted f befores afters fulls qs same e = absurd e

  -- without what they know, and without the rest
  pub given_plain : (befores : List (InContext S)) (afters : List S) (fulls : List FilteredReport) (qs : List (List DataRecord)) → All IsUnwanted befores → Each4 (IsGivenInContext seen) befores afters fulls qs
      → Each4 (IsGivenBy seen) (sources_of befores) afters (reports_in (fulls_in fulls)) qs
  given_plain [] [] [] [] none e = tt
  given_plain (s ∷ befores) (a ∷ afters) (f ∷ fulls) (q ∷ qs) none e =
      let unwanted = All-head IsUnwanted s befores none in
      let same = e.0.records_are ∙ counted_unwanted s e.0.own unwanted in
      let own : IsGivenBy seen s.source a f.full.report e.0.own =
      subst (λ (t : Option ℕ). IsGivenWithin seen (record { reads = READ_LIMIT; templates = t }) s.source a f.full.report e.0.own) unwanted.6 e.0.given.given in
      (subst (IsGivenBy seen s.source a f.full.report) (sym same) own, given_plain befores afters fulls qs (All-tail IsUnwanted s befores none) e.1)
  given_plain befores afters fulls qs none e = absurd e

  pub given_alone : (sources : List S) (befores : List (InContext S)) (afters : List S) (fulls : List FilteredReport) (qs : List (List DataRecord)) → befores ≡ map alone sources → Each4 (IsGivenInContext seen) befores afters fulls qs
      → Each4 (IsGivenBy seen) sources afters (reports_in (fulls_in fulls)) qs
  given_alone sources befores afters fulls qs are e =
      let there = subst (λ (l : List (InContext S)). Each4 (IsGivenInContext seen) l afters fulls qs) are e in
      subst (λ (l : List S). Each4 (IsGivenBy seen) l afters (reports_in (fulls_in fulls)) qs) (sources_alone sources) (given_plain (map alone sources) afters fulls qs (alone_unwanted sources) there)

  -- if no session has a fault, the records are those of the whole texts
  pub whole_in_context : ((s : S) → (seen s).ended ≡ true → ForSome (seen s).text (λ xs. xs ≡ []))
      → (befores : List (InContext S)) (afters : List S) (fulls : List FilteredReport) (qs : List (List DataRecord)) (texts : List (List ℕ)) → Each4 (IsGivenInContext seen) befores afters fulls qs
      → AreTexts seen (sources_of befores) texts → All (λ (told : FilteredReport). HasNoFault told.full.report) fulls → (qs ≡ records_in_context befores texts) × All (λ text. stop_of text ≡ Clean) texts
  whole_in_context at_end [] [] [] [] [] e t n = (refl, All-nil (λ text. stop_of text ≡ Clean))
  whole_in_context at_end (s ∷ befores) (a ∷ afters) (f ∷ fulls) (q ∷ qs) (text ∷ texts) e t n =
      let NoFault = λ (told : FilteredReport). HasNoFault told.full.report in
      let whole = given_all_within seen (limits_in s.context) s.source a f.full.report e.0.own text (at_end a) e.0.given.given (All-head NoFault f fulls n) t.0 in
      let clean = whole.clean in
      let first : q ≡ counted_in s (records_within s.context.templates text) = e.0.records_are ∙ ap (counted_in s) whole.within in
      let (are, others) = whole_in_context at_end befores afters fulls qs texts e.1 t.1 (All-tail NoFault f fulls n) in
      (cc, All-cons (λ text. stop_of text ≡ Clean) text texts clean others)
  whole_in_context at_end [] [] [] [] (text ∷ texts) e t n = absurd t
  whole_in_context at_end (s ∷ befores) (a ∷ afters) (f ∷ fulls) (q ∷ qs) [] e t n = absurd t
  whole_in_context at_end befores afters fulls qs texts e t n = absurd e

  pub first_in_context : (befores : List (InContext S)) (afters : List S) (fulls : List FilteredReport) (qs : List (List DataRecord)) (texts : List (List ℕ)) → Each4 (IsGivenInContext seen) befores afters fulls qs
      → AreTexts seen (sources_of befores) texts → AllZip IsPrefix qs (records_in_context befores texts)
  first_in_context [] [] [] [] [] e t = tt
  first_in_context (s ∷ befores) (a ∷ afters) (f ∷ fulls) (q ∷ qs) (text ∷ texts) e t =
      let own = first_of_text seen (limits_in s.context) s.source a f.full.report e.0.own text e.0.given.given t.0 in
      let here = prefix_filter (is_let_by s.filter) _ _ (prefix_map (with_context s.context) _ _ (prefix_told (asked_first s.context.options) e.0.own (records_within s.context.templates text) own)) in
      (subst (λ (l : List DataRecord). IsPrefix l (counted_in s (records_within s.context.templates text))) (sym e.0.records_are) here, first_in_context befores afters fulls qs texts e.1 t.1)
  first_in_context [] [] [] [] (text ∷ texts) e t = absurd t
  first_in_context (s ∷ befores) (a ∷ afters) (f ∷ fulls) (q ∷ qs) [] e t = absurd t
  first_in_context befores afters fulls qs texts e t = absurd e

  -- if the records that sessions gave are too large, in whatever order, those of the whole texts are
  pub too_large_due : (plan : PlanValue) (befores : List (InContext S)) (afters : List S) (fulls : List FilteredReport) (qs : List (List DataRecord)) (rs : List DataRecord)
      → Each4 (IsGivenInContext seen) befores afters fulls qs → IsSameBag rs (all_of qs) → IsTooLarge plan rs → AreTooLargeInContext seen plan befores
  too_large_due plan befores afters fulls qs rs given same large = λ texts t.
      inl (too_large_lists plan (λ (q : List DataRecord). q) qs (records_in_context befores texts) (first_in_context befores afters fulls qs texts given t) (too_large_bag plan rs (all_of qs) same large))

  pub too_large_plain : (plan : PlanValue) (given : List (InContext S)) → All IsUnwanted given → AreTooLargeInContext seen plan given → AreTooLarge seen plan (sources_of given)
  too_large_plain plan given none large = λ texts t.
      elim (large texts t) as (λ _. IsTooLarge plan (flat_map records_of texts)) [
        | inl sum ↦ subst (IsTooLarge plan) (ap all_of (records_plain given texts _ none t) ∙ all_of_texts texts) sum
        | inr estimate ↦ absurd (false≢true (sym (none_large given (records_in_context given texts) none) ∙ estimate))
      ]

  pub too_large_alone : (plan : PlanValue) (sources : List S) (befores : List (InContext S)) → befores ≡ map alone sources → AreTooLargeInContext seen plan befores → AreTooLarge seen plan sources
  too_large_alone plan sources befores are large =
      subst (AreTooLarge seen plan) (sources_alone sources) (too_large_plain plan (map alone sources) (alone_unwanted sources) (subst (AreTooLargeInContext seen plan) are large))

-- the same fault, where nothing is wanted
pub faults_alone : {S X Y Z W : Type 0} (seen : S → SourceView) (plan : PlanValue) (pool : Pool) (sources : Vec S Z) (befores : Vec (InContext S) W) (fault : CollectFault) → vec_len befores ≡ vec_len sources
    → befores.items ≡ map alone sources.items → HasFaultsInContext {X = X} seen befores plan pool (Err fault) → HasFaults {X = Y} seen sources plan pool (Err fault)
faults_alone {X = X} {Y = Y} seen plan pool sources befores fault same are has =
    let other : (fault ≡ Sampled → ⊥) = λ is.
    never_refused seen (map alone sources.items) (alone_unwanted sources.items) (subst (IsRefused seen) are (has.sampled (ap {A = CollectFault} {B = Result X CollectFault} Err is))) in
    record {
      arguments = IfSome_then (fault_of_arguments pool (vec_len sources)) (subst (λ (n : ℕ). IfSome (fault_of_arguments pool n) (λ due. ◌≡◌ {A = Result X CollectFault} (Err fault) (Err due))) same has.arguments)
          (λ due is. ap {A = CollectFault} {B = Result Y CollectFault} Err (cc is));
      others = subst (λ (n : ℕ). IfNone (fault_of_arguments pool n) (IsLate fault)) same (if_late_plain (fault_of_arguments pool (vec_len befores)) fault other has.others);
      too_large = λ is. too_large_alone seen plan sources.items befores.items are (has.too_large (ap {A = CollectFault} {B = Result X CollectFault} Err (cc is)));
    }
