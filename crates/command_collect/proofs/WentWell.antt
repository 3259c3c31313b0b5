-- Sessions that have no fault, and the tests of it.
use Rattle.std.proofs.Common.{◌≡◌, ℕ, ◌+◌, ◌<◌, ◌≤◌, Bool, true, false, List, [], ◌∷◌, length, take, get_or, All, Option, Some, None, refl, subst}
use Rattle.std.proofs.lemmas.List.{take_all}
use Rattle.std.proofs.lemmas.List.Elements.{All-nil, All-cons, All-more, All-head, All-tail, All-map, All-weaker}
use Rattle.std.specs.Prelude.{◌↔◌, ◌&&◌, IsTrue, is_some}
use Rattle.ipfix_session.specs.declared.report.FullReport.{FullReport}
use Rattle.flow_estimates.specs.declared.report.SamplingReport.{SamplingReport}
use Rattle.flow_table.specs.declared.missing.Missing.{Missing}
use Rattle.flow_table.specs.declared.table.Table.{Table}
use Rattle.flow_table.specs.declared.tally.Tally.{Tally}
use Rattle.flow_collect.specs.InFull.{fulls_in, reports_in}
use Rattle.flow_collect.specs.declared.collected.FilteredReport.{FilteredReport}
use Rattle.flow_collect.specs.Texts.{HasNoFault}
use Rattle.report_sampling.specs.SpotlessSampling.{IsSamplingSpotless}
use Rattle.report_sessions.specs.Spotless.{IsSpotless, IsSpotlessSession}
use Rattle.command_collect.specs.Runs.{HaveNoFault, WentWell}

abbrev pub NoFault : FullReport → Type 0
NoFault full = HasNoFault full.report

not_some : {X : Type 0} (o : Option X) → false ≡ is_some o → o ≡ None
not_some None h = refl
not_some (Some x) h = absurd cc

pub no_fault_short : (fulls : List FullReport) → All NoFault fulls → All HasNoFault (reports_in fulls)
no_fault_short fulls none = All-map HasNoFault (λ (full : FullReport). full.report) fulls none

no_fault_from : (fulls : List FullReport) → All HasNoFault (reports_in fulls) → All NoFault fulls
no_fault_from [] all = All-nil NoFault
no_fault_from (full ∷ fulls) all =
    All-cons NoFault full fulls (All-head HasNoFault full.report (reports_in fulls) all) (no_fault_from fulls (All-tail HasNoFault full.report (reports_in fulls) all))

-- of reports that tell how many records were left out
pub no_fault_each : (reports : List FilteredReport) → All NoFault (fulls_in reports) → All (λ (told : FilteredReport). HasNoFault told.full.report) reports
no_fault_each [] all = All-nil (λ (told : FilteredReport). HasNoFault told.full.report)
no_fault_each (told ∷ reports) all =
    All-cons (λ (told : FilteredReport). HasNoFault told.full.report) told reports (All-head NoFault told.full (fulls_in reports) all) (no_fault_each reports (All-tail NoFault told.full (fulls_in reports) all))

-- the first ones, and one more
pub none_more : (rs : List FullReport) (i : ℕ) (r : FullReport) → i < length rs → All NoFault (take i rs) → r ≡ get_or rs i r → false ≡ is_some r.report.fault → All NoFault (take (i + 1) rs)
none_more rs i r less before is none =
    All-more NoFault rs i r less before (subst NoFault is (not_some r.report.fault none))

-- all of them
pub none_of_all : (rs : List FullReport) (i : ℕ) → length rs ≤ i → All NoFault (take i rs) → All NoFault rs
none_of_all rs i all none = subst (λ (xs : List FullReport). All NoFault xs) (take_all i rs all) none

-- a run that went well has none
pub well_no_fault : (strict is_scaled : Bool) (fulls : List FullReport) (samplings : List SamplingReport) (table : Table) → WentWell strict is_scaled fulls samplings table → All NoFault fulls
well_no_fault true is_scaled fulls samplings table well = All-weaker IsSpotlessSession NoFault (λ full spotless. spotless.no_fault) fulls well.0.sessions
well_no_fault false is_scaled fulls samplings table well = well

-- which is all that is asked of one that isn't strict
pub well_plainly : (status : ℕ) (strict is_scaled : Bool) (fulls : List FullReport) (samplings : List SamplingReport) (table : Table) → strict ≡ false → ((status ≡ 0) ↔ WentWell strict is_scaled fulls samplings table) → ((status ≡ 0) ↔ HaveNoFault (reports_in fulls) table)
well_plainly status true is_scaled fulls samplings table plain is = absurd (cc plain)
well_plainly status false is_scaled fulls samplings table plain is = (λ zero. no_fault_short fulls (is.0 zero), λ none. is.1 (no_fault_from fulls none))

-- the tests of it
pub both_tested : (fulls : List FullReport) (samplings : List SamplingReport) (table : Table) (tally : Tally) (missing : Missing) (is_scaled spotless rated : Bool) → tally ≡ table.tally → missing ≡ table.missing
    → (IsTrue spotless ↔ IsSpotless fulls tally missing) → (IsTrue rated ↔ IsSamplingSpotless is_scaled samplings) → (IsTrue (spotless && rated) ↔ WentWell true is_scaled fulls samplings table)
both_tested fulls samplings table tally missing is_scaled spotless rated t m first second =
    let there = subst (λ (x : Tally). IsTrue spotless ↔ IsSpotless fulls x table.missing) t (subst (λ (y : Missing). IsTrue spotless ↔ IsSpotless fulls tally y) m first) in
    both spotless rated there second
  where
    both : {P Q : Type 0} (a b : Bool) → (IsTrue a ↔ P) → (IsTrue b ↔ Q) → (IsTrue (a && b) ↔ (P × Q))
    both true b p q = (λ is. (p.0 refl, q.0 is), λ pair. q.1 pair.1)
    both false b p q = (λ is. absurd (cc is), λ pair. absurd (cc (p.1 pair.0)))

pub tested_strict : (strict is_scaled asked : Bool) (fulls : List FullReport) (samplings : List SamplingReport) (table : Table) (passed : Bool) → strict ≡ true → asked ≡ is_scaled
    → (IsTrue passed ↔ WentWell true asked fulls samplings table) → (IsTrue passed ↔ WentWell strict is_scaled fulls samplings table)
tested_strict true is_scaled asked fulls samplings table passed is same tested = subst (λ (b : Bool). IsTrue passed ↔ WentWell true b fulls samplings table) same tested
tested_strict false is_scaled asked fulls samplings table passed is same tested = absurd (cc is)

pub tested_plain : (strict is_scaled : Bool) (fulls : List FullReport) (samplings : List SamplingReport) (table : Table) (passed : Bool) → strict ≡ false
    → (IsTrue passed ↔ All NoFault fulls) → (IsTrue passed ↔ WentWell strict is_scaled fulls samplings table)
tested_plain true is_scaled fulls samplings table passed is tested = absurd (cc is)
tested_plain false is_scaled fulls samplings table passed is tested = tested
