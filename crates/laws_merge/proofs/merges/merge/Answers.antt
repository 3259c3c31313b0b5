use Rattle.std.proofs.Common.{◌≡◌, ℕ, List, [], ◌∷◌, length, Result, Ok, Err, OnOk, refl, sym, subst, inr, arith}
use Rattle.std.specs.Prelude.{flat_map, IfErr, IfOk, IsErrAnd}
use Rattle.std.specs.List.{AllZip}
use Rattle.flow_table.specs.AddedUp.{rows_in, AreAddedUp}
use Rattle.flow_table.specs.Fitting.{FitsPlan}
use Rattle.ipfix_session.specs.Sources.{SourceView}
use Rattle.flow_table.specs.SameTables.{RowValue}
use Rattle.flow_table.specs.Plans.{PlanValue}
use Rattle.flow_table.specs.Tables.{IsTable}
use Rattle.flow_table.specs.declared.table.Table.{Table}
use Rattle.flow_table.proofs.TablesAdded.{too_large_both}
use Rattle.flow_merge.specs.Merging.{all_of, AddsAllUp, GiveExports, HasRowsOf, IsDueIn, merging_plan}
use Rattle.flow_export.specs.declared.intervals.Intervals.{Intervals}
use Rattle.laws_merge.specs.Exports.{AreExportsOf, StopsAt}
use Rattle.flow_merge.specs.declared.merge_fault.MergeFault.{MergeFault}
use Rattle.laws_merge.proofs.HeldExports.{adds_own, own_fault}
use Rattle.laws_merge.proofs.MergesOn.{merged_all, merged_on, none_merged, read_all, refused_on, stopped_on}
use Rattle.laws_merge.proofs.merges.merge.Goals as goal

pub loop-source-init : goal.loop-source-init
loop-source-init g c = none_merged g.S.Source.seen c.args.plan.now c.args.limit c.from_vec-waiting.result.items c.in_ok-merging.merging c.in_ok-merging.ensures.plan c.in_ok-merging.ensures.intervals c.in_ok-merging.ensures.empty

pub loop-source-preserved : goal.loop-source-preserved
loop-source-preserved g c =
    merged_on g.S.Source.seen c.args.plan.now c.args.limit c.from_vec-waiting.result.items c.loop-source.waiting.items c.in-Some.source c.pop_front.new.self.items c.loop-source.merging c.in_ok-merging-2.merging c.read.new.source
    c.in-Some.ensures.items c.loop-source.invariant c.in_ok-merging-2.ensures.plan c.in_ok-merging-2.ensures.intervals c.in_ok-merging-2.ensures.ok
    (λ of_plan rows rs holds stands. adds_own g.S.Source.seen c.args.limit c.in-Some.source c.read.new.source (g.met.S.Source.ended_is_end c.read.new.source) (merging_plan c.loop-source.merging) rs holds c.loop-source.merging c.in_ok-merging-2.merging rows
    refl of_plan (c.in_ok-merging-2.ensures.ok rows stands))

err_due : (answer : Result Table MergeFault) (fault : MergeFault) (P : MergeFault → Type 0) → IsErrAnd answer (λ e. e ≡ fault) → P fault → IfErr answer P
err_due (Ok table) fault P is due = tt
err_due (Err e) fault P is due = subst P (sym is) due

pub returns-in_err-merging-2-clause-fault : goal.returns-in_err-merging-2-clause-fault
returns-in_err-merging-2-clause-fault g c =
    err_due c.from_residual-in_err-merging-2.result c.in_err-merging-2.field-0.0 _ c.from_residual-in_err-merging-2.ensures.1
    (λ lists h. refused_on g.S.Source.seen c.args.plan.now c.args.limit c.from_vec-waiting.result.items c.loop-source.waiting.items c.in-Some.source c.pop_front.new.self.items c.loop-source.merging c.in_err-merging-2.field-0.0
    c.in-Some.ensures.items c.loop-source.invariant
    (λ of_plan rows rs holds stands. own_fault g.S.Source.seen c.args.limit c.in-Some.source c.read.new.source (g.met.S.Source.ended_is_end c.read.new.source) (merging_plan c.loop-source.merging) rs holds rows c.in_err-merging-2.field-0.0
    (subst (λ (i : Intervals). IsDueIn g.S.Source.seen c.args.limit i (merging_plan c.loop-source.merging) rows c.in-Some.source c.read.new.source c.in_err-merging-2.field-0.0) of_plan (c.in_err-merging-2.ensures.fault rows stands)))
    lists (subst (λ (l : List g.row.S.Denot). AreExportsOf g.S.Source.seen c.args.plan.now l lists) (sym c.from_vec-waiting.ensures.items) h))

pub returns-in_err-merging-2-clause-stops : goal.returns-in_err-merging-2-clause-stops
returns-in_err-merging-2-clause-stops g c =
    err_due c.from_residual-in_err-merging-2.result c.in_err-merging-2.field-0.0 _ c.from_residual-in_err-merging-2.ensures.1
    (inr (subst (λ (l : List g.row.S.Denot). StopsAt g.S.Source.seen c.args.limit c.args.plan.now l c.in_err-merging-2.field-0.0) c.from_vec-waiting.ensures.items
    (stopped_on g.S.Source.seen c.args.plan.now c.args.limit c.from_vec-waiting.result.items c.loop-source.waiting.items c.in-Some.source c.pop_front.new.self.items c.loop-source.merging c.read.new.source c.in_err-merging-2.field-0.0
    c.in-Some.ensures.items c.loop-source.invariant c.in_err-merging-2.ensures.fault)))

-- ---- the end

empty : {X : Type 0} (xs : List X) → length xs ≡ 0 → xs ≡ []
empty [] none = refl
empty (x ∷ xs) none = absurd (omega (arith, none))

always : (answer : Result Table MergeFault) (P : Type 0) → P → OnOk answer P
always (Ok table) P p = p
always (Err e) P p = tt

all_up : {S : Type 0} (seen : S → SourceView) (limit : ℕ) (plan : PlanValue) (sources : List S) (exports : List (List RowValue)) (answer : Result Table MergeFault) → GiveExports seen limit plan sources exports
    → IfOk answer (λ table. AreAddedUp (flat_map (λ rows. rows) exports) (rows_in table)) → IfOk answer (AddsAllUp seen limit plan sources)
all_up seen limit plan sources exports (Ok table) given added = record { exports = exports; given = given; added_up = added }
all_up seen limit plan sources exports (Err e) given added = tt

pub returns-clause-read : goal.returns-clause-read
returns-clause-read g c =
    let none = empty c.loop-source.waiting.items (omega (arith, c.loop-source.waiting.ok.0, c.in_default.ensures.cases)) in
    let on = c.loop-source.invariant in
    let given = read_all g.S.Source.seen c.args.plan.now c.args.limit c.from_vec-waiting.result.items c.loop-source.waiting.items c.loop-source.merging none on in
    all_up g.S.Source.seen c.args.limit c.args.plan.now c.args.sources.items on.read.exports c.finish.result
    (subst (λ (l : List g.row.S.Denot). GiveExports g.S.Source.seen c.args.limit c.args.plan.now l on.read.exports) c.from_vec-waiting.ensures.items given) (c.finish.ensures.rows (flat_map (λ rows. rows) on.read.exports) on.read.stands)

-- what holds for each list, if there is a table, holds of the table for each list
of_table : {L : Type 0} (answer : Result Table MergeFault) (P : L → Type 0) (Q : L → Table → Type 0) → ((l : L) → P l → IfOk answer (Q l)) → IfOk answer (λ table. (l : L) → P l → Q l table)
of_table (Ok table) P Q all = all
of_table (Err e) P Q all = tt

pub returns-clause-rows : goal.returns-clause-rows
returns-clause-rows g c =
    of_table c.finish.result (AreExportsOf g.S.Source.seen c.args.plan.now c.args.sources.items) (λ lists. HasRowsOf c.args.plan.now (all_of lists)) (λ lists h.
    let none = empty c.loop-source.waiting.items (omega (arith, c.loop-source.waiting.ok.0, c.in_default.ensures.cases)) in
    let held = subst (λ (l : List g.row.S.Denot). AreExportsOf g.S.Source.seen c.args.plan.now l lists) (sym c.from_vec-waiting.ensures.items) h in
    let all = merged_all g.S.Source.seen c.args.plan.now c.args.limit c.from_vec-waiting.result.items c.loop-source.waiting.items c.loop-source.merging none c.loop-source.invariant lists held in
    subst (λ (p : PlanValue). AllZip (IsTable p) lists all.0 → IfOk c.finish.result (HasRowsOf p (all_of lists))) c.loop-source.invariant.same_plan (λ are. c.finish.ensures.tables lists all.0 all.2 are) all.1)

pub returns-clause-small : goal.returns-clause-small
returns-clause-small g c = λ lists h.
    let none = empty c.loop-source.waiting.items (omega (arith, c.loop-source.waiting.ok.0, c.in_default.ensures.cases)) in
    let held = subst (λ (l : List g.row.S.Denot). AreExportsOf g.S.Source.seen c.args.plan.now l lists) (sym c.from_vec-waiting.ensures.items) h in
    let all = merged_all g.S.Source.seen c.args.plan.now c.args.limit c.from_vec-waiting.result.items c.loop-source.waiting.items c.loop-source.merging none c.loop-source.invariant lists held in
    always c.finish.result _ (λ large. c.finish.ensures.small (flat_map rows_in all.0) all.2 ((too_large_both c.args.plan.now lists all.0 all.1).1 large))

pub returns-clause-fits : goal.returns-clause-fits
returns-clause-fits g c =
    let on = c.loop-source.invariant in
    subst (λ (p : PlanValue). IfOk c.finish.result (FitsPlan p)) on.same_plan (c.finish.ensures.fits (flat_map (λ rows. rows) on.read.exports) on.read.stands)
