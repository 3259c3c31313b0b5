use Rattle.std.proofs.Common.{◌++◌, ◌∷◌, [], Some, refl, subst, sym}
use Rattle.flow_table.specs.Plans.{PlanValue}
use Rattle.flow_table.specs.RowTotals.{totals_plan}
use Rattle.flow_table.specs.SameTables.{value_of}
use Rattle.flow_merge.specs.Merging.{StandsFor, merging_intervals, merging_plan}
use Rattle.flow_merge.specs.MergeFaults.{fault_of_table}
use Rattle.flow_merge.specs.RowFaults.{IsRowFaultIn}
use Rattle.flow_merge.specs.declared.merge_fault.MergeFault.{MergeFault}
use Rattle.flow_merge.specs.RowRecords.{IsRowRecordIn}
use Rattle.flow_merge.specs.RowSink.{HoldsAfter}
use Rattle.flow_merge.proofs.RowsRead.{behind_more, counted_behind, other_holds, large_holds, err_is, row_of_plan, same_behind}
use Rattle.flow_merge.proofs.merging.Merging.add.Goals as goal

pub add-requires : goal.add-requires
add-requires c =
    let fits = row_of_plan c.args.self.now.intervals.intervals (totals_plan c.args.self.now.totals) c.args.data_record.now c.in-Ok.row (subst (λ (p : PlanValue). IsRowRecordIn c.args.self.now.intervals.intervals p c.args.data_record.now (value_of c.in-Ok.row)) c.plan.ensures c.in-Ok.ensures.ok) in
    record { fits = fits.0; some = fits.1 }

pub returns-in-Err-clause-holds : goal.returns-in-Err-clause-holds
unfolding StandsFor merging_plan merging_intervals
returns-in-Err-clause-holds c = λ rows rs h counted.
    let fault = c.in-Err.fault in
    let number = c.args.number in
    let r = c.args.data_record.now in
    let is = subst (λ (p : PlanValue). IsRowFaultIn c.args.self.now.intervals.intervals p r fault) c.plan.ensures c.in-Err.ensures.fault in
    subst (λ (f : MergeFault). HoldsAfter (Some f) number c.args.self.now rows (rs ++ r ∷ [])) (sym c.of_row.ensures)
    (other_holds c.args.self.now.intervals.intervals (totals_plan c.args.self.now.totals) rows rs r c.args.self.now.totals c.args.self.now number fault refl refl h counted is)

pub returns-in_err-add-clause-plan : goal.returns-in_err-add-clause-plan
unfolding merging_plan
returns-in_err-add-clause-plan c = c.add.ensures.plan

pub returns-in_err-add-clause-holds : goal.returns-in_err-add-clause-holds
unfolding StandsFor merging_plan merging_intervals
returns-in_err-add-clause-holds c = λ rows rs h counted.
    let fault = c.in_err-add.field-0.0 in
    let r = c.args.data_record.now in
    let new = record c.args.self.now { totals = c.add.new.self } in
    let is = subst (λ (p : PlanValue). IsRowRecordIn c.args.self.now.intervals.intervals p r (value_of c.in-Ok.row)) c.plan.ensures c.in-Ok.ensures.ok in
    err_is c.from_residual.result (fault_of_table fault) (λ o. HoldsAfter o c.args.number new rows (rs ++ r ∷ [])) c.from_residual.ensures.1
    (large_holds c.args.self.now.intervals.intervals (totals_plan c.args.self.now.totals) rows rs r c.args.self.now.totals new c.args.number (value_of c.in-Ok.row) fault refl c.add.ensures.plan h is c.in_err-add.ensures.large)

pub returns-clause-plan : goal.returns-clause-plan
unfolding merging_plan
returns-clause-plan c = c.add.ensures.plan

pub returns-clause-holds : goal.returns-clause-holds
unfolding StandsFor merging_plan merging_intervals
returns-clause-holds c = λ rows rs h counted.
    let r = c.args.data_record.now in
    let is = subst (λ (p : PlanValue). IsRowRecordIn c.args.self.now.intervals.intervals p r (value_of c.in-Ok.row)) c.plan.ensures c.in-Ok.ensures.ok in (
      same_behind c.args.self.now.intervals.intervals (totals_plan c.args.self.now.totals) (totals_plan c.add.new.self) c.add.new.self rows (rs ++ r ∷ []) c.add.ensures.plan
          (behind_more c.args.self.now.intervals.intervals (totals_plan c.args.self.now.totals) rows rs r c.args.self.now.totals c.add.new.self (value_of c.in-Ok.row) h is c.in_ok-add.ensures.adds),
      counted_behind rs r c.args.number counted,
    )

pub returns-in_err-add-clause-intervals : goal.returns-in_err-add-clause-intervals
unfolding merging_intervals
returns-in_err-add-clause-intervals c = refl

pub returns-clause-intervals : goal.returns-clause-intervals
unfolding merging_intervals
returns-clause-intervals c = refl
