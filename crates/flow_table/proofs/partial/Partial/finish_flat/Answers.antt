use Rattle.std.proofs.Common.{List, refl}
use Rattle.std.proofs.lemmas.Result.{IfOk-weaker}
use Rattle.ipfix_message.specs.declared.record.DataRecord.{DataRecord}
use Rattle.flow_table.specs.Partials.{plan_of, fault_of, HoldsTable, StandsFor}
use Rattle.flow_table.proofs.Fits.{table_fits}
use Rattle.flow_table.proofs.Holding.{holds_of, large_of, one_fault, if_fault, if_none, on_ok}
use Rattle.flow_table.proofs.partial.Partial.finish_flat.Goals.{In-None}
use Rattle.flow_table.proofs.partial.Partial.finish_flat.Goals as goal

pub returns-in-Some-clause-fault : goal.returns-in-Some-clause-fault
unfolding fault_of
returns-in-Some-clause-fault c = if_fault c.args.self.fault c.in-Some.fault _ c.in-Some.is refl

pub returns-in-Some-clause-err : goal.returns-in-Some-clause-err
unfolding fault_of
returns-in-Some-clause-err c = λ none. absurd (one_fault c.args.self.fault c.in-Some.fault c.in-Some.is none)

pub returns-in-Some-clause-large : goal.returns-in-Some-clause-large
unfolding StandsFor plan_of
returns-in-Some-clause-large c = λ rs stands same. large_of c.args.self.plan c.args.self.rows c.args.self.tally rs c.args.self.fault c.in-Some.fault c.in-Some.is same stands.0

pub returns-clause-fault : goal.returns-clause-fault
unfolding fault_of
returns-clause-fault c = if_none c.args.self.fault c.finish_table.result c.in-None.is

-- without a fault it holds the table of the records
holds : (c : In-None) (rs : List DataRecord) → StandsFor c.args.self rs → HoldsTable c.args.self.plan c.args.self.rows c.args.self.tally rs
unfolding StandsFor
holds c rs stands = holds_of c.args.self.plan c.args.self.plan c.args.self.rows c.args.self.tally rs c.args.self.fault refl c.in-None.is stands.0

pub returns-clause-table : goal.returns-clause-table
unfolding StandsFor plan_of
returns-clause-table c = λ rs stands.
    IfOk-weaker c.finish_table.result _ _ (λ table h. h rs (holds (goal.at.returns-clause-table c).In-None rs stands) (stands.1 c.in-None.is)) c.finish_table.ensures.table

pub returns-clause-fits : goal.returns-clause-fits
unfolding StandsFor plan_of
returns-clause-fits c = λ rs stands.
    let held = holds (goal.at.returns-clause-fits c).In-None rs stands in
    IfOk-weaker c.finish_table.result _ _ (λ table h. table_fits c.args.self.plan rs table held.keys_fit held.small (h rs held (stands.1 c.in-None.is))) c.finish_table.ensures.table

pub returns-clause-small : goal.returns-clause-small
unfolding plan_of
returns-clause-small c = λ rs stands. on_ok c.finish_table.result (holds (goal.at.returns-clause-small c).In-None rs stands).small
