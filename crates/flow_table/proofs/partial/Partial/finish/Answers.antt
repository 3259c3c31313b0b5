use Rattle.flow_table.specs.Partials.{plan_of, fault_of}
use Rattle.flow_table.proofs.FlatTables.{is_same_table, fits_same_table}
use Rattle.flow_table.proofs.Holding.{if_none, went_well}
use Rattle.flow_table.proofs.partial.Partial.finish.Goals as goal

pub returns-clause-fault : goal.returns-clause-fault
returns-clause-fault c = if_none (fault_of c.args.self) _ (went_well (fault_of c.args.self) c.in_ok-finish_flat.field-0 c.in_ok-finish_flat.ensures.fault)

pub returns-clause-table : goal.returns-clause-table
returns-clause-table c = λ rs stands.
    is_same_table (plan_of c.args.self) rs c.in_ok-finish_flat.field-0 c.in_ok-into_table.field-0 c.in_ok-into_table.ensures (c.in_ok-finish_flat.ensures.table rs stands)

pub returns-clause-fits : goal.returns-clause-fits
returns-clause-fits c = λ rs stands.
    fits_same_table (plan_of c.args.self) c.in_ok-finish_flat.field-0 c.in_ok-into_table.field-0 c.in_ok-into_table.ensures (c.in_ok-finish_flat.ensures.fits rs stands)

pub returns-in_err-into_table-clause-fault : goal.returns-in_err-into_table-clause-fault
returns-in_err-into_table-clause-fault c = if_none (fault_of c.args.self) _ (went_well (fault_of c.args.self) c.in_ok-finish_flat.field-0 c.in_ok-finish_flat.ensures.fault)
