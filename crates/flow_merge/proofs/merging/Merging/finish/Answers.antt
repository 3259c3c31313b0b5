use Rattle.std.proofs.Common.{refl}
use Rattle.std.specs.Prelude.{flat_map}
use Rattle.flow_table.specs.AddedUp.{rows_in}
use Rattle.flow_table.specs.Missing.{missing_of}
use Rattle.flow_table.specs.RowTotals.{totals_plan}
use Rattle.flow_table.specs.Tables.{tally_of}
use Rattle.flow_table.proofs.TablesAdded.{tables_are_added}
use Rattle.flow_merge.specs.Merging.{all_of, StandsFor, merging_plan}
use Rattle.flow_merge.proofs.MergedRows.{merged_fits}
use Rattle.flow_merge.proofs.merging.Merging.finish.Goals as goal

pub returns-in_err-finish-clause-small : goal.returns-in_err-finish-clause-small
unfolding StandsFor
returns-in_err-finish-clause-small c = λ rows stands. c.finish.ensures.small rows stands.0

pub returns-clause-rows : goal.returns-clause-rows
unfolding StandsFor
returns-clause-rows c = λ rows stands. c.in_ok-finish.ensures.sums rows stands.0

pub returns-clause-fits : goal.returns-clause-fits
unfolding StandsFor merging_plan
returns-clause-fits c = λ rows stands. merged_fits (totals_plan c.args.self.totals) rows stands.1 (c.finish.ensures.small rows stands.0) c.in_ok-finish.field-0 (c.in_ok-finish.ensures.sums rows stands.0)

pub returns-clause-small : goal.returns-clause-small
unfolding StandsFor
returns-clause-small c = λ rows stands. c.finish.ensures.small rows stands.0

pub returns-clause-tables : goal.returns-clause-tables
unfolding StandsFor merging_plan
returns-clause-tables c = λ lists tables stands are.
    let plan = (totals_plan c.args.self.totals) in
    tables_are_added plan lists tables (record { rows = c.in_ok-finish.field-0.rows; tally = tally_of plan (all_of lists); missing = missing_of plan (all_of lists) }) are (c.in_ok-finish.ensures.sums (flat_map rows_in tables) stands.0) refl refl
