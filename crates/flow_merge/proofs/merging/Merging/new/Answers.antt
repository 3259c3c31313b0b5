use Rattle.std.proofs.lemmas.List.Elements.{All-nil}
use Rattle.flow_table.specs.RowTotals.{totals_plan}
use Rattle.flow_merge.specs.Merging.{StandsFor, merging_intervals, merging_plan}
use Rattle.flow_merge.specs.RowRecords.{IsRowOf}
use Rattle.flow_merge.proofs.merging.Merging.new.Goals as goal

pub returns-clause-plan : goal.returns-clause-plan
unfolding merging_plan
returns-clause-plan c = c.in_ok-new.ensures.plan

pub returns-clause-empty : goal.returns-clause-empty
unfolding StandsFor
returns-clause-empty c = (c.in_ok-new.ensures.empty, All-nil (IsRowOf (totals_plan c.in_ok-new.field-0)))

pub returns-clause-intervals : goal.returns-clause-intervals
unfolding merging_intervals
returns-clause-intervals c = c.of.ensures
