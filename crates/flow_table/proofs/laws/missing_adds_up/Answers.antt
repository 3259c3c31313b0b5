use Rattle.flow_table.proofs.Lacking.{times_add_up, keys_add_up, counters_within}
use Rattle.flow_table.proofs.laws.missing_adds_up.Goals as goal

pub returns-clause-untimed : goal.returns-clause-untimed
returns-clause-untimed c = times_add_up

pub returns-clause-unkeyed : goal.returns-clause-unkeyed
returns-clause-unkeyed c = keys_add_up

pub returns-clause-used : goal.returns-clause-used
returns-clause-used c = counters_within
