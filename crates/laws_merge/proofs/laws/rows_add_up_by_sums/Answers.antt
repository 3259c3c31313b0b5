use Rattle.flow_table.specs.AddedUp.{added_up}
use Rattle.laws_merge.proofs.SummedRows.{none_there, sums_there}
use Rattle.laws_merge.proofs.laws.rows_add_up_by_sums.Goals as goal

pub returns-clause-none : goal.returns-clause-none
unfolding added_up
returns-clause-none c = λ rows k key. none_there k key rows

pub returns-clause-some : goal.returns-clause-some
unfolding added_up
returns-clause-some c = λ rows k key count all. sums_there count k key rows all
