use Rattle.ipfix_elements.proofs.CellLemmas.{cell_cmp-total, cell_equal}
use Rattle.ipfix_elements.proofs.laws.cell_order.Goals as goal

pub returns-clause-total : goal.returns-clause-total
returns-clause-total c = cell_cmp-total

pub returns-clause-equal : goal.returns-clause-equal
returns-clause-equal c = cell_equal
