use Rattle.flow_collect.proofs.SettleLists.{stands_sorted}
use Rattle.flow_collect.proofs.settling.gathering.gather.Goals as goal

pub returns-clause-table : goal.returns-clause-table
returns-clause-table g c = stands_sorted _ _ _ c.sort_link_ends.ensures.same c.in_ok-all.ensures.table
