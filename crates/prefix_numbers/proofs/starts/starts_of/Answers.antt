use Rattle.prefix_numbers.proofs.MapsMade.{starts_ascend, starts_have_ends}
use Rattle.prefix_numbers.proofs.starts.starts_of.Goals as goal

pub returns-clause-ascending : goal.returns-clause-ascending
returns-clause-ascending c = starts_ascend c.sort_unstable.new.self.items c.dedup.new.self.items c.sort_unstable.ensures.sorted c.dedup.ensures.filtered

pub returns-clause-ends : goal.returns-clause-ends
returns-clause-ends c = starts_have_ends c.args.width c.args.rows.now c.in_ok-starts.starts.items c.sort_unstable.new.self.items c.dedup.new.self.items c.sort_unstable.ensures.permutation c.dedup.ensures.filtered c.in_ok-starts.ensures
