use Rattle.std.proofs.Common.{rules}
use Rattle.flow_collect.proofs.threads.running.in_threads.Goals as goal

pub scoped-requires : goal.scoped-requires
scoped-requires g c = record { at = λ a. (c.requires.unused, (c.requires.shares, (search (rules, c.type_bounds), search (rules, c.type_bounds), search (rules, c.type_bounds)))) }
