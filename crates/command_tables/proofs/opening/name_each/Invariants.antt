use Rattle.std.proofs.Common.{◌≡◌, take}
use Rattle.command_tables.specs.Opening.{ArePlansOf}
use Rattle.command_tables.proofs.opening.name_each.Given as goal

-- the plans of the first paths are named, and nothing was told
abbrev pub invariant-loop-path : goal.invariant-loop-path
invariant-loop-path g l = record {
  named : ArePlansOf (take l.path-index l.paths) l.plans.items;
  silent : l.err ≡ l.fn.err;
}
