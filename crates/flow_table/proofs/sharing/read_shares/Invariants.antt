use Rattle.std.proofs.Common.{◌≡◌, take}
use Rattle.flow_table.specs.Flows.{shares_of}
use Rattle.flow_table.proofs.sharing.read_shares.Given as goal

-- the shares of the first counters
abbrev pub invariant-loop-value : goal.invariant-loop-value
invariant-loop-value l = l.shares.items ≡ shares_of l.plan l.flow.span.start l.flow.span.end (take l.value-index l.counters) l.interval
