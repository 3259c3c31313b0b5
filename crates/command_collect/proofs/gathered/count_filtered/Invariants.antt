use Rattle.std.proofs.Common.{◌≡◌, take}
use Rattle.ipfix_session.specs.Ledger.{capped}
use Rattle.command_collect.specs.Gathered.{all_filtered}
use Rattle.command_collect.proofs.gathered.count_filtered.Given as goal

-- the sum of the first ones, which stops at 2^64 - 1
abbrev pub invariant-loop-told : goal.invariant-loop-told
invariant-loop-told l = l.filtered ≡ capped (all_filtered (take l.told-index l.reports))
