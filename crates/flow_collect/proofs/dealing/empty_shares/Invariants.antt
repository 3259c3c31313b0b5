use Rattle.std.proofs.Common.{◌≡◌, [], length}
use Rattle.std.specs.Prelude.{All}
use Rattle.flow_collect.specs.Dealt.{IsNewShare}
use Rattle.flow_collect.proofs.dealing.empty_shares.Given as goal

abbrev pub invariant-loop-worker : goal.invariant-loop-worker
invariant-loop-worker l = All (IsNewShare l.plan []) l.shares.items × (length l.shares.items ≡ l.worker)
