use Rattle.std.proofs.Common.{◌≡◌, ◌++◌, length, map}
use Rattle.std.specs.VecDeque.{deque_len}
use Rattle.input_digests.specs.declared.hashed_source.HashedSource.{HashedSource}
use Rattle.command_collect.specs.Digests.{StartAt}
use Rattle.command_collect.proofs.receipts.hashing.hash_each.Given as goal

abbrev pub invariant-loop-source : goal.invariant-loop-source
invariant-loop-source g l = record {
  same : map (λ (h : HashedSource g.row.S.Denot g.row.T.Denot g.S.Source g.T.Start). h.source) l.all.items ++ l.waiting.items ≡ l.initial.waiting.items;
  start : StartAt g.S.Source.seen g.T.Start.texts (length l.all.items) l.waiting.items;
}

abbrev pub decreases-loop-source : goal.decreases-loop-source
decreases-loop-source g l = deque_len l.waiting
