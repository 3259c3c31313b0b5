use Rattle.std.proofs.Common.{◌≡◌, ◌++◌, length, map, take}
use Rattle.input_digests.specs.declared.hashed_source.HashedSource.{HashedSource}
use Rattle.command_collect.specs.Digests.{AreOfSessions}
use Rattle.command_collect.proofs.receipts.hashing.finish_each.Given as goal

abbrev pub invariant-loop-full : goal.invariant-loop-full
invariant-loop-full g l = record {
  same : l.finished.items ++ map (λ (h : HashedSource g.row.S.Denot g.row.T.Denot g.S.Source g.T.Start). h.source) l.waiting.items
      ≡ map (λ (h : HashedSource g.row.S.Denot g.row.T.Denot g.S.Source g.T.Start). h.source) l.initial.waiting.items;
  count : length l.finished.items ≡ l.full-index;
  digests : AreOfSessions g.S.Source.seen g.T.Start.texts 0 l.finished.items (take l.full-index l.reports) l.digests.items;
}
