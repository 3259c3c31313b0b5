use Rattle.std.proofs.Common.{◌∷◌, ◌++◌, [], arith}
use Rattle.std.proofs.lemmas.Slice.Zip.{all_zipped_more}
use Rattle.flow_collect.proofs.ZipLists.{split_on}
use Rattle.flow_collect.proofs.threads.joining.join_all.Goals as goal

pub loop-handle-preserved-in-Ok : goal.loop-handle-preserved-in-Ok
loop-handle-preserved-in-Ok g c =
    let inv = c.loop-handle.invariant in (
      inv.0 ++ c.in-Some.handle ∷ [],
      split_on _ inv.0 _ _ _ inv.1 c.in-Some.ensures.items,
      omega (arith, c.in-Some.ensures.cases),
      λ whole. rw c.push_back_reserved.ensures.items (all_zipped_more _ _ _ _ _ (inv.3 whole) c.in-Ok.ensures),
    )

pub loop-handle-preserved : goal.loop-handle-preserved
loop-handle-preserved g c =
    let inv = c.loop-handle.invariant in (
      inv.0 ++ c.in-Some.handle ∷ [],
      split_on _ inv.0 _ _ _ inv.1 c.in-Some.ensures.items,
      omega (arith, c.in-Some.ensures.cases),
      λ whole. cc whole,
    )
