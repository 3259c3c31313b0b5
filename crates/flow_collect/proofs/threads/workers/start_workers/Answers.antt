use Rattle.std.proofs.Common.{◌∷◌, ◌++◌, [], ap, ◌∙◌, arith}
use Rattle.std.proofs.lemmas.List.Elements.{All-rest}
use Rattle.flow_collect.specs.LinkEnds.{IsUnused}
use Rattle.std.proofs.lemmas.Slice.Zip.{all_zipped_more}
use Rattle.flow_collect.proofs.ZipLists.{split_on}
use Rattle.flow_collect.proofs.threads.workers.start_workers.Goals as goal

pub loop-share-preserved : goal.loop-share-preserved
loop-share-preserved g c =
    let inv = c.loop-share.invariant in (
      inv.0 ++ c.in-Some.share ∷ [],
      split_on _ inv.0 _ _ _ inv.1 c.in-Some.ensures.items,
      All-rest IsUnused _ _ _ c.in-Some.ensures.items inv.2,
      omega (arith, c.in-Some.ensures.cases),
      rw c.push_back_reserved.ensures.items (all_zipped_more _ _ _ _ _ inv.4 (ap (λ p. p.share.value) c.in-Ok.ensures.ok ∙ c.of.ensures)),
      omega (arith, c.in-Some.ensures.cases),
    )
