use Rattle.std.proofs.Common.{◌≡◌, ◌∷◌, ◌++◌, [], refl, ap, ◌∙◌, arith}
use Rattle.std.proofs.lemmas.List.Elements.{All-rest}
use Rattle.flow_collect.specs.declared.session_thread.Start.{Start}
use Rattle.std.proofs.lemmas.Slice.Zip.{all_zipped_more}
use Rattle.flow_collect.proofs.ZipLists.{split_on}
use Rattle.flow_collect.proofs.threads.sessions.start_sessions.Goals as goal

pub loop-start-init : goal.loop-start-init
loop-start-init g c = ([], refl, c.requires.unused, omega arith, rw c.requires.empty.0 tt, omega arith)

pub loop-start-preserved : goal.loop-start-preserved
loop-start-preserved g c =
    let inv = c.loop-start.invariant in
    let New = λ (start : Start g.row.S.Denot). start.sender.sent ≡ [] in (
      inv.0 ++ c.in-Some.start ∷ [],
      split_on _ inv.0 _ _ _ inv.1 c.in-Some.ensures.items,
      All-rest New _ _ _ c.in-Some.ensures.items inv.2,
      omega (arith, c.in-Some.ensures.cases),
      rw c.push_back_reserved.ensures.items (all_zipped_more _ _ _ _ _ inv.4 (ap (λ p. p.start.value) c.in-Ok.ensures.ok ∙ c.of.ensures)),
      omega (arith, c.in-Some.ensures.cases),
    )
