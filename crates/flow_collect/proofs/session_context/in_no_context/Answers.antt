use Rattle.std.proofs.Common.{◌≡◌, length, ◌∷◌, ◌++◌, [], refl, sym, ap, ◌∙◌, map, arith}
use Rattle.std.proofs.lemmas.List.{map_push}
use Rattle.flow_collect.specs.Contexts.{alone}
use Rattle.flow_collect.proofs.ZipLists.{split_on, all_used}
use Rattle.flow_collect.proofs.session_context.in_no_context.Goals as goal

pub loop-source-init : goal.loop-source-init
loop-source-init g c = ([], refl, c.in_ok-all.ensures.items)

pub loop-source-preserved : goal.loop-source-preserved
loop-source-preserved g c =
    let inv = c.loop-source.invariant in (
      inv.0 ++ c.in-Some.source ∷ [],
      split_on _ inv.0 _ _ _ inv.1 c.in-Some.ensures.items,
      (rw c.no_context.ensures at c.in_ok-push.ensures.items) ∙ ap (λ r. r ++ alone c.in-Some.source ∷ []) inv.2 ∙ sym (map_push alone inv.0 c.in-Some.source),
    )

pub returns : goal.returns
returns g c =
    let inv = c.loop-source.invariant in
    let none : length c.loop-source.waiting.items ≡ 0 = omega (arith, c.loop-source.waiting.ok.0, c.in_default.ensures.cases) in
    inv.2 ∙ ap (map alone) (sym (all_used _ inv.0 _ inv.1 none)) ∙ ap (map alone) c.from_vec-waiting.ensures.items
