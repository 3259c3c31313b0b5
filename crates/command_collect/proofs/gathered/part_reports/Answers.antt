use Rattle.std.proofs.Common.{◌∷◌, ◌++◌, [], refl, sym, ap, ◌∙◌, arith}
use Rattle.std.proofs.lemmas.List.{map_push}
use Rattle.flow_collect.specs.InFull.{fulls_in}
use Rattle.flow_collect.specs.declared.collected.FilteredReport.{FilteredReport}
use Rattle.flow_collect.proofs.ZipLists.{split_on, all_used}
use Rattle.command_collect.specs.Gathered.{samplings_in, times_of_each}
use Rattle.command_collect.proofs.gathered.part_reports.Goals as goal

pub loop-told-init : goal.loop-told-init
loop-told-init c = ([], refl, c.new.ensures.items, c.new-2.ensures.items, c.new-3.ensures.items)

pub loop-told-preserved : goal.loop-told-preserved
loop-told-preserved c =
    let inv = c.loop-told.invariant in
    let told = c.in-Some.told in (
      inv.0 ++ told ∷ [],
      split_on _ inv.0 _ _ _ inv.1 c.in-Some.ensures.items,
      c.in_ok-push.ensures.items ∙ ap (λ rs. rs ++ told.full ∷ []) inv.2 ∙ sym (map_push (λ (told : FilteredReport). told.full) inv.0 told),
      c.in_ok-push-2.ensures.items ∙ ap (λ rs. rs ++ told.sampling ∷ []) inv.3 ∙ sym (map_push (λ (told : FilteredReport). told.sampling) inv.0 told),
      c.in_ok-push-3.ensures.items ∙ ap (λ rs. rs ++ told.times ∷ []) inv.4 ∙ sym (map_push (λ (told : FilteredReport). told.times) inv.0 told),
    )

pub returns-clause-fulls : goal.returns-clause-fulls
returns-clause-fulls c =
    let inv = c.loop-told.invariant in
    inv.2 ∙ ap fulls_in (sym (all_used _ inv.0 _ inv.1 (omega (arith, c.loop-told.waiting.ok.0, c.in_default.ensures.cases)))) ∙ ap fulls_in c.from_vec-waiting.ensures.items

pub returns-clause-sampling : goal.returns-clause-sampling
returns-clause-sampling c =
    let inv = c.loop-told.invariant in
    inv.3 ∙ ap samplings_in (sym (all_used _ inv.0 _ inv.1 (omega (arith, c.loop-told.waiting.ok.0, c.in_default.ensures.cases)))) ∙ ap samplings_in c.from_vec-waiting.ensures.items

pub returns-clause-times : goal.returns-clause-times
returns-clause-times c =
    let inv = c.loop-told.invariant in
    inv.4 ∙ ap times_of_each (sym (all_used _ inv.0 _ inv.1 (omega (arith, c.loop-told.waiting.ok.0, c.in_default.ensures.cases)))) ∙ ap times_of_each c.from_vec-waiting.ensures.items
