use Rattle.std.proofs.Common.{◌≡◌, ◌≤◌, length, arith, rules}
use Rattle.std.specs.Prelude.{true}
use Rattle.receipt_merging.specs.Parts.{PartValue, part_value}
use Rattle.receipt_merging.proofs.Firsts.{all_pass, not_false, passes_more}
use Rattle.receipt_merging.proofs.parts.first_of_other_plan.Goals as goal

pub loop-place-preserved : goal.loop-place-preserved
loop-place-preserved c =
    let passes : (part_value c.index-parts-place.result).has_plan ≡ true = search (rules, not_false) in
    passes_more (λ (p : PartValue). p.has_plan) part_value c.args.parts.now c.loop-place.place c.index-parts-place.result c.loop-place-test.true c.index-parts-place.is c.loop-place.invariant passes

pub returns-clause-none : goal.returns-clause-none
returns-clause-none c =
    let enough : length c.args.parts.now ≤ c.loop-place.place = omega arith in
    all_pass (λ (p : PartValue). p.has_plan) part_value c.args.parts.now c.loop-place.place enough c.loop-place.invariant
