use Rattle.std.proofs.Common.{arith}
use Rattle.prefix_numbers.proofs.SpansOf.{filled_all, filled_more, nothing_filled}
use Rattle.prefix_numbers.proofs.painting.fill.Goals as goal

pub loop-place-init : goal.loop-place-init
loop-place-init c = record { filled = nothing_filled c.args.first c.args.number _; bounded = λ more. omega arith }

pub loop-place-preserved : goal.loop-place-preserved
loop-place-preserved c = record {
  filled = filled_more c.args.first c.loop-place.place c.args.number _ c.loop-place.numbers (omega arith) (omega arith) c.loop-place.invariant.filled;
  bounded = λ more. absurd (omega (arith, more));
}

pub returns : goal.returns
returns c = filled_all c.args.first c.loop-place.place c.args.end c.args.number _ _ (omega arith) (omega arith) c.loop-place.invariant.bounded c.loop-place.invariant.filled
