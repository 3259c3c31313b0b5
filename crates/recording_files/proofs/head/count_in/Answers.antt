use Rattle.std.proofs.Common.{◌≡◌, ◌∷◌, length, ap, arith, rules}
use Rattle.recording_files.specs.Heads.{number_at}
use Rattle.recording_files.proofs.HeadsWritten.{counts_end, counts_on}
use Rattle.recording_files.proofs.head.count_in.Goals as goal

pub loop-first-preserved : goal.loop-first-preserved
loop-first-preserved c =
    let split : c.loop-first.left.now ≡ c.in-Some.first.now ∷ c.in-Some.others.now = search rules in
    let size : length c.loop-first.left.now ≡ length (c.in-Some.first.now ∷ c.in-Some.others.now) = ap length split in
    record {
      few = omega (arith, c.loop-first.invariant.few, c.count_one-count.ensures.few, size);
      is = λ fresh ds stands.
          counts_on ds (number_at c.args.due.now.entries c.args.start) c.args.start.export_time c.args.domain c.loop-first.left.now c.in-Some.others.now c.in-Some.first.now c.loop-first.count c.count_one-count.result _ split
          (c.count_one-count.ensures.is fresh ds stands) (c.loop-first.invariant.is fresh ds stands);
    }

pub returns : goal.returns
returns c =
    let empty : length c.loop-first.left.now ≡ 0 = grind (arith, c.split_first.ensures.variant) in
    record {
      few = omega (arith, c.loop-first.invariant.few, empty);
      is = λ fresh ds stands. counts_end ds (number_at c.args.due.now.entries c.args.start) c.args.start.export_time c.args.domain c.loop-first.left.now c.loop-first.count _ empty (c.loop-first.invariant.is fresh ds stands);
    }
