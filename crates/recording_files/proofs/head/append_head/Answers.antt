use Rattle.std.proofs.Common.{◌≡◌, ◌∷◌, length, arith, rules}
use Rattle.recording_files.specs.Heads.{number_at}
use Rattle.recording_files.proofs.HeadsWritten.{head_begins, head_ends, head_goes_on}
use Rattle.recording_files.proofs.head.append_head.Goals as goal

pub loop-first-init : goal.loop-first-init
loop-first-init c = λ fresh ds stands. head_begins ds (number_at c.args.due.now.entries c.args.start) c.args.start.export_time c.args.kept.now c.args.out.now.items

pub loop-first-preserved : goal.loop-first-preserved
loop-first-preserved c = λ fresh ds stands.
    let split : c.loop-first.left.now ≡ c.in-Some.first.now ∷ c.in-Some.others.now = search rules in
    head_goes_on ds (number_at c.args.due.now.entries c.args.start) c.args.start.export_time c.args.kept.now c.loop-first.left.now c.in-Some.others.now c.in-Some.first.now c.args.out.now.items c.loop-first.out.items c.append_first.new.out.items split
    (c.loop-first.invariant fresh ds stands) (c.in_ok-append_first.ensures fresh ds stands)

pub returns : goal.returns
returns c = λ fresh ds stands.
    let empty : length c.loop-first.left.now ≡ 0 = grind (arith, c.split_first.ensures.variant) in
    head_ends ds (number_at c.args.due.now.entries c.args.start) c.args.start.export_time c.args.kept.now c.loop-first.left.now c.args.out.now.items c.loop-first.out.items empty (c.loop-first.invariant fresh ds stands)
