use Rattle.std.proofs.Common.{ℕ, ◌+◌, ◌∙◌, ap, arith, drop, sym}
use Rattle.flow_rows.specs.Packed.{packed_onto}
use Rattle.flow_rows.proofs.Digits.{packed_all, packed_more, within_all, within_more}
use Rattle.flow_rows.proofs.packing.pack.Goals as goal

pub loop-i-preserved : goal.loop-i-preserved
loop-i-preserved c =
    let ls = c.args.least.now in
    let ms = c.args.most.now in
    let ws = c.args.words.now in
    let i = c.loop-i.i in
    record {
      packed = ap (λ (m : ℕ). packed_onto m (drop (i + 1) ls) (drop (i + 1) ms) (drop (i + 1) ws)) c.in-Some.ensures.packed ∙ sym (packed_more c.loop-i.number ls ms ws i (omega arith) (omega arith) (omega arith)) ∙ c.loop-i.invariant.packed;
      within = λ h. c.loop-i.invariant.within (within_more ls ms ws i (omega arith) (omega arith) (omega arith) c.in-Some.ensures.within h);
    }

pub returns-clause-packed : goal.returns-clause-packed
returns-clause-packed c = sym (packed_all c.loop-i.number c.args.least.now c.args.most.now c.args.words.now c.loop-i.i (omega arith)) ∙ c.loop-i.invariant.packed

pub returns-clause-within : goal.returns-clause-within
returns-clause-within c = c.loop-i.invariant.within (within_all c.args.least.now c.args.most.now c.args.words.now c.loop-i.i (omega arith) (omega arith) (omega arith))
