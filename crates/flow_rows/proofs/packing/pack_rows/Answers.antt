use Rattle.std.proofs.Common.{arith}
use Rattle.flow_rows.proofs.Digits.{long_push, packed_at, packed_push}
use Rattle.flow_rows.proofs.packing.pack_rows.Goals as goal

pub loop-i-preserved : goal.loop-i-preserved
loop-i-preserved g c =
    let ls = c.args.least.now in
    let ss = c.args.most.now in
    let rows = c.args.buffer.now in
    let old = c.loop-i.order.items in
    let new = c.push.new.self.items in
    let i = c.loop-i.i in
    let n = c.in-Some.number in
    let e = c.in-Ok-push.ensures.items in
    record {
      long = long_push old new i n e c.loop-i.invariant.long;
      each = packed_push ls ss rows old new i n e c.loop-i.invariant.long c.loop-i.invariant.each (packed_at ls ss rows i n c.index-buffer-i.result c.loop-i-test.true c.index-buffer-i.is c.in-Some.ensures.place c.in-Some.ensures.words c.in-Some.ensures.within);
    }

pub returns : goal.returns
returns g c = record {
  long = omega (arith, c.loop-i.invariant.long);
  each = λ k l. c.loop-i.invariant.each k (omega (arith, c.loop-i.invariant.long));
}
