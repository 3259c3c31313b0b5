use Rattle.std.proofs.Common.{arith, inl, inr, rules}
use Rattle.std.specs.declared.cmp.Ordering.TheVariants.{Less, Equal, Greater}
use Rattle.flow_rows.proofs.Ascending.{turned}
use Rattle.flow_rows.proofs.Beyond.{merging_from}
use Rattle.flow_rows.proofs.Downwards.{all_down, all_laid, compared, newer_last, older_last, put_both, put_newer, put_older, small_both, total_down}
use Rattle.flow_rows.proofs.merging.merge_down.Goals.{then-loop-i-test+else-j-gt0, else-loop-i-test}
use Rattle.flow_rows.proofs.merging.merge_down.Goals as goal

pub loop-i-init : goal.loop-i-init
loop-i-init g c = merging_from c.args.rows.now c.args.newer.now c.args.older c.place_above-j.result c.requires.room c.requires.tail c.place_above-j.ensures.within c.requires.newer c.place_above-j.ensures.run

pub loop-i-preserved-in-Less : goal.loop-i-preserved-in-Less
loop-i-preserved-in-Less g c =
    let h = c.loop-i.invariant in
    let l = older_last _ _ _ _ _ _ _ c.index-rows-i.result h (omega arith) c.index-rows-i.is in
    let m = newer_last _ _ _ _ _ _ _ c.index-newer-j.result h (omega arith) c.index-newer-j.is in
    let m2 = newer_last _ _ _ _ _ _ _ c.index-newer-j-in-Less.result h (omega arith) c.index-newer-j-in-Less.is in
    put_newer _ _ _ _ _ _ _ _ _ l m2 (compared _ _ _ _ _ _ _ _ _ l l m m2 c.order.ensures Less c.in-Less.is) h

pub add-requires : goal.add-requires
add-requires g c =
    let h = c.loop-i.invariant in
    let l = older_last _ _ _ _ _ _ _ c.index-rows-i.result h (omega arith) c.index-rows-i.is in
    let l2 = older_last _ _ _ _ _ _ _ c.index-rows-i-in-Equal.result h (omega arith) c.index-rows-i-in-Equal.is in
    let m = newer_last _ _ _ _ _ _ _ c.index-newer-j.result h (omega arith) c.index-newer-j.is in
    let m2 = newer_last _ _ _ _ _ _ _ c.index-newer-j-in-Equal.result h (omega arith) c.index-newer-j-in-Equal.is in
    (search rules, small_both _ _ _ _ _ _ _ _ _ l2 m2 (compared _ _ _ _ _ _ _ _ _ l l2 m m2 c.order.ensures Equal c.in-Equal.is) h c.requires.small)

pub loop-i-preserved-in-Equal : goal.loop-i-preserved-in-Equal
loop-i-preserved-in-Equal g c =
    let h = c.loop-i.invariant in
    let l = older_last _ _ _ _ _ _ _ c.index-rows-i.result h (omega arith) c.index-rows-i.is in
    let l2 = older_last _ _ _ _ _ _ _ c.index-rows-i-in-Equal.result h (omega arith) c.index-rows-i-in-Equal.is in
    let m = newer_last _ _ _ _ _ _ _ c.index-newer-j.result h (omega arith) c.index-newer-j.is in
    let m2 = newer_last _ _ _ _ _ _ _ c.index-newer-j-in-Equal.result h (omega arith) c.index-newer-j-in-Equal.is in
    put_both _ _ _ _ _ _ _ _ _ _ l2 m2 (compared _ _ _ _ _ _ _ _ _ l l2 m m2 c.order.ensures Equal c.in-Equal.is) c.add.ensures h

pub loop-i-preserved : goal.loop-i-preserved
loop-i-preserved g c =
    let h = c.loop-i.invariant in
    let l = older_last _ _ _ _ _ _ _ c.index-rows-i.result h (omega arith) c.index-rows-i.is in
    let l2 = older_last _ _ _ _ _ _ _ c.index-rows-i-in-Greater.result h (omega arith) c.index-rows-i-in-Greater.is in
    let m = newer_last _ _ _ _ _ _ _ c.index-newer-j.result h (omega arith) c.index-newer-j.is in
    put_older _ _ _ _ _ _ _ _ _ l2 m (turned c.index-rows-i-in-Greater.result.key c.index-newer-j.result.key (compared _ _ _ _ _ _ _ _ _ l l2 m m c.order.ensures Greater c.in-Greater.is)) h

pub returns-clause-total : goal.returns-clause-total
returns-clause-total g c =
    let h = c.loop-i.invariant in
    let laid = all_laid c.loop-i.rows c.args.newer.now c.copy_from_slice.new.self _ _ c.loop-i.i c.loop-i.j c.loop-i.place h c.copy_from_slice.ensures.len c.copy_from_slice.ensures.after in
    λ q k. total_down c.loop-i.rows c.args.newer.now _ _ _ c.loop-i.i c.loop-i.j c.loop-i.place h laid q k

pub returns-clause-run : goal.returns-clause-run
returns-clause-run g c =
    let h = c.loop-i.invariant in
    let laid = all_laid c.loop-i.rows c.args.newer.now c.copy_from_slice.new.self _ _ c.loop-i.i c.loop-i.j c.loop-i.place h c.copy_from_slice.ensures.len c.copy_from_slice.ensures.after in
    all_down c.loop-i.rows c.args.newer.now _ _ _ c.loop-i.i c.loop-i.j c.loop-i.place h
    (elim c.loop-i-test.branch [ then-loop-i-test+else-j-gt0 w ↦ inr (omega (arith, w.if-j-gt0)) | else-loop-i-test w ↦ inl (omega (arith, w.loop-i-test)) ])
    laid
