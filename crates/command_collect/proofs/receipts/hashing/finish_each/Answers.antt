use Rattle.std.proofs.Common.{◌≡◌, ◌∷◌, ◌++◌, [], ◌∙◌, ap, map, length, length-append, arith}
use Rattle.std.proofs.lemmas.List.{length-map}
use Rattle.input_digests.specs.declared.hashed_source.HashedSource.{HashedSource}
use Rattle.command_collect.proofs.Placed.{finished_more, moved_part, none_waits}
use Rattle.command_collect.proofs.receipts.hashing.finish_each.Goals as goal

pub loop-full-preserved : goal.loop-full-preserved
loop-full-preserved g c =
    let part = λ (h : HashedSource g.row.S.Denot g.row.T.Denot g.S.Source g.T.Start). h.source in
    let inv = c.loop-full.invariant in
    let split = c.in-Some.ensures.items in
    let place : c.in-Some.hashed.place ≡ length c.loop-full.finished.items = omega (arith, c.if-hashed-len.false, c.len.ensures, c.loop-full.finished.ok.0) in
    let pushed = c.in_ok-push.ensures.items in
    let more =
    finished_more g.S.Source.seen g.T.Start.texts c.loop-full.finished.items c.args.reports.now c.loop-full.digests.items c.loop-full.full-index c.in-Some.hashed.place c.in_ok-ended.ended.source c.in-Some.hashed.source c.full-item.result c.in_ok-ended.ended.sha256
    inv.digests inv.count c.loop-full-test.true c.full-item.is place c.in_ok-ended.ensures.source c.in_ok-ended.ensures.digest in
    record {
      same = ap (λ xs. xs ++ map part c.pop_front.new.self.items) pushed ∙ moved_part part c.loop-full.finished.items c.in_ok-ended.ended.source _ _ c.in-Some.hashed split c.in_ok-ended.ensures.source ∙ inv.same;
      count = omega (arith, ap length pushed, length-append c.loop-full.finished.items (c.in_ok-ended.ended.source ∷ []), inv.count);
      digests = rw (pushed, c.in_ok-push-2.ensures.items) more;
    }

pub returns-clause-sources : goal.returns-clause-sources
returns-clause-sources g c =
    let part = λ (h : HashedSource g.row.S.Denot g.row.T.Denot g.S.Source g.T.Start). h.source in
    let inv = c.loop-full.invariant in
    let given = c.from_vec-waiting.ensures.items in
    let many = length-map c.from_vec-waiting.result.items part in
    none_waits part c.loop-full.finished.items _ c.loop-full.waiting.items inv.same (omega (arith, inv.count, c.loop-full-test.false, c.requires, many, ap length given)) ∙ ap (map part) given
