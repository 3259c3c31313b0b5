use Rattle.std.proofs.Common.{get_or, take, sym, subst, arith}
use Rattle.std.specs.Io.KnownBytes.{Appends}
use Rattle.std.proofs.KnownBytes.{Appends-trans}
use Rattle.report_sessions.specs.MissingLines.{lack_line, lack_lines}
use Rattle.report_writing.proofs.Numbering.{numbered_from}
use Rattle.report_sessions.proofs.missing.write_each.Goals as goal

pub loop-place-preserved : goal.loop-place-preserved
loop-place-preserved g c =
    let lines = g.W.WriteLines.lines in
    let words = g.L.Lack.words c.args.elements.now in
    let all = c.args.all.now in
    let counts = c.args.counts.now in
    let place = c.loop-place.place in
    let lack = c.index-all-place.result in
    let line = subst (λ l. Appends (lines c.loop-place.out).contents (lines c.write_line.new.out).contents (lack_line (words l) (get_or counts place 0))) c.index-all-place.is c.in_ok-write_line.ensures.told in
    let more = numbered_from (λ n l. lack_line (words l) (get_or counts n 0)) 0 all place place lack c.loop-place-test.true (omega arith) in
    record {
      told = subst (λ l. Appends (lines c.args.out.now).contents (lines c.write_line.new.out).contents l) (sym more)
          (Appends-trans _ _ _ (lack_lines words (take place all) counts) _ c.loop-place.invariant.told line);
      kept = λ failed. c.write_line.ensures.kept (c.loop-place.invariant.kept failed);
    }
