use Rattle.std.proofs.Common.{◌+◌, refl}
use Rattle.prefix_numbers.proofs.LinesRead.{line_fault, line_more}
use Rattle.prefix_numbers.proofs.reading.read_lines.Goals as goal

pub returns-in-Err : goal.returns-in-Err
returns-in-Err c =
    line_fault c.args.lines.now c.loop-place.place _ c.loop-place.read.rows.items c.add_line.new.self.rows.items c.in-Err.fault (c.loop-place.place + 1) refl c.loop-place-test.true c.loop-place.invariant.rows c.in-Err.ensures.rows

pub loop-place-preserved : goal.loop-place-preserved
loop-place-preserved c = record {
  keys = c.in_default.ensures.keys;
  rows = line_more c.args.lines.now c.loop-place.place _ c.loop-place.read.rows.items c.add_line.new.self.rows.items c.in_default.field-0 c.loop-place-test.true c.loop-place.invariant.rows c.in_default.ensures.rows;
}
