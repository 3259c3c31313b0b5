use Rattle.std.proofs.Common.{arith, refl}
use Rattle.ipfix_elements.proofs.Places.{one_more_placed}
use Rattle.flow_export.specs.IpfixText.{number_octets}
use Rattle.flow_export.proofs.ipfix_text.rows.place_numbers.Goals as goal

pub loop-number-preserved : goal.loop-number-preserved
loop-number-preserved c = record {
  placed = one_more_placed number_octets c.args.numbers.now c.loop-number.number-index 0 _ c.loop-number-test.true refl c.loop-number.invariant.placed c.place_number-end.ensures;
  end = omega (arith, c.place_number-end.ensures.moved, c.loop-number.invariant.end);
}
