use Rattle.std.proofs.Common.{ap, length, arith, rules}
use Rattle.std.proofs.lemmas.Grind.{common_steps}
use Rattle.std.proofs.lemmas.Slice.{drop-put_mid}
use Rattle.ipfix_elements.proofs.placing.octets.place.Goals as goal

pub returns : goal.returns
returns c = record {
  written = grind (arith, common_steps);
  behind = drop-put_mid c.args.at _ c.args.room.now c.copy_from_slice.new.self _ (omega arith) (omega arith) (omega (arith, ap length c.copy_from_slice.ensures.after));
  moved = search rules;
  room = search rules;
}
