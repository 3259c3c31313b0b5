use Rattle.std.proofs.Common.{ap, length, arith}
use Rattle.input_digests.proofs.Fronts.{made_room}
use Rattle.input_digests.proofs.front_digest.FrontDigest.make_room.Goals as goal

pub returns-then-saturating_add-gt-MOST_HELD : goal.returns-then-saturating_add-gt-MOST_HELD
returns-then-saturating_add-gt-MOST_HELD c = λ sure text read.
    made_room c.args.self.now c.hash_held.new.self (length c.as_slice-held.result.now) sure text (ap length c.as_slice-held.ensures) (omega arith) c.hash_held.ensures.moved c.hash_held.ensures.length read
