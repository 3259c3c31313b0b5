use Rattle.std.proofs.Common.{◌≡◌, ap, length, ◌-◌, arith}
use Rattle.std.specs.Prelude.{min}
use Rattle.input_digests.proofs.Fronts.{settled}
use Rattle.input_digests.proofs.front_digest.FrontDigest.settle.Goals as goal

pub returns : goal.returns
returns c = λ sure text read.
    let due : c.min-due.result ≡ min (c.args.octets - c.args.self.now.hashed) (length c.args.self.now.held) = omega (arith, ap length c.as_slice-held.ensures) in
    rw c.free_room.ensures (settled c.args.self.now c.hash_held.new.self c.args.octets c.min-due.result sure text (omega arith) due c.hash_held.ensures.moved c.hash_held.ensures.length read)
