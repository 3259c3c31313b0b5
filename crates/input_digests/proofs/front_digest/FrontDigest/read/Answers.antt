use Rattle.std.proofs.Common.{refl}
use Rattle.input_digests.proofs.Fronts.{read_piece}
use Rattle.input_digests.proofs.front_digest.FrontDigest.read.Goals as goal

pub returns : goal.returns
returns c = λ sure text read. read_piece c.make_room.new.self _ c.args.piece.now refl refl c.in_ok-append.ensures sure text (c.make_room.ensures sure text read)
