use Rattle.std.proofs.Common.{arith}
use Rattle.input_sources.proofs.Room.{each_line}
use Rattle.input_sources.proofs.laws.each_line_has_room.Goals as goal

pub returns : goal.returns
returns c = λ p is. omega (arith, each_line p.session p.read p.counter.messages p.size is.session is.read is.messages is.size)
