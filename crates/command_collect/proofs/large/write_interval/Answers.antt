use Rattle.std.proofs.Common.{arith}
use Rattle.command_collect.proofs.LargeLines.{millis_fit}
use Rattle.command_collect.proofs.large.write_interval.Goals as goal

pub overflow_mul-first : goal.overflow_mul-first
overflow_mul-first g c = let fits = millis_fit c.from.result c.from-length.result (omega arith) (omega arith) in omega (arith, fits)
