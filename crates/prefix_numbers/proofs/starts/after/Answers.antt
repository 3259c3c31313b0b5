use Rattle.std.proofs.Common.{arith}
use Rattle.prefix_numbers.proofs.SpansOf.{no_end}
use Rattle.prefix_numbers.proofs.starts.after.Goals as goal

pub returns-in_err-checked_shl : goal.returns-in_err-checked_shl
returns-in_err-checked_shl c = no_end c.args.prefix.now c.from-behind.result _ c.checked_shl.result c.from_residual.result (omega arith) c.in_err-checked_shl.was c.checked_shl.ensures c.from_residual.ensures
