use Rattle.std.proofs.Common.{length}
use Rattle.receipt_differences.proofs.tables.+write_sums.Given as goal

abbrev pub decreases-write_sums : goal.decreases-write_sums
decreases-write_sums g l = length l.found.now
