use Rattle.std.proofs.Common.{length}
use Rattle.receipt_differences.proofs.maps.+write_map_differences.Given as goal

abbrev pub decreases-write_map_differences : goal.decreases-write_map_differences
decreases-write_map_differences g l = length l.found.now
