use Rattle.std.proofs.Common.{◌∙◌}
use Rattle.network_prefixes.proofs.Shifts.{shifted_right}
use Rattle.network_prefixes.proofs.address_bits.shifted_right.Goals as goal

pub returns : goal.returns
returns c = c.unwrap_or.ensures ∙ shifted_right _ _ c.checked_shr.result c.ranges.bits.fits c.checked_shr.ensures
