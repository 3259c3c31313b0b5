use Rattle.std.proofs.Common.{◌∙◌, arith}
use Rattle.std.proofs.lemmas.Bool.Decides.{nat_tests}
use Rattle.network_prefixes.proofs.Shifts.{shifted_back}
use Rattle.network_prefixes.proofs.address_bits.has_zeros_behind.Goals as goal

pub returns : goal.returns
returns c =
    let back = c.unwrap_or.ensures ∙ shifted_back c.args.bits c.args.by c.checked_shl.result c.ranges.bits.fits (rw c.shifted_right.ensures at c.checked_shl.ensures) in
    grind (arith, nat_tests, back)
