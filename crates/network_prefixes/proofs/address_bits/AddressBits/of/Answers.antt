use Rattle.std.proofs.Common.{◌∙◌, refl}
use Rattle.network_prefixes.proofs.Words.{mapped_bits}
use Rattle.network_prefixes.proofs.address_bits.AddressBits.of.Goals as goal

pub returns-in-Some : goal.returns-in-Some
returns-in-Some c = rw c.in-V6.is (mapped_bits _ c.in-Some.mapped _ (c.in-Some.ensures.found.0 refl) c.in-Some.ensures.value (c.from-in-Some.ensures ∙ c.to_bits-in-Some.ensures))
