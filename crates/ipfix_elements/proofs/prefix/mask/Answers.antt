use Rattle.std.proofs.Common.{◌≡◌, ◌<◌, ◌^◌, List, ℕ, ap, ◌∙◌, rules, arith}
use Rattle.std.proofs.lemmas.Grind.{common_steps}
use Rattle.byteorder.specs.Endian.{big_number}
use Rattle.ipfix_elements.specs.Prefixes.{address_bit, masked}
use Rattle.ipfix_elements.proofs.Kept.{masked_bit}
use Rattle.ipfix_elements.proofs.prefix.mask.Goals as goal

pub returns-clause-bit : goal.returns-clause-bit
returns-clause-bit c = λ i within.
    let small : big_number 4 c.args.address < 2 ^ 32 = omega arith in
    let exact : c.to_be_bytes.result ≡ masked c.args.address c.args.bits = first_of (search rules, grind (arith, common_steps)) in
    ap (λ (t : List ℕ). address_bit t i) exact ∙ masked_bit c.args.address c.args.bits i small c.requires within
