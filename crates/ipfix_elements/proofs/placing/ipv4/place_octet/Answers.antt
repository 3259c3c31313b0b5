use Rattle.std.proofs.Common.{arith}
use Rattle.std.proofs.lemmas.Bool.Decides.{nat_tests}
use Rattle.ipfix_elements.proofs.ThreeDigits.{decimal_placed}
use Rattle.ipfix_elements.proofs.placing.ipv4.place_octet.Goals as goal

pub returns-clause-placed : goal.returns-clause-placed
returns-clause-placed c =
    decimal_placed c.args.room.now c.args.at _ _ c.args.number c.requires (omega arith)
    (λ h. grind (arith, nat_tests)) (λ h. grind (arith, nat_tests)) (λ h. grind (arith, nat_tests)) (λ h. grind (arith, nat_tests))
