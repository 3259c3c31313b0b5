use Rattle.std.proofs.Common.{rules}
use Rattle.ipfix_elements.proofs.Written.{dotted_text}
use Rattle.ipfix_elements.proofs.Places.{placed_as, then_placed}
use Rattle.ipfix_elements.proofs.ThreeDigits.{set_placed}
use Rattle.ipfix_elements.proofs.placing.ipv4.place_ipv4.Goals as goal

pub returns : goal.returns
returns c =
    let first = c.place_octet-end in
    let second = c.place_octet-end-2 in
    let third = c.place_octet-end-3 in
    let one = then_placed first.ensures.placed (set_placed first.new.room first.result 46 (search rules)) in
    let two = then_placed (then_placed one second.ensures.placed) (set_placed second.new.room second.result 46 (search rules)) in
    let three = then_placed (then_placed two third.ensures.placed) (set_placed third.new.room third.result 46 (search rules)) in
    placed_as (dotted_text c.args.address.now c.told-address) (then_placed three c.place_octet.ensures.placed)
