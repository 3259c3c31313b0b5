use Rattle.std.proofs.Common.{◌≡◌, ℕ, List, ap, ◌∙◌}
use Rattle.std.specs.Prelude.{Ok}
use Rattle.hex.specs.Hex.{decode_sized, encode_lower}
use Rattle.hex.proofs.HexLemmas.{decode_sized-encode_lower}
use Rattle.table_receipts.proofs.looking_up.digest_of.Goals as goal

pub returns-in-Ok : goal.returns-in-Ok
returns-in-Ok c d fits is =
    let text : decode_sized c.text_of.result.now 32 ≡ Ok d = ap (λ (s : List ℕ). decode_sized s 32) (c.text_of.ensures (encode_lower d) is) ∙ decode_sized-encode_lower d 32 fits.size fits.octets in
    (rw text at c.decode_to_slice.ensures.value).1

pub returns-in-Err : goal.returns-in-Err
returns-in-Err c d fits is =
    let text : decode_sized c.text_of.result.now 32 ≡ Ok d = ap (λ (s : List ℕ). decode_sized s 32) (c.text_of.ensures (encode_lower d) is) ∙ decode_sized-encode_lower d 32 fits.size fits.octets in
    let good = (rw text at c.decode_to_slice.ensures.value).0 in
    let bad = c.in-Err.is in
    absurd cc
