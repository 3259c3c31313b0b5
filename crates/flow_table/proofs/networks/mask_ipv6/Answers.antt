use Rattle.std.proofs.Common.{◌≡◌, ℕ, ◌-◌, ◌*◌, ◌/◌, ◌^◌, ap, ap₂, ◌∙◌, rules}
use Rattle.byteorder.specs.Endian.{big_bytes, big_number}
use Rattle.flow_table.proofs.Masks.{sixteen_number}
use Rattle.flow_table.proofs.networks.mask_ipv6.Goals as goal

pub returns : goal.returns
returns c =
    let number : c.from_be_bytes-number.result ≡ big_number 16 c.args.address = c.from_be_bytes-number.ensures ∙ sixteen_number c.args.address in
    let dropped : c.from-dropped.result ≡ 128 - c.args.bits = search rules in
    let kept : c.without_last.result ≡ big_number 16 c.args.address / 2 ^ (128 - c.args.bits) * 2 ^ (128 - c.args.bits) =
    c.without_last.ensures ∙ ap₂ (λ (n k : ℕ). n / 2 ^ k * 2 ^ k) number dropped in
    c.to_be_bytes.ensures ∙ ap (big_bytes 16) kept
