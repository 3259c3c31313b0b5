-- The first bits of addresses.
use Rattle.std.proofs.Common.{◌≡◌, ℕ, ◌-◌, ◌*◌, ◌/◌, ◌%◌, ◌^◌, ◌<◌, ◌≤◌, List, sym, ap, ◌∙◌, arith}
use Rattle.std.specs.Prelude.{min}
use Rattle.std.specs.Int.{from_be_bytes, w128}
use Rattle.std.proofs.Math.Pow.{pow_mono}
use Rattle.std.proofs.Math.Nat.{div-eq_of_lt, div-mul-le_self, mod-eq_of_lt}
use Rattle.byteorder.specs.Endian.{big_bytes, big_number}
use Rattle.ipfix_elements.specs.Prefixes.{masked}

-- an address has no more bits than all of its own
pub masked_short : (address : List ℕ) (bits : ℕ) → masked address (min bits 32) ≡ masked address bits
masked_short address bits =
    let same : 32 - min bits 32 ≡ 32 - bits = omega arith in
    ap (λ (k : ℕ). big_bytes 4 (big_number 4 address / 2 ^ k * 2 ^ k)) same

-- what was shifted to the right goes back without a loss
pub shifted_back : (n behind : ℕ) → n < 2 ^ 128 → (n / 2 ^ behind * 2 ^ behind) % 2 ^ 128 ≡ n / 2 ^ behind * 2 ^ behind
shifted_back n behind small = mod-eq_of_lt (omega (arith, small, div-mul-le_self n (2 ^ behind)))

none_times : (n : ℕ) → 0 ≡ 0 * n
none_times n = omega arith

-- of all bits nothing is left
pub nothing_left : (n behind : ℕ) → n < 2 ^ 128 → 128 ≤ behind → 0 ≡ n / 2 ^ behind * 2 ^ behind
nothing_left n behind small all =
    let more : 2 ^ 128 ≤ 2 ^ behind = pow_mono all in
    let none : n / 2 ^ behind ≡ 0 = div-eq_of_lt (omega (arith, small, more)) in
    none_times (2 ^ behind) ∙ sym (ap (λ (m : ℕ). m * 2 ^ behind) none)

-- sixteen octets are one number, however it is read
pub sixteen_number : (address : List ℕ) → from_be_bytes w128 address ≡ big_number 16 address
sixteen_number address = omega arith
