-- Shifts of numbers of 128 bits, also by all of their bits.
use Rattle.std.proofs.Common.{◌≡◌, ℕ, ◌*◌, ◌/◌, ◌%◌, ◌^◌, ◌<◌, ◌≤◌, Option, Some, None, sym, ap, ◌∙◌, arith}
use Rattle.std.specs.Option.{unwrap_or, SomeIff}
use Rattle.std.proofs.Math.Nat.{div-eq_of_lt, div-mul-le_self, mod-eq_of_lt}
use Rattle.std.proofs.Math.Pow.{pow_mono}

-- where nothing is left, 0 is
gone : (bits behind : ℕ) → bits < 2 ^ 128 → 128 ≤ behind → 0 ≡ bits / 2 ^ behind
gone bits behind small all =
    let more : 2 ^ 128 ≤ 2 ^ behind = pow_mono all in
    sym (div-eq_of_lt (omega (arith, small, more)))

pub shifted_right : (bits behind : ℕ) (r : Option ℕ) → bits < 2 ^ 128 → SomeIff r (behind < 128) (bits / 2 ^ behind) → unwrap_or r 0 ≡ bits / 2 ^ behind
shifted_right bits behind (Some x) small h = h.1
shifted_right bits behind None small h = gone bits behind small (omega (arith, h))

-- what was shifted to the right goes back without a loss
back : (bits behind : ℕ) → bits < 2 ^ 128 → (bits / 2 ^ behind * 2 ^ behind) % 2 ^ 128 ≡ bits / 2 ^ behind * 2 ^ behind
back bits behind small = mod-eq_of_lt (omega (arith, small, div-mul-le_self bits (2 ^ behind)))

none_times : (n : ℕ) → 0 ≡ 0 * n
none_times n = omega arith

pub shifted_back : (bits behind : ℕ) (r : Option ℕ) → bits < 2 ^ 128 → SomeIff r (behind < 128) ((bits / 2 ^ behind * 2 ^ behind) % 2 ^ 128) → unwrap_or r 0 ≡ bits / 2 ^ behind * 2 ^ behind
shifted_back bits behind (Some x) small h = h.1 ∙ back bits behind small
shifted_back bits behind None small h = none_times _ ∙ ap (λ (n : ℕ). n * 2 ^ behind) (gone bits behind small (omega (arith, h)))
