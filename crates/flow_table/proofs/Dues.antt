-- What is due of a counter, interval by interval.
use Rattle.std.proofs.Common.{◌≡◌, ℕ, ◌+◌, ◌-◌, ◌*◌, ◌/◌, ◌<◌, ◌≤◌, arith}
use Rattle.std.proofs.Math.Nat.{le-div_iff_mul-le, div-eq_of_lt-le, div-mul-le_self, mul-le-mul_left, mod-lt}
use Rattle.std.proofs.lemmas.Nat.{div-add-mod'}
use Rattle.flow_table.specs.Intervals.{interval_of, milliseconds_before, due_before}

-- the interval that a time is in
pub interval_is : (length time k : ℕ) → k * length ≤ time → time < (k + 1) * length → interval_of length time ≡ k
interval_is length time k low high = div-eq_of_lt-le length low high

-- a part of more is at least as large
pub quotient_grows : (a b d : ℕ) → 0 < d → a ≤ b → a / d ≤ b / d
quotient_grows a b d positive le = (le-div_iff_mul-le positive).1 (omega (arith, div-mul-le_self a d))

pub milliseconds_grow : (length s e k : ℕ) → milliseconds_before length s e k ≤ milliseconds_before length s e (k + 1)
milliseconds_grow length s e k = omega arith

-- what is due before an interval is due before the next
pub due_grows : (length s e v k : ℕ) → due_before length s e v k ≤ due_before length s e v (k + 1)
due_grows length s e v k =
    quotient_grows _ _ _ (omega arith) (mul-le-mul_left v (milliseconds_grow length s e k))

-- nothing is due before the first interval of a flow
pub nothing_before : (length s e : ℕ) → milliseconds_before length s e (interval_of length s) ≡ 0
nothing_before length s e = omega (arith, div-mul-le_self s length)

-- all of it is over before the interval after its last
pub all_before : (length s e : ℕ) → 0 < length → s ≤ e → milliseconds_before length s e (interval_of length e + 1) ≡ e - s + 1
all_before length s e positive order =
    let close : e < (interval_of length e + 1) * length = omega (arith, div-add-mod' e length, mod-lt e positive) in
    omega arith
