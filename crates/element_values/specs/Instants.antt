-- Times in the format of NTP (RFC 7011, sections 6.1.9 and 6.1.10): 4 octets of seconds since 1900, and 4 octets of fractions,
-- 2^32 of which are a second.
use Rattle.std.specs.Prelude.{ℕ, ◌+◌, ◌-◌, ◌*◌, ◌/◌, ◌%◌, ◌^◌, ◌==◌, List, length, drop, Option, Some, None, option_map, if◌then◌else◌}
use Rattle.byteorder.specs.Endian.{big_number}

-- the seconds from 1900 to 1970
abbrev pub seconds_to_1970 : ℕ
seconds_to_1970 = 2208988800

-- seconds since 1970. What lies before 1970 is of NTP's next era, which begins in 2036 (RFC 5905, section 6).
abbrev pub seconds_since_1970 : ℕ → ℕ
seconds_since_1970 seconds = (seconds + (2 ^ 32 - seconds_to_1970)) % 2 ^ 32

-- the seconds since 1970 and the fraction that 8 octets hold
abbrev pub parts_in : List ℕ → Option (ℕ × ℕ)
parts_in octets = if length octets == 8 then Some (seconds_since_1970 (big_number 4 octets), big_number 4 (drop 4 octets)) else None

-- microseconds since 1970, rounded down; the lowest 11 bits of the fraction are not read (section 6.1.9)
abbrev pub micros_of : ℕ × ℕ → ℕ
micros_of (seconds, fraction) = seconds * 1000000 + fraction / 2048 * 1000000 / 2 ^ 21

abbrev pub micros_in : List ℕ → Option ℕ
micros_in octets = option_map micros_of (parts_in octets)

-- nanoseconds since 1970, rounded down (section 6.1.10)
abbrev pub nanos_of : ℕ × ℕ → ℕ
nanos_of (seconds, fraction) = seconds * 1000000000 + fraction * 1000000000 / 2 ^ 32

abbrev pub nanos_in : List ℕ → Option ℕ
nanos_in octets = option_map nanos_of (parts_in octets)
