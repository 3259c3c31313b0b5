-- The room that the system has for datagrams that nobody took yet.
use Rattle.std.specs.Prelude.{ℕ, ◌/◌, min}

-- how many of the octets that were asked for are kept, where the system says this: it says twice what it keeps
abbrev pub buffer_within : ℕ → ℕ → ℕ
buffer_within asked said = min asked (said / 2)
