-- The whole messages that a file begins with.
use Rattle.std.specs.Prelude.{◌≡◌, ℕ, ◌-◌, List, length, Option, Some, Result, IfOk}
use Rattle.ipfix_session.specs.Ledger.{capped}
use Rattle.ipfix_session.specs.MessageStream.{cut}

-- how many octets of a text are whole messages, one after another from its front: all but the rest, which begins with none
abbrev pub whole_octets : List ℕ → ℕ
whole_octets text = length text - length (cut text).rest

-- an answer is how many they are in a text, if it shows itself; the number stops at the greatest of 64 bits
abbrev pub TellsWholeOctets : {E : Type 0} → Result ℕ E → Option (List ℕ) → Type 0
TellsWholeOctets result shown = (text : List ℕ) → shown ≡ Some text → IfOk result (λ whole. whole ≡ capped (whole_octets text))
