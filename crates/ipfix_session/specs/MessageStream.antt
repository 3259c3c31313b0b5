-- A text as messages, one after another (RFC 7011, section 3.1; RFC 5655, section 6).
use Rattle.std.specs.Prelude.{◌≡◌, ℕ, ◌≤◌, nat_lt, if◌then◌else◌, List, [], ◌∷◌, length, take, drop, Result, Ok, Err}
use Rattle.ipfix_wire.specs.Numbers.{number_at}
use Rattle.ipfix_wire.specs.InTurn.{IsLongest, Reader, Parts, parts_of}
use Rattle.ipfix_wire.specs.MessageHeader.{header_at}
use Rattle.ipfix_wire.specs.declared.header.Header.{Header}
use Rattle.ipfix_wire.specs.declared.header.TheConstants.{HEADER_LENGTH}
use Rattle.ipfix_wire.specs.declared.fault.WireFault.{WireFault}
use Rattle.ipfix_message.specs.Faults.{fault_of}
use Rattle.ipfix_session.specs.declared.stop.Stop.{Stop}
use Rattle.ipfix_session.specs.declared.stop.Stop.TheVariants.{Clean, Short, Fault}

-- a message: a whole header, of version 10, whose length is that of the message
pub record IsMessage (m : List ℕ) : Type 0 where
  pub header : HEADER_LENGTH ≤ length m
  pub version : number_at 0 2 m ≡ 10
  pub own_length : number_at 2 2 m ≡ length m

-- a message is its own spelling
abbrev pub SpellsMessage : List ℕ → List ℕ → Type 0
SpellsMessage m w = (w ≡ m) × IsMessage m

-- what a header that is whole says of a text that holds no message for it
abbrev pub header_stop : Result Header WireFault → Stop
header_stop (Err e) = Fault (fault_of e)
header_stop (Ok h) = Short

-- why a text that begins with no message stops there: nothing is left, or less than a header; the
-- header's version or length is wrong; or the text ends before its message does
abbrev pub rest_stop : List ℕ → Stop
rest_stop [] = Clean
rest_stop (b ∷ w) = if nat_lt (length (b ∷ w)) HEADER_LENGTH then Short else header_stop (header_at (b ∷ w))

abbrev pub message_under : List ℕ → Result Header WireFault → Result (List ℕ × List ℕ) Stop
message_under w (Err e) = Err (rest_stop w)
message_under w (Ok h) = if nat_lt (length w) h.length then Err (rest_stop w) else Ok (take h.length w, drop h.length w)

-- the message that a text begins with, and what follows it; or why it stops there
unfoldable pub next_message : Reader Stop (List ℕ)
next_message w = if nat_lt (length w) HEADER_LENGTH then Err (rest_stop w) else message_under w (header_at w)

-- the messages of a text in turn, and the rest, which begins with none
abbrev pub cut : List ℕ → Parts (List ℕ)
cut text = parts_of next_message text

-- a text cut so: the longest list of messages that are spelled one after another at its beginning, and the rest
abbrev pub IsCut : Parts (List ℕ) → List ℕ → Type 0
IsCut parts text = IsLongest SpellsMessage parts.items parts.rest text
