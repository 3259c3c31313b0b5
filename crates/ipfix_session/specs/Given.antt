-- What the messages of a session give (RFC 7011, sections 3.1 and 8).
use Rattle.std.specs.Prelude.{◌≡◌, ℕ, List, [], ◌∷◌, ◌++◌, length, Option, Some, None, Ok, Err}
use Rattle.std.specs.List.{flat_map}
use Rattle.ipfix_message.specs.Domains.{History, Message}
use Rattle.ipfix_message.specs.TemplateLimits.{message_within}
use Rattle.ipfix_message.specs.declared.fault.MessageFault.{MessageFault}
use Rattle.ipfix_message.specs.declared.record.DataRecord.{DataRecord}
use Rattle.ipfix_session.specs.declared.stop.Stop.{Stop}
use Rattle.ipfix_session.specs.declared.stop.Stop.TheVariants.{Clean, Short, Fault}
use Rattle.ipfix_session.specs.MessageStream.{cut, rest_stop}

-- messages in turn, each with the domains and events of those before it, in a session whose templates may count so much, or
-- anything: what they give, up to the first that has a fault, and that fault
unfoldable pub messages_within : Option ℕ → History → List (List ℕ) → List Message × Option MessageFault
messages_within limit ds [] = ([], None)
messages_within limit ds (m ∷ ms) = elim (message_within limit ds m) [
  | Err e ↦ ([], Some e)
  | Ok x ↦ let more = messages_within limit x.domains ms in (x ∷ more.0, more.1)
]

abbrev pub messages_give : History → List (List ℕ) → List Message × Option MessageFault
messages_give ds ms = messages_within None ds ms

-- what a text gives: its messages before the first with a fault, and where it stops
pub record Given : Type 0 where
  pub messages : List Message
  pub stop : Stop

-- a message's fault, or else the stop of the rest
abbrev pub stop_after : Option MessageFault → Stop → Stop
stop_after None rest = rest
stop_after (Some e) rest = Fault e

-- what a text gives after the domains of a session whose templates may count so much, or anything
unfoldable pub gives_within : Option ℕ → History → List ℕ → Given
gives_within limit ds text =
    let read = messages_within limit ds (cut text).items in
    record { messages = read.0; stop = stop_after read.1 (rest_stop (cut text).rest) }

abbrev pub gives_after : History → List ℕ → Given
gives_after ds text = gives_within None ds text

-- what the whole text of a session gives
abbrev pub given_within : Option ℕ → List ℕ → Given
given_within limit text = gives_within limit [] text

abbrev pub gives : List ℕ → Given
gives text = given_within None text

-- ---- a session that goes on

-- what messages and the text after them give
abbrev pub behind : List Message → Given → Given
behind ms g = record { messages = ms ++ g.messages; stop = g.stop }

-- the domains and events of a session after messages
abbrev pub known_after : History → List Message → History
known_after ds [] = ds
known_after ds (m ∷ ms) = known_after m.domains ms

-- those after the messages of a text, whose templates may count so much, or anything
abbrev pub known_within : Option ℕ → List ℕ → History
known_within limit text = known_after [] (given_within limit text).messages

abbrev pub known_of : List ℕ → History
known_of text = known_within None text

-- a text that has no fault yet
abbrev pub IsOpen : Stop → Type 0
IsOpen Clean = Unit {0}
IsOpen Short = Unit {0}
IsOpen (Fault e) = ⊥

-- ys goes on from xs
abbrev pub IsPrefix : {X : Type 0} → List X → List X → Type 0
IsPrefix {X} xs ys = (more : List X) × (ys ≡ xs ++ more)

-- ---- messages as they came

-- the octets of messages, one after another
abbrev pub octets_of : List (List ℕ) → List ℕ
octets_of ms = flat_map (λ m. m) ms

-- ---- its records

-- all data records of messages, in order
abbrev pub records_in : List Message → List DataRecord
records_in ms = flat_map (λ m. m.decoding.records) ms

-- those of a text, whose templates may count so much, or anything
abbrev pub records_within : Option ℕ → List ℕ → List DataRecord
records_within limit text = records_in (given_within limit text).messages

abbrev pub records_of : List ℕ → List DataRecord
records_of text = records_within None text

-- this is told of its messages and of the number of their records
abbrev pub IsToldOf : (List Message → ℕ → Type 0) → Option ℕ → List ℕ → Type 0
IsToldOf told limit text = told (given_within limit text).messages (length (records_within limit text))

-- and where it stops
abbrev pub stop_within : Option ℕ → List ℕ → Stop
stop_within limit text = (given_within limit text).stop

abbrev pub stop_of : List ℕ → Stop
stop_of text = stop_within None text

-- a text is whole messages without a fault, and these are all their records (RFC 7011, sections 3 and 3.4.3)
abbrev pub AreAllOf : List ℕ → List DataRecord → Type 0
AreAllOf text records = (stop_of text ≡ Clean) × (records ≡ records_of text)
