-- How many messages a text has, and counting them while it is read in pieces (RFC 7011, section 3.1).
use Rattle.std.specs.Prelude.{◌≡◌, ℕ, ◌+◌, ◌<◌, ◌≤◌, List, length, Ok, Err}
use Rattle.ipfix_wire.specs.MessageHeader.{header_at}
use Rattle.ipfix_wire.specs.declared.header.Header.{Header}
use Rattle.ipfix_wire.specs.declared.header.TheConstants.{HEADER_LENGTH}
use Rattle.ipfix_wire.specs.declared.fault.WireFault.{WireFault}
use Rattle.ipfix_session.specs.MessageStream.{cut}
use Rattle.ipfix_session.specs.Ledger.{capped}
use Rattle.ipfix_session.specs.WholeMessages.{whole_octets}

-- how many whole messages a text begins with, in turn, each as long as its header says
abbrev pub whole_messages : List ℕ → ℕ
whole_messages text = length (cut text).items

-- ---- the place that was reached in a text

pub data PlaceView : Type 0 where
  -- after these octets of a header that isn't whole; before it, if there are none
  within_header : (begun : List ℕ) → PlaceView
  -- within a message of this length, of which so many octets are to come
  within_message : (size due : ℕ) → PlaceView
  -- after a header that no message has
  at_fault : PlaceView

-- these are the octets of a header that isn't whole
pub record IsWithinHeader (begun w : List ℕ) : Type 0 where
  pub octets : w ≡ begun
  pub short : length begun < HEADER_LENGTH

-- the front of a message of this length, of which so many octets are to come
pub record IsWithinMessage (size due : ℕ) (w : List ℕ) : Type 0 where
  pub header : Header
  pub long : HEADER_LENGTH ≤ length w
  pub is_header : header_at w ≡ Ok header
  pub size_is : header.length ≡ size
  pub length_is : header.length ≡ length w + due

-- it begins with a whole header that no message has
pub record IsAtFault (w : List ℕ) : Type 0 where
  pub fault : WireFault
  pub long : HEADER_LENGTH ≤ length w
  pub is_fault : header_at w ≡ Err fault

-- what follows the whole messages ends at this place
abbrev pub EndsAt : PlaceView → List ℕ → Type 0
EndsAt (within_header begun) rest = IsWithinHeader begun rest
EndsAt (within_message size due) rest = IsWithinMessage size due rest
EndsAt at_fault rest = IsAtFault rest

-- ---- a counter

-- what contracts see of a counter
pub record CounterView : Type 0 where
  -- the messages that it has counted
  pub messages : ℕ
  -- and their octets
  pub octets : ℕ
  -- where what it has read of a text ends
  pub place : PlaceView

-- so many whole messages a text has, and so many octets have they
pub record CountsWhole (messages octets : ℕ) (text : List ℕ) : Type 0 where
  pub messages_are : messages ≡ capped (whole_messages text)
  pub octets_are : octets ≡ capped (whole_octets text)

-- this text was read, and its whole messages were counted
pub record HasRead (c : CounterView) (text : List ℕ) : Type 0 where
  pub counts : CountsWhole c.messages c.octets text
  pub place : EndsAt c.place (cut text).rest
