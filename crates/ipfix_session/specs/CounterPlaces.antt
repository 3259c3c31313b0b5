-- How a counter of messages keeps its place, and a text that it has read up to what is left.
use Rattle.std.specs.Prelude.{◌≡◌, List, ℕ, ◌++◌}
use Rattle.std.specs.Int.NonZero.{non_zero_u16_get}
use Rattle.ipfix_session.specs.MessageStream.{cut}
use Rattle.ipfix_session.specs.MessageCounts.{PlaceView, within_header, within_message, at_fault, CountsWhole, CounterView, HasRead}
use Rattle.ipfix_session.specs.declared.message_counter.CounterPlace.{CounterPlace}
use Rattle.ipfix_session.specs.declared.message_counter.CounterPlace.TheVariants as places

-- what contracts see of a place
abbrev pub place_view : CounterPlace → PlaceView
place_view (places.Header begun) = within_header begun.items
place_view (places.Message size due) = within_message size (non_zero_u16_get due)
place_view places.Fault = at_fault

-- this text was read up to what is left
pub record IsReading (c : CounterView) (left text : List ℕ) : Type 0 where
  pub front : List ℕ
  pub has_read : HasRead c front
  pub whole : front ++ left ≡ text

-- from what was left of a text before to what is left after, whatever was read before
abbrev pub ReadsOn : CounterView → CounterView → List ℕ → List ℕ → Type 0
ReadsOn old new before left = (text : List ℕ) → IsReading old before text → IsReading new left text

-- after a text, whose whole messages are counted, one more part was read, if P holds of what now follows these messages
abbrev pub ReadsPart : CounterView → CounterView → (List ℕ → Type 0) → Type 0
ReadsPart old new P = (text part : List ℕ) → CountsWhole old.messages old.octets text → P ((cut text).rest ++ part) → HasRead new (text ++ part)
