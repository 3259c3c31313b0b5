-- A buffer that takes octets from the front of a piece, up to a whole message.
use Rattle.std.specs.Prelude.{◌≡◌, ℕ, ◌<◌, ◌≤◌, max, List, [], ◌++◌, length, Result, Ok, Err}
use Rattle.ipfix_session.specs.declared.stop.Stop.{Stop}
use Rattle.ipfix_session.specs.MessageStream.{next_message}
use Rattle.ipfix_session.specs.Given.{IsOpen}

-- a text that begins with no message, but may when it goes on
pub record IsRest (w : List ℕ) : Type 0 where
  pub stop : Stop
  pub none : next_message w ≡ Err stop
  pub is_open : IsOpen stop

-- octets went from the front of a piece to the end of a buffer
pub record Moves (old new piece left : List ℕ) : Type 0 where
  pub moved : List ℕ
  pub new_is : new ≡ old ++ moved
  pub piece_is : piece ≡ moved ++ left

-- until the buffer has this size, or the piece has no more
pub record MovesUpTo (size : ℕ) (old new piece left : List ℕ) : Type 0 where
  pub moves : Moves old new piece left
  pub enough : 0 < length left → size ≤ length new
  pub at_most : length new ≤ max size (length old)

-- a buffer is one message; or it begins with none, and if it may go on no octet is left
abbrev pub IsFilled : Result (List ℕ × List ℕ) Stop → List ℕ → Type 0
IsFilled (Ok found) left = found.1 ≡ []
IsFilled (Err stop) left = IsOpen stop → left ≡ []

pub record Fills (old new piece left : List ℕ) : Type 0 where
  pub moves : Moves old new piece left
  pub filled : IsFilled (next_message new) left
