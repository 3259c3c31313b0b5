-- Walking over the messages of a file.
use Rattle.std.specs.Prelude.{◌≡◌, ℕ, ◌++◌, List, Option, Some}
use Rattle.ipfix_session.specs.MessageCounts.{CounterView, HasRead}

-- of a text some was read, and the rest is left
pub record Walked (left : Option (List ℕ)) (text : List ℕ) (counter : CounterView) : Type 0 where
  pub read : List ℕ
  pub rest : List ℕ
  pub all : text ≡ read ++ rest
  pub left_is : left ≡ Some rest
  pub has_read : HasRead counter read
