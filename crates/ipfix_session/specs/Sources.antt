-- What contracts see of a source of octets, and what a read of it does.
use Rattle.std.specs.Prelude.{◌≡◌, ℕ, ◌+◌, ◌-◌, ◌^◌, ◌≤◌, min, Bool, true, false, ◌||◌, ◌&&◌, nat_lt, ◌==◌, if◌then◌else◌, List, length, take, Option, Result, Ok, Err, IfOk, MatchResult}
use Rattle.std.specs.Io.KnownBytes.{Consumes, Keeps}
use Rattle.ipfix_session.specs.declared.source.ReadError.{ReadError}
use Rattle.ipfix_session.specs.declared.source.ReadError.TheVariants.{Interrupted, Failed}

pub record SourceView : Type 0 where
  -- the octets that it still holds, if it shows them
  pub text : Option (List ℕ)
  -- how many reads there were
  pub reads : ℕ
  -- how many of them failed
  pub failed : ℕ
  -- whether one of them showed the end
  pub ended : Bool

-- a source of which nothing was read, and which holds these octets
abbrev pub unread : Option (List ℕ) → SourceView
unread text = record { text = text; reads = 0; failed = 0; ended = false }

-- a count that stops at the greatest number of 64 bits
abbrev pub one_more : ℕ → ℕ
one_more n = min (n + 1) (2 ^ 64 - 1)

abbrev pub is_failed : Result ℕ ReadError → Bool
is_failed (Ok n) = false
is_failed (Err Interrupted) = false
is_failed (Err Failed) = true

-- an answer that shows the end: no octets, with room for some
abbrev pub tells_end : Result ℕ ReadError → List ℕ → Bool
tells_end (Ok n) buffer = (n == 0) && nat_lt 0 (length buffer)
tells_end (Err e) buffer = false

-- a read, which leaves this buffer: Ok moves that many octets from the front of the text to the
-- front of the buffer, and Err moves none
pub record IsRead (before : SourceView) (answer : Result ℕ ReadError) (after : SourceView) (buffer : List ℕ) : Type 0 where
  pub fits : IfOk answer (λ n. n ≤ length buffer)
  pub moved : MatchResult answer (λ n. Consumes before.text after.text (take n buffer)) (λ e. Keeps before.text after.text)
  pub counted : after.reads ≡ one_more before.reads
  pub failures : after.failed ≡ (if is_failed answer then one_more before.failed else before.failed)
  pub end : after.ended ≡ (before.ended || tells_end answer buffer)
