-- How a session tells what it has read.
use Rattle.std.specs.Prelude.{◌≡◌, ℕ, ◌+◌, ◌-◌, ◌^◌, ◌<◌, ◌≤◌, min, List, [], ◌++◌, length, Option, IfSome}
use Rattle.std.specs.Io.KnownBytes.{Appends}
use Rattle.std.specs.Time.{instant_nanos}
use Rattle.std.specs.declared.time.Instant.{Instant}
use Rattle.ipfix_session.specs.MessageCounts.{CounterView, HasRead}
use Rattle.input_sources.specs.ProgressLines.{progress_line}

-- what contracts see of a session's progress
pub record ProgressView : Type 0 where
  -- the session's number, counted from 1
  pub session : ℕ
  -- the octets that it has read
  pub read : ℕ
  -- the counter of their messages
  pub counter : CounterView
  -- how many octets there are in all, if that is known
  pub size : Option ℕ
  -- when it told last, or began: nanoseconds of the clock
  pub last : ℕ
  -- the octets that were written, if its terminal tells them, and those of them that it was not given yet
  pub written : Option (List ℕ)
  pub kept : List ℕ

-- a second, in nanoseconds
abbrev pub second : ℕ
second = 1_000_000_000

-- when it tells again: a second after it told last
abbrev pub due : ProgressView → ℕ
due progress = progress.last + second

-- a second or more has gone by since then
abbrev pub IsDue : ProgressView → Instant → Type 0
IsDue progress now = due progress ≤ instant_nanos now

-- its numbers are of 64 bits
pub record IsOf64Bits (progress : ProgressView) : Type 0 where
  pub session : progress.session < 2 ^ 64
  pub read : progress.read < 2 ^ 64
  pub messages : progress.counter.messages < 2 ^ 64
  pub size : IfSome progress.size (λ octets. octets < 2 ^ 64)

-- the line of what it has read by now
abbrev pub line_of : ProgressView → List ℕ
line_of progress = progress_line progress.session progress.read progress.counter.messages progress.size

-- nothing was told
pub record IsSilent (old new : ProgressView) : Type 0 where
  pub last : new.last ≡ old.last
  pub written : new.written ≡ old.written
  pub kept : new.kept ≡ old.kept

-- the line of what was read by then was told, a second or more after the one before, and nothing is kept back
pub record TellsLine (old new : ProgressView) : Type 0 where
  pub in_time : due old ≤ new.last
  pub line : Appends old.written new.written (line_of new)
  pub given : new.kept ≡ []

-- these octets were read next by the same session: they are counted, and so are the messages that they
-- make whole; both counts stop at the greatest number of 64 bits
pub record CountsOctets (old : ProgressView) (octets : List ℕ) (new : ProgressView) : Type 0 where
  pub read : new.read ≡ min (old.read + length octets) (2 ^ 64 - 1)
  pub messages : (text : List ℕ) → HasRead old.counter text → HasRead new.counter (text ++ octets)
  pub session : new.session ≡ old.session
  pub size : new.size ≡ old.size
