-- How long a connection may be silent, and which failing read is a tick.
use Rattle.std.specs.Prelude.{◌≡◌, ◌≢◌, ℕ, ◌≤◌, ◌-◌, ◌⊎◌, Bool, false, List, ◌++◌, Option, Some, None, Result}
use Rattle.std.specs.Duration.{as_nanos}
use Rattle.std.specs.Time.{instant_nanos}
use Rattle.std.specs.declared.time.Duration.{Duration}
use Rattle.std.specs.declared.time.Instant.{Instant}
use Rattle.std.specs.declared.io.ErrorKind.{ErrorKind}
use Rattle.std.specs.declared.io.ErrorKind.TheVariants.{Interrupted, WouldBlock}
use Rattle.ipfix_session.specs.MessageCounts.{CounterView, HasRead}
use Rattle.ipfix_session.specs.Sources.{IsRead, SourceView}
use Rattle.ipfix_session.specs.declared.source.ReadError.{ReadError}
use Rattle.recording_connections.specs.declared.patient_reader.SilenceLimits.{SilenceLimits}

-- a source was read
abbrev pub WasRead : {S : Type 0} → (S → SourceView) → S → Result ℕ ReadError → S → List ℕ → Type 0
WasRead seen before answer after buffer = IsRead (seen before) answer (seen after) buffer

-- nothing was heard since then, for as long as it may be or longer
abbrev pub IsTooLong : Option Duration → Option Instant → Option Instant → Type 0
IsTooLong (Some idle) (Some heard) (Some now) = as_nanos idle ≤ instant_nanos now - instant_nanos heard
IsTooLong idle heard now = ⊥

-- no message has come whole since the connection began, for as long as that may take or longer
abbrev pub IsOverdue : ℕ → SilenceLimits → Option Instant → Option Instant → Type 0
IsOverdue messages silence begun now = (messages ≡ 0) × IsTooLong (Some silence.first_message) begun now

-- in a piece that came a message was looked for, unless one was whole before
abbrev pub LookedFor : CounterView → List ℕ → CounterView → Type 0
LookedFor before piece after =
    (before.messages ≡ 0 → (text : List ℕ) → HasRead before text → HasRead after (text ++ piece))
    × (before.messages ≢ 0 → after ≡ before)

-- a read that was interrupted, or reached its time limit while the silence is not too long
abbrev pub IsTick : ErrorKind → Bool → Type 0
IsTick kind is_too_long = (kind ≡ Interrupted) ⊎ ((kind ≡ WouldBlock) × (is_too_long ≡ false))

-- the reader's error, which is no tick
abbrev pub IsReadersFailure : Option Duration → Option Instant → Option Instant → Option ErrorKind → Type 0
IsReadersFailure idle heard now None = ⊥
IsReadersFailure idle heard now (Some kind) = (kind ≢ Interrupted) × (kind ≡ WouldBlock → IsTooLong idle heard now)

-- a read fails as one that would block if the first message is overdue at a moment that is told; otherwise as its reader did, whose
-- error is no tick
abbrev pub FailsBy : (Option Instant → Type 0) → SilenceLimits → ℕ → Option Instant → Option Instant → Option ErrorKind → Type 0
FailsBy tells silence messages begun heard failure =
    (first : Option Instant) × tells first
    × ((IsOverdue messages silence begun first × (failure ≡ Some WouldBlock))
    ⊎ ((¬ IsOverdue messages silence begun first) × ((now : Option Instant) × tells now × IsReadersFailure silence.idle heard now failure)))
