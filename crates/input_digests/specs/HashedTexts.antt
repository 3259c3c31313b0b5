-- What a source gave while it was hashed.
use Rattle.std.specs.Prelude.{◌≡◌, ◌<◌, ◌≤◌, ◌^◌, ◌⊎◌, ℕ, All, Bool, true, false, List, Option, Some, length, take}
use Rattle.std.specs.Io.KnownBytes.{Consumes}
use Rattle.ipfix_session.specs.declared.report.FullReport.{FullReport}
use Rattle.ipfix_session.specs.declared.session_limits.SessionLimits.{SessionLimits}
use Rattle.ipfix_message.specs.declared.record.DataRecord.{DataRecord}
use Rattle.ipfix_session.specs.Drives.{IsGivenWithin}
use Rattle.ipfix_session.specs.Places.{ReportsInFull}
use Rattle.ipfix_session.specs.Sources.{SourceView}
use Rattle.ipfix_session.specs.MessageCounts.{CounterView}
use Rattle.ipfix_session.specs.MessageCounts as counts
use Rattle.ipfix_session.specs.WholeMessages.{whole_octets}
use Rattle.ipfix_session.specs.Faults.{ends_open}
use Rattle.sha2.specs.Sha256.{sha256}
use Rattle.input_digests.specs.declared.front_digest.FrontDigest.{FrontDigest}
use Rattle.input_digests.specs.FrontDigests.{HasRead}

-- a source that held the one at the start, and is seen so now, gave octets, and they were hashed
pub record HasHashed (digest : FrontDigest) (messages : CounterView) (start : Option (List ℕ)) (now : SourceView) : Type 0 where
  pub gave : List ℕ
  pub octets : All (λ octet. octet < 256) gave
  pub given : Consumes start now.text gave
  pub counted : counts.HasRead messages gave
  pub sure : ℕ
  pub read : HasRead digest sure gave
  -- none are known to count before the end, and then the whole messages
  pub settled : (sure ≡ 0) ⊎ ((now.ended ≡ true) × (sure ≤ whole_octets gave))

-- a digest is that of the messages that count: of the octets that a source held before the place where its session stopped.
-- (No source holds 2^64 octets)
abbrev pub IsOfCounted : Option (List ℕ) → FullReport → List ℕ → Type 0
IsOfCounted start report digest = (text : List ℕ) → start ≡ Some text → length text < 2 ^ 64 → digest ≡ sha256 (take report.stopped_at.octet text)

-- such a digest is that of all that the source held
abbrev pub AllCount : Option (List ℕ) → FullReport → Type 0
AllCount start report = (text digest : List ℕ) → start ≡ Some text → length text < 2 ^ 64 → IsOfCounted start report digest → digest ≡ sha256 text

-- a session of a source, which has such limits, gave records, and its full report tells of all its messages that count
pub record TellsSession {S : Type 0} (seen : S → SourceView) (limits : SessionLimits) (before after : S) (full : FullReport) : Type 0 where
  pub records : List DataRecord
  pub given : IsGivenWithin seen limits before after full.report records
  pub told : ReportsInFull full given.counted (length records)

-- a digest is that of the messages that count of any session that brought a source, which held the one at the start, to where it is now
abbrev pub IsOfSession : {S : Type 0} → (S → SourceView) → Option (List ℕ) → S → FullReport → List ℕ → Type 0
IsOfSession {S} seen start now full digest =
    (limits : SessionLimits) (before : S) → (seen before).text ≡ start → TellsSession seen limits before now full → IsOfCounted start full digest

-- the digest of any such session is lost, or the session ended at a message though the source has shown its end
abbrev pub LacksDigest : {S : Type 0} → (S → SourceView) → Option (List ℕ) → Bool → S → FullReport → Type 0
LacksDigest {S} seen start lost now full =
    (limits : SessionLimits) (before : S) (text : List ℕ) → (seen before).text ≡ start → start ≡ Some text → length text < 2 ^ 64 → TellsSession seen limits before now full
    → lost ≡ false → ((seen now).ended ≡ true) × (ends_open full.report.fault ≡ false)
