-- The digests of what the sources of a run gave.
use Rattle.std.specs.Prelude.{◌≡◌, ◌<◌, ◌^◌, ℕ, ◌+◌, List, [], ◌∷◌, Option, Some, length}
use Rattle.std.specs.declared.alloc.Global.{Global}
use Rattle.std.specs.declared.vec.Vec.{Vec}
use Rattle.sha2.specs.Sha256.{sha256}
use Rattle.ipfix_session.specs.Sources.{SourceView}
use Rattle.ipfix_session.specs.declared.report.FullReport.{FullReport}
use Rattle.flow_collect.specs.Places.{Each3}
use Rattle.input_digests.specs.HashedTexts.{IsOfCounted, IsOfSession}
use Rattle.command_collect.specs.declared.receipts.hashed_table.TextDigest.{TextDigest}

-- sources, from this place on, hold what there is at the start
abbrev pub StartAt : {S : Type 0} → (S → SourceView) → (ℕ → Option (List ℕ)) → ℕ → List S → Type 0
StartAt seen texts place [] = Unit {0}
StartAt seen texts place (source ∷ sources) = ((seen source).text ≡ texts place) × StartAt seen texts (place + 1) sources

-- of each source, from this place on, as its session left it, there is the digest of the messages that count
abbrev pub AreOfSessions : {S : Type 0} → (S → SourceView) → (ℕ → Option (List ℕ)) → ℕ → List S → List FullReport → List (List ℕ) → Type 0
AreOfSessions seen texts place (source ∷ sources) (full ∷ fulls) (digest ∷ digests) =
    IsOfSession seen (texts place) source full digest × AreOfSessions seen texts (place + 1) sources fulls digests
AreOfSessions seen texts place [] [] [] = Unit {0}
AreOfSessions seen texts place sources fulls digests = ⊥

-- the same from the first place on
abbrev pub AreDigested : {S : Type 0} → (S → SourceView) → (ℕ → Option (List ℕ)) → Vec S Global → List FullReport → Vec (List ℕ) Global → Type 0
AreDigested seen texts sources fulls digests = AreOfSessions seen texts 0 sources.items fulls digests.items

-- of each source there is the digest of the messages that count by the report of its session
abbrev pub AreDigestsOf : {S : Type 0} → (S → SourceView) → List S → List FullReport → List (List ℕ) → Type 0
AreDigestsOf seen sources fulls digests = Each3 (λ source full digest. IsOfCounted (seen source).text full digest) sources fulls digests

-- so many octets, and their digest. (No text has 2^64 octets)
abbrev pub IsDigestOf : TextDigest → List ℕ → Type 0
IsDigestOf digest text = length text < 2 ^ 64 → (digest.octets ≡ length text) × (digest.sha256 ≡ sha256 text)

-- the same of a text that was appended to what a writer held, if it shows that
abbrev pub IsDigestOfAppended : Option (List ℕ) → TextDigest → List ℕ → Type 0
IsDigestOfAppended old digest text = (held : List ℕ) → old ≡ Some held → IsDigestOf digest text
