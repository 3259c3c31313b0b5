-- What a digest of the front of a text has read.
use Rattle.std.specs.Prelude.{◌≡◌, ◌≤◌, ◌<◌, ℕ, ◌+◌, ◌^◌, ◌⊎◌, List, ◌++◌, length, take}
use Rattle.sha2.specs.Hashers.{Holds256}
use Rattle.ipfix_session.specs.Ledger.{capped}
use Rattle.input_digests.specs.declared.front_digest.FrontDigest.{FrontDigest}
use Rattle.input_digests.specs.declared.front_digest.TheConstants.{MOST_OPEN}

-- a digest hashed the front of a text, and holds the rest
pub record HoldsRest (digest : FrontDigest) (front text : List ℕ) : Type 0 where
  pub hashed : Holds256 digest.hasher front
  pub count : digest.hashed ≡ capped (length front)
  pub text_is : text ≡ front ++ digest.held

-- a digest has read this text, of which so many octets are known to count: it hashed a front of it that is no longer than
-- these, or holds all octets that may turn out not to count
pub record HasRead (digest : FrontDigest) (sure : ℕ) (text : List ℕ) : Type 0 where
  pub front : List ℕ
  pub holds : HoldsRest digest front text
  pub behind : (length front ≤ sure) ⊎ (MOST_OPEN ≤ length digest.held)

-- P holds of each text that a digest has read, and of how many of its octets are known to count
abbrev pub IfRead : FrontDigest → (ℕ → List ℕ → Type 0) → Type 0
IfRead digest P = (sure : ℕ) (text : List ℕ) → HasRead digest sure text → P sure text

-- the same of texts of fewer than 2^64 octets, which it counts
abbrev pub IfCounted : FrontDigest → (ℕ → List ℕ → Type 0) → Type 0
IfCounted digest P = (sure : ℕ) (text : List ℕ) → HasRead digest sure text → length text < 2 ^ 64 → P sure text

-- a digest hashed so many of the octets that it held, the first ones
abbrev pub HashesHeld : FrontDigest → FrontDigest → ℕ → Type 0
HashesHeld old new due = (front text : List ℕ) → HoldsRest old front text → HoldsRest new (front ++ take due old.held) text

-- the digest of so many octets may be unknown: the text has fewer, or more are known to count, or the text has many more
abbrev pub MayBeUnknown : ℕ → ℕ → List ℕ → Type 0
MayBeUnknown octets sure text = (length text < octets) ⊎ ((octets < sure) ⊎ (octets + MOST_OPEN < length text))
