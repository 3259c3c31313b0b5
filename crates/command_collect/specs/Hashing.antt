-- What was hashed as a writer took it.
use Rattle.std.specs.Prelude.{◌≡◌, ℕ, List, Option, length}
use Rattle.std.specs.Io.KnownBytes.{Appends}
use Rattle.sha2.specs.Hashers.{Holds256}
use Rattle.sha2.specs.declared.Sha256.{Sha256}
use Rattle.ipfix_session.specs.Ledger.{capped}

-- a writer that held this at the start, and holds that now, took octets, and they were hashed and counted
pub record HasWritten (hasher : Sha256) (octets : ℕ) (start now : Option (List ℕ)) : Type 0 where
  pub taken : List ℕ
  pub appended : Appends start now taken
  pub hashed : Holds256 hasher taken
  pub counted : octets ≡ capped (length taken)
