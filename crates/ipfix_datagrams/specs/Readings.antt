-- What is said of a datagram that is read, in the contracts of several functions.
use Rattle.std.specs.Prelude.{◌≡◌, ℕ, List, drop}
use Rattle.std.specs.BTreeMap.{BTreeMap}
use Rattle.ipfix_wire.specs.declared.header.TheConstants.{HEADER_LENGTH}
use Rattle.ipfix_message.specs.Domains.{DomainsView, History, Message}
use Rattle.ipfix_message.specs.declared.fault.MessageFault.{MessageFault}
use Rattle.ipfix_message.specs.declared.record.Template.{Template}
use Rattle.ipfix_datagrams.specs.Attempts.{HasFirst}
use Rattle.ipfix_datagrams.specs.Datagrams.{Basis, IsReadingOf, IsRefused, Represents}
use Rattle.ipfix_datagrams.specs.declared.reading.DatagramReading.{DatagramReading}

-- a datagram of this domain that is read so, the history that these domains stand for before it, and what it gives
pub record ReadSo (d : DomainsView) (domain : ℕ) (r : DatagramReading) : Type 0 where
  pub basis : Basis
  pub history : History
  pub datagram : List ℕ
  pub given : Message
  pub represents : Represents d history
  pub reading : IsReadingOf basis history datagram r given
  pub of_domain : given.header.domain ≡ domain

-- a datagram is refused, whatever is resumed
abbrev pub IsRefusedAnyway : List ℕ → History → List ℕ → MessageFault → Type 0
IsRefusedAnyway barred ds m f = (resumed : List Template) → IsRefused (record { resumed = resumed; barred = barred }) ds m f

-- the sets of a datagram, and its first definitions
pub record AreSetsOf (sets : List ℕ) (first : BTreeMap ℕ Template) (m : List ℕ) : Type 0 where
  pub octets : sets ≡ drop HEADER_LENGTH m
  pub defines : HasFirst first m
