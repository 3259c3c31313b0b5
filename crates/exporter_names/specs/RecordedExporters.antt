-- The exporter that the name of a recording's file tells.
use Rattle.std.specs.Prelude.{◌≡◌, ◌⊎◌, ◌==◌, ℕ, if◌then◌else◌, List, map}
use Rattle.std.specs.Net.Grammar.{IsIpText}
use Rattle.std.specs.declared.net.ip_addr.IpAddr.{IpAddr}
use Rattle.recording_names.specs.FinishedNames.{IsCopy, finished_text}
use Rattle.recording_names.specs.SessionNames.{AreInRange, SessionParts}
use Rattle.recording_names.specs.declared.transport.Transport.{Transport}
use Rattle.exporter_names.specs.Cuts.{HasNo, joined}

-- `/`
abbrev pub slash : ℕ
slash = 47

-- a path's last name
pub record IsFileName (path name : List ℕ) : Type 0 where
  pub name_is : (path ≡ name) ⊎ ((folder : List ℕ) × (path ≡ joined slash folder name))
  pub last : HasNo slash name

-- hyphens stand for the colons of an address of IPv6
abbrev pub with_colon : ℕ → ℕ
with_colon octet = if octet == 45 then 58 else octet

abbrev pub with_colons : List ℕ → List ℕ
with_colons text = map with_colon text

-- the name of a finished file of a session with such an address, port and number
pub record IsFinishedOf (name address : List ℕ) (port number : ℕ) : Type 0 where
  pub transport : Transport
  pub copy : ℕ
  pub few : IsCopy copy
  pub name_is : name ≡ finished_text (record { address = address; port = port; transport = transport; number = number }) copy

-- the name of one of a session of the peer at this address
pub record IsRecorded (name : List ℕ) (address : IpAddr) : Type 0 where
  pub session : SessionParts
  pub copy : ℕ
  pub range : AreInRange session
  pub few : IsCopy copy
  pub name_is : name ≡ finished_text session copy
  pub address_is : IsIpText (with_colons session.address) address

-- and a path of it
pub record IsRecordedExporter (path : List ℕ) (address : IpAddr) : Type 0 where
  pub name : List ℕ
  pub file : IsFileName path name
  pub recorded : IsRecorded name address
