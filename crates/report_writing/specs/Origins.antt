-- Whose session a line tells of, and what of it was asked for.
use Rattle.std.specs.Prelude.{ℕ, ◌-◌, ◌||◌, Bool, List, [], ◌++◌, codes, decimal, Option, Some, None}
use Rattle.std.specs.List.{flat_map}
use Rattle.std.specs.Net.Text.{socket_text}
use Rattle.report_writing.specs.Quoting.{octet_shown}
use Rattle.report_writing.specs.declared.origin.Origin.{Origin}
use Rattle.report_writing.specs.declared.origin.Origin.TheVariants.{File, Peer, Unknown}
use Rattle.report_writing.specs.declared.verbosity.Verbosity.{Verbosity}

-- a name in quotation marks, all of it, as a terminal may show it
abbrev pub whole_name : List ℕ → List ℕ
whole_name name = codes " \"" ++ (flat_map octet_shown name ++ codes "\"")

-- an address and a port
unfoldable pub peer_text : List ℕ → List ℕ
peer_text address = codes " " ++ address

-- what follows the number of a session: the name of its file, or the address of its peer
abbrev pub origin_text : Origin → List ℕ
origin_text (File name size) = whole_name name.now
origin_text (Peer address) = peer_text (socket_text address)
origin_text Unknown = []

unfoldable pub number_text : ℕ → List ℕ
number_text session = codes "collectd: session " ++ decimal session

-- how an added line of a session begins
abbrev pub session_start : ℕ → Origin → List ℕ
session_start session origin = number_text session ++ origin_text origin

-- how many octets a file has from this one on, if its size is known
abbrev pub octets_from : Origin → ℕ → Option ℕ
octets_from (File name (Some size)) octet = Some (size - octet)
octets_from (File name None) octet = None
octets_from (Peer address) octet = None
octets_from Unknown octet = None

-- both options tell what wasn't counted
abbrev pub tells_balances : Verbosity → Bool
tells_balances verbosity = verbosity.verbose || verbosity.strict
