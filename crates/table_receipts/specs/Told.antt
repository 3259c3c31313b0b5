-- What the members of an object tell.
use Rattle.std.specs.Prelude.{◌≡◌, ℕ, List, [], ◌∷◌, codes, Option, Some, None, option_map}
use Rattle.json.specs.Find.{get}
use Rattle.json.specs.Json.{Json, null, string}
use Rattle.table_receipts.specs.Values.{ExporterValue, not_asked, unknown, address, FileValue, InputValue, IntoValue}
use Rattle.table_receipts.specs.Objects.{digest_json, domain_json, fault_json, interval_name, list_json, number_json}

-- members tell a file
pub record TellsFile (j : Json) (f : FileValue) : Type 0 where
  pub name : get (codes "name") j ≡ Some (string f.name)
  pub octets : get (codes "octets") j ≡ Some (number_json f.octets)
  pub digest : get (codes "sha256") j ≡ Some (digest_json f.digest)

-- the member that tells the fault of an input
abbrev pub TellsFault : Json → Option (List ℕ) → Type 0
TellsFault j fault = get (codes "fault") j ≡ Some (fault_json fault)

-- the member that tells who exported an input
abbrev pub exporter_json : ExporterValue → Option Json
exporter_json not_asked = None
exporter_json unknown = Some null
exporter_json (address text) = Some (string text)

abbrev pub TellsExporter : Json → ExporterValue → Type 0
TellsExporter j exporter = get (codes "exporter") j ≡ exporter_json exporter

-- the member that names the inputs that were left out
abbrev pub left_out_json : List (List ℕ) → Option Json
left_out_json [] = None
left_out_json (name ∷ names) = Some (list_json string (name ∷ names))

abbrev pub TellsLeftOut : Json → List (List ℕ) → Type 0
TellsLeftOut j names = get (codes "left_out") j ≡ left_out_json names

-- members tell into what rows were merged
pub record TellsInto (j : Json) (into : Option IntoValue) : Type 0 where
  pub interval : get (codes "into") j ≡ option_map (λ i. string (interval_name i.interval)) into
  pub zone : get (codes "zone") j ≡ option_map (λ i. string i.zone) into

-- members tell an input
pub record TellsInput (j : Json) (i : InputValue) : Type 0 where
  pub file : TellsFile j i.file
  pub messages : get (codes "messages") j ≡ Some (number_json i.messages)
  pub records : get (codes "records") j ≡ Some (number_json i.records)
  pub fault : TellsFault j i.fault
  pub domains : get (codes "domains") j ≡ Some (list_json domain_json i.domains)
  pub exporter : TellsExporter j i.exporter
