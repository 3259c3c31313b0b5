-- The value of JSON (RFC 8259) that a receipt is written as.
use Rattle.std.specs.Prelude.{ℕ, ◌^◌, nat_lt, Bool, List, [], ◌∷◌, ◌++◌, codes, decimal, map, Option, Some, None, if◌then◌else◌}
use Rattle.hex.specs.Hex.{encode_lower}
use Rattle.json.specs.Json.{Json, null, boolean, number, string, array, object, Members, no_members, member}
use Rattle.json.specs.Value.{items_of}
use Rattle.json.specs.Tree.{json_tokens}
use Rattle.json.specs.Token.{Token, key}
use Rattle.sha2.specs.Sha256.{sha256}
use Rattle.table_receipts.specs.declared.receipt.DomainReceipt.{DomainReceipt}
use Rattle.table_receipts.specs.declared.receipt.MergedInterval.{MergedInterval}
use Rattle.table_receipts.specs.declared.receipt.MergedInterval.TheVariants.{Day, Month}
use Rattle.table_receipts.specs.declared.receipt.RecordCounts.{RecordCounts}
use Rattle.table_receipts.specs.declared.receipt.TableFormat.{TableFormat}
use Rattle.table_receipts.specs.declared.receipt.TableFormat.TheVariants.{Csv, Ipfix, Json as JsonLines}
use Rattle.table_receipts.specs.Values.{ExporterValue, not_asked, unknown, address, FileValue, InputValue, IntoValue, SumValue, TableValue, ReceiptValue}

-- members of an object: each a name and a value, in this order
abbrev pub members_of : List (List ℕ × Json) → Members
members_of [] = no_members
members_of (pair ∷ pairs) = member pair.0 pair.1 (members_of pairs)

abbrev pub object_of : List (List ℕ × Json) → Json
object_of pairs = object (members_of pairs)

abbrev pub member_tokens : List (List ℕ × Json) → List Token
member_tokens [] = []
member_tokens (pair ∷ pairs) = key pair.0 ∷ (json_tokens pair.1 ++ member_tokens pairs)

-- a number that every reader of JSON holds exactly (RFC 7493, section 2.2), or a text of its digits
abbrev pub number_json : ℕ → Json
number_json n = if nat_lt n (2 ^ 53) then number (decimal n) else string (decimal n)

abbrev pub digest_json : List ℕ → Json
digest_json digest = string (encode_lower digest)

-- the member that has the SHA-256 (FIPS 180-4) of a text
abbrev pub sha256_member : List ℕ → List ℕ × Json
sha256_member text = (codes "sha256", digest_json (sha256 text))

abbrev pub list_json : {X : Type 0} → (X → Json) → List X → Json
list_json f xs = array (items_of (map f xs))

abbrev pub file_members : FileValue → List (List ℕ × Json)
file_members f = (codes "name", string f.name) ∷ (codes "octets", number_json f.octets) ∷ (codes "sha256", digest_json f.digest) ∷ []

unfoldable pub file_json : FileValue → Json
file_json f = object_of (file_members f)

unfoldable pub domain_json : DomainReceipt → Json
domain_json d = object_of (
    (codes "domain", number_json d.domain)
    ∷ (codes "lost", number_json d.lost)
    ∷ (codes "backward", number_json d.backward)
    ∷ (codes "unaccounted", number_json d.unaccounted)
    ∷ (codes "unknown_sets", number_json d.unknown_sets)
    ∷ [])

abbrev pub fault_json : Option (List ℕ) → Json
fault_json None = null
fault_json (Some name) = string name

-- what the session of an input gave
abbrev pub report_members : InputValue → List (List ℕ × Json)
report_members i =
    (codes "messages", number_json i.messages)
    ∷ (codes "records", number_json i.records)
    ∷ (codes "fault", fault_json i.fault)
    ∷ (codes "domains", list_json domain_json i.domains)
    ∷ []

-- who exported it, where the plan asks for that
abbrev pub exporter_members : ExporterValue → List (List ℕ × Json)
exporter_members not_asked = []
exporter_members unknown = (codes "exporter", null) ∷ []
exporter_members (address text) = (codes "exporter", string text) ∷ []

unfoldable pub input_json : InputValue → Json
input_json i = object_of (file_members i.file ++ (report_members i ++ exporter_members i.exporter))

unfoldable pub counts_json : RecordCounts → Json
counts_json c = object_of (
    (codes "used", number_json c.used)
    ∷ (codes "options", number_json c.options)
    ∷ (codes "untimed", number_json c.untimed)
    ∷ (codes "backward", number_json c.backward)
    ∷ (codes "unkeyed", number_json c.unkeyed)
    ∷ (codes "too_long", number_json c.too_long)
    ∷ [])

unfoldable pub sum_json : SumValue → Json
sum_json s = object_of ((codes "name", string s.name) ∷ (codes "sum", number_json s.total) ∷ [])

abbrev pub format_name : TableFormat → List ℕ
format_name Csv = codes "csv"
format_name Ipfix = codes "ipfix"
format_name JsonLines = codes "json"

-- how a table is written
abbrev pub form_members : TableValue → List (List ℕ × Json)
form_members t = (codes "format", string (format_name t.format)) ∷ (codes "time", number_json t.time) ∷ []

abbrev pub interval_name : MergedInterval → List ℕ
interval_name Day = codes "day"
interval_name Month = codes "month"

-- into what its rows were merged, if they were
abbrev pub into_members : Option IntoValue → List (List ℕ × Json)
into_members None = []
into_members (Some into) = (codes "into", string (interval_name into.interval)) ∷ (codes "zone", string into.zone) ∷ []

-- a table's text
abbrev pub text_members : TableValue → List (List ℕ × Json)
text_members t = (codes "octets", number_json t.octets) ∷ (codes "sha256", digest_json t.digest) ∷ []

-- what its rows add up to
abbrev pub row_members : TableValue → List (List ℕ × Json)
row_members t =
    (codes "rows", number_json t.rows)
    ∷ (codes "sums", list_json sum_json t.sums)
    ∷ (codes "flows", number_json t.flows)
    ∷ []

unfoldable pub table_json : TableValue → Json
table_json t = object_of (form_members t ++ (into_members t.into ++ (text_members t ++ row_members t)))

-- the plan's text, and its digest
unfoldable pub plan_json : List ℕ → Json
plan_json text = object_of ((codes "text", string text) ∷ sha256_member text ∷ [])

-- the version of the form, and that of collectd
abbrev pub version_members : List ℕ → List (List ℕ × Json)
version_members collectd = (codes "receipt", number_json 1) ∷ (codes "collectd", string collectd) ∷ []

-- who made the table, and under which plan
abbrev pub origin_members : ReceiptValue → List (List ℕ × Json)
origin_members r =
    version_members r.collectd
    ++ ((codes "plan", plan_json r.plan)
    ∷ (codes "elements", list_json file_json r.elements)
    ∷ (codes "maps", list_json file_json r.maps)
    ∷ [])

-- the names of the inputs that were left out, if some were
abbrev pub left_out_members : List (List ℕ) → List (List ℕ × Json)
left_out_members [] = []
left_out_members (name ∷ names) = (codes "left_out", list_json string (name ∷ names)) ∷ []

-- how it ends: the names of the inputs that were left out, if some were, and whether it is complete
abbrev pub ending : List (List ℕ) → Bool → List (List ℕ × Json)
ending names complete = left_out_members names ++ (codes "complete", boolean complete) ∷ []

-- what it was made of, and what it is
abbrev pub content_members : ReceiptValue → List (List ℕ × Json)
content_members r =
    (codes "inputs", list_json input_json r.inputs)
    ∷ (codes "records", counts_json r.records)
    ∷ (codes "table", table_json r.table)
    ∷ ending r.left_out r.complete

-- all members of a receipt but the last
abbrev pub first_members : ReceiptValue → List (List ℕ × Json)
first_members r = origin_members r ++ content_members r
