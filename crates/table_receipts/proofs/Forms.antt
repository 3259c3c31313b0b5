-- The JSON of a receipt is shallow, and its numbers are numbers.
use Rattle.std.proofs.Common.{◌≡◌, ℕ, ◌≤◌, List, [], ◌∷◌, refl, arith}
use Rattle.std.specs.Prelude.{◌^◌, ◌++◌, codes, Bool, true, false, nat_lt, if◌then◌else◌, map, Option, Some, None, decimal}
use Rattle.std.proofs.lemmas.Bool.{ltb-true}
use Rattle.json.specs.Json.{Json, number, string}
use Rattle.json.specs.Tree.{depth, items_depth, members_depth, HasNumbers, ItemsHaveNumbers, MembersHaveNumbers}
use Rattle.json.specs.Value.{items_of}
use Rattle.json.proofs.Printed.Decimals.{IsNumber-decimal}
use Rattle.table_receipts.specs.declared.receipt.DomainReceipt.{DomainReceipt}
use Rattle.table_receipts.specs.declared.receipt.RecordCounts.{RecordCounts}
use Rattle.table_receipts.specs.Values.{ExporterValue, not_asked, unknown, address, FileValue, InputValue, IntoValue, SumValue, TableValue, ReceiptValue}
use Rattle.table_receipts.specs.Objects.{number_json, file_json, domain_json, ending, exporter_members, fault_json, form_members, input_json, into_members, members_of, digest_json, counts_json, object_of, row_members, sum_json, table_json, text_members, plan_json}
use Rattle.sha2.specs.Sha256.{sha256}
use Rattle.table_receipts.specs.Texts.{receipt_json, text_before}

-- a value whose numbers are numbers, and that nests no deeper
pub record IsGood (k : ℕ) (j : Json) : Type 0 where
  pub numbers : HasNumbers j
  pub nests : depth j ≤ k

pub record AreGood (k : ℕ) (js : List Json) : Type 0 where
  pub numbers : ItemsHaveNumbers (items_of js)
  pub nests : items_depth (items_of js) ≤ k

number_by : (n : ℕ) (b : Bool) → nat_lt n (2 ^ 53) ≡ b → IsGood 0 (if b then number (decimal n) else string (decimal n))
number_by n true e = let less = ltb-true n (2 ^ 53) e in record { numbers = IsNumber-decimal n (omega (arith, less)); nests = omega arith }
number_by n false e = record { numbers = tt; nests = omega arith }

pub number_good : (n : ℕ) → IsGood 0 (number_json n)
number_good n = number_by n (nat_lt n (2 ^ 53)) refl

list_good : {X : Type 0} (k : ℕ) (f : X → Json) → ((x : X) → IsGood k (f x)) → (xs : List X) → AreGood k (map f xs)
list_good k f good [] = record { numbers = tt; nests = omega arith }
list_good k f good (x ∷ xs) =
    let one = good x in
    let more = list_good k f good xs in
    record { numbers = (one.numbers, more.numbers); nests = omega (arith, one.nests, more.nests) }

file_good : (f : FileValue) → IsGood 1 (file_json f)
unfolding file_json
file_good f =
    let octets = number_good f.octets in
    record { numbers = (tt, (octets.numbers, (tt, tt))); nests = omega (arith, octets.nests) }

domain_good : (d : DomainReceipt) → IsGood 1 (domain_json d)
unfolding domain_json
domain_good d =
    let a = number_good d.domain in
    let b = number_good d.lost in
    let c = number_good d.backward in
    let e = number_good d.unaccounted in
    let h = number_good d.unknown_sets in
    record { numbers = (a.numbers, (b.numbers, (c.numbers, (e.numbers, (h.numbers, tt))))); nests = omega (arith, a.nests, b.nests, c.nests, e.nests, h.nests) }

fault_good : (o : Option (List ℕ)) → IsGood 0 (fault_json o)
fault_good None = record { numbers = tt; nests = omega arith }
fault_good (Some name) = record { numbers = tt; nests = omega arith }

record AreFlat (e : ExporterValue) : Type 0 where
  pub numbers : MembersHaveNumbers (members_of (exporter_members e))
  pub nests : members_depth (members_of (exporter_members e)) ≤ 0

exporter_good : (e : ExporterValue) → AreFlat e
exporter_good not_asked = record { numbers = tt; nests = omega arith }
exporter_good unknown = record { numbers = (tt, tt); nests = omega arith }
exporter_good (address text) = record { numbers = (tt, tt); nests = omega arith }

input_good : (i : InputValue) → IsGood 3 (input_json i)
unfolding input_json
input_good i =
    let octets = number_good i.file.octets in
    let messages = number_good i.messages in
    let records = number_good i.records in
    let fault = fault_good i.fault in
    let domains = list_good 1 domain_json domain_good i.domains in
    let exporter = exporter_good i.exporter in
    record {
      numbers = (tt, (octets.numbers, (tt, (messages.numbers, (records.numbers, (fault.numbers, (domains.numbers, exporter.numbers)))))));
      nests = omega (arith, octets.nests, messages.nests, records.nests, fault.nests, domains.nests, exporter.nests);
    }

counts_good : (c : RecordCounts) → IsGood 1 (counts_json c)
unfolding counts_json
counts_good c =
    let a = number_good c.used in
    let b = number_good c.options in
    let d = number_good c.untimed in
    let e = number_good c.backward in
    let h = number_good c.unkeyed in
    let k = number_good c.too_long in
    record { numbers = (a.numbers, (b.numbers, (d.numbers, (e.numbers, (h.numbers, (k.numbers, tt)))))); nests = omega (arith, a.nests, b.nests, d.nests, e.nests, h.nests, k.nests) }

sum_good : (s : SumValue) → IsGood 1 (sum_json s)
unfolding sum_json
sum_good s =
    let total = number_good s.total in
    record { numbers = (tt, (total.numbers, tt)); nests = omega (arith, total.nests) }

-- whatever its rows were merged into
merged_good : (t : TableValue) (into : Option IntoValue) → IsGood 3 (object_of (form_members t ++ (into_members into ++ (text_members t ++ row_members t))))
merged_good t None =
    let time = number_good t.time in
    let octets = number_good t.octets in
    let rows = number_good t.rows in
    let sums = list_good 1 sum_json sum_good t.sums in
    let flows = number_good t.flows in
    record {
      numbers = (tt, (time.numbers, (octets.numbers, (tt, (rows.numbers, (sums.numbers, (flows.numbers, tt)))))));
      nests = omega (arith, time.nests, octets.nests, rows.nests, sums.nests, flows.nests);
    }
merged_good t (Some into) =
    let time = number_good t.time in
    let octets = number_good t.octets in
    let rows = number_good t.rows in
    let sums = list_good 1 sum_json sum_good t.sums in
    let flows = number_good t.flows in
    record {
      numbers = (tt, (time.numbers, (tt, (tt, (octets.numbers, (tt, (rows.numbers, (sums.numbers, (flows.numbers, tt)))))))));
      nests = omega (arith, time.nests, octets.nests, rows.nests, sums.nests, flows.nests);
    }

table_good : (t : TableValue) → IsGood 3 (table_json t)
unfolding table_json
table_good t = merged_good t t.into

plan_good : (text : List ℕ) → IsGood 1 (plan_json text)
unfolding plan_json
plan_good text = record { numbers = (tt, (tt, tt)); nests = omega arith }

string_good : (name : List ℕ) → IsGood 0 (string name)
string_good name = record { numbers = tt; nests = omega arith }

-- the last members
abbrev last_members : List (List ℕ) → Bool → List ℕ → List (List ℕ × Json)
last_members names complete digest = ending names complete ++ (codes "sha256", digest_json digest) ∷ []

record AreLast (names : List (List ℕ)) (complete : Bool) (digest : List ℕ) : Type 0 where
  pub numbers : MembersHaveNumbers (members_of (last_members names complete digest))
  pub nests : members_depth (members_of (last_members names complete digest)) ≤ 1

last_good : (names : List (List ℕ)) (complete : Bool) (digest : List ℕ) → AreLast names complete digest
last_good [] complete digest = record { numbers = (tt, (tt, tt)); nests = omega arith }
last_good (name ∷ names) complete digest =
    let texts = list_good 0 string string_good (name ∷ names) in
    record { numbers = (texts.numbers, (tt, (tt, tt))); nests = omega (arith, texts.nests) }

pub receipt_good : (r : ReceiptValue) → IsGood 5 (receipt_json r)
unfolding receipt_json
receipt_good r =
    let version = number_good 1 in
    let plan = plan_good r.plan in
    let elements = list_good 1 file_json file_good r.elements in
    let maps = list_good 1 file_json file_good r.maps in
    let inputs = list_good 3 input_json input_good r.inputs in
    let records = counts_good r.records in
    let table = table_good r.table in
    let last = last_good r.left_out r.complete (sha256 (text_before r)) in
    record {
      numbers = (version.numbers, (tt, (plan.numbers, (elements.numbers, (maps.numbers, (inputs.numbers, (records.numbers, (table.numbers, last.numbers))))))));
      nests = omega (arith, version.nests, plan.nests, elements.nests, maps.nests, inputs.nests, records.nests, table.nests, last.nests);
    }
