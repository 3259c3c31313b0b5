-- The objects of a file and of an input tell them.
use Rattle.std.proofs.Common.{◌≡◌, refl, ap, subst, sym, ◌∙◌, length, map, arith}
use Rattle.std.specs.Prelude.{ℕ, List, [], ◌∷◌, ◌++◌, codes, Option, None, Some}
use Rattle.std.proofs.lemmas.Option.{none-some, same_Some}
use Rattle.json.specs.Find.{get}
use Rattle.json.specs.Json.{Json, array, boolean, string}
use Rattle.json.specs.Value.{items_of}
use Rattle.sha2.specs.Sha256.{sha256}
use Rattle.table_receipts.specs.Objects.{counts_json, digest_json, ending, file_json, form_members, format_name, input_json, into_members, left_out_members, list_json, number_json, object_of, origin_members, plan_json, row_members, sum_json, table_json, text_members}
use Rattle.table_receipts.specs.Texts.{receipt_json, text_before}
use Rattle.table_receipts.proofs.Items.{arrays_same}
use Rattle.table_receipts.specs.Told.{TellsFile, TellsInput, TellsInto, TellsLeftOut, left_out_json}
use Rattle.table_receipts.specs.Values.{ExporterValue, not_asked, unknown, address, FileValue, InputValue, IntoValue, ReceiptValue, TableValue}

pub file_tells : (j : Json) (f : FileValue) → j ≡ file_json f → TellsFile j f
unfolding file_json
file_tells j f is = record { name = ap (get (codes "name")) is; octets = ap (get (codes "octets")) is; digest = ap (get (codes "sha256")) is }

with_exporter : InputValue → ExporterValue → InputValue
with_exporter i e = record { file = i.file; messages = i.messages; records = i.records; fault = i.fault; domains = i.domains; exporter = e }

tells_so : (i : InputValue) (e : ExporterValue) → TellsInput (input_json (with_exporter i e)) (with_exporter i e)
unfolding input_json with_exporter
tells_so i not_asked = record { file = record { name = refl; octets = refl; digest = refl }; messages = refl; records = refl; fault = refl; domains = refl; exporter = refl }
tells_so i unknown = record { file = record { name = refl; octets = refl; digest = refl }; messages = refl; records = refl; fault = refl; domains = refl; exporter = refl }
tells_so i (address text) = record { file = record { name = refl; octets = refl; digest = refl }; messages = refl; records = refl; fault = refl; domains = refl; exporter = refl }

pub input_tells : (j : Json) (i : InputValue) → j ≡ input_json i → TellsInput j i
unfolding with_exporter
input_tells j i is = subst (λ (x : Json). TellsInput x i) (sym is) (tells_so i i.exporter)

-- the members of a table, whatever its rows were merged into
pub record TellsTable (t : TableValue) (into : Option IntoValue) (j : Json) : Type 0 where
  pub format : get (codes "format") j ≡ Some (string (format_name t.format))
  pub time : get (codes "time") j ≡ Some (number_json t.time)
  pub merged : TellsInto j into
  pub octets : get (codes "octets") j ≡ Some (number_json t.octets)
  pub digest : get (codes "sha256") j ≡ Some (digest_json t.digest)
  pub rows : get (codes "rows") j ≡ Some (number_json t.rows)
  pub sums : get (codes "sums") j ≡ Some (list_json sum_json t.sums)
  pub flows : get (codes "flows") j ≡ Some (number_json t.flows)

merged_tells : (t : TableValue) (into : Option IntoValue) → TellsTable t into (object_of (form_members t ++ (into_members into ++ (text_members t ++ row_members t))))
merged_tells t None = record { format = refl; time = refl; merged = record { interval = refl; zone = refl }; octets = refl; digest = refl; rows = refl; sums = refl; flows = refl }
merged_tells t (Some into) = record { format = refl; time = refl; merged = record { interval = refl; zone = refl }; octets = refl; digest = refl; rows = refl; sums = refl; flows = refl }

pub table_tells : (j : Json) (t : TableValue) → j ≡ table_json t → TellsTable t t.into j
unfolding table_json
table_tells j t is = subst (TellsTable t t.into) (sym is) (merged_tells t t.into)

-- a receipt that names these inputs as left out
abbrev pub with_names : ReceiptValue → List (List ℕ) → Json → Json
with_names r names digest = object_of (
    (origin_members r
    ++ ((codes "inputs", list_json input_json r.inputs)
    ∷ (codes "records", counts_json r.records)
    ∷ (codes "table", table_json r.table)
    ∷ ending names r.complete))
    ++ (codes "sha256", digest) ∷ [])

-- its members, whatever these names are
pub record TellsReceipt (r : ReceiptValue) (names : List (List ℕ)) (j : Json) : Type 0 where
  pub collectd : get (codes "collectd") j ≡ Some (string r.collectd)
  pub plan : get (codes "plan") j ≡ Some (plan_json r.plan)
  pub elements : get (codes "elements") j ≡ Some (list_json file_json r.elements)
  pub maps : get (codes "maps") j ≡ Some (list_json file_json r.maps)
  pub inputs : get (codes "inputs") j ≡ Some (list_json input_json r.inputs)
  pub records : get (codes "records") j ≡ Some (counts_json r.records)
  pub table : get (codes "table") j ≡ Some (table_json r.table)
  pub left_out : TellsLeftOut j names
  pub complete : get (codes "complete") j ≡ Some (boolean r.complete)

tells_with : (r : ReceiptValue) (names : List (List ℕ)) (digest : Json) → TellsReceipt r names (with_names r names digest)
tells_with r [] digest = record { collectd = refl; plan = refl; elements = refl; maps = refl; inputs = refl; records = refl; table = refl; left_out = refl; complete = refl }
tells_with r (name ∷ names) digest = record { collectd = refl; plan = refl; elements = refl; maps = refl; inputs = refl; records = refl; table = refl; left_out = refl; complete = refl }

pub receipt_tells : (j : Json) (r : ReceiptValue) → j ≡ receipt_json r → TellsReceipt r r.left_out j
unfolding receipt_json
receipt_tells j r is = subst (TellsReceipt r r.left_out) (sym is) (tells_with r r.left_out (digest_json (sha256 (text_before r))))

-- a member of that name has them, by the list that it is
pub names_told : (j : Json) (items : List Json) (names : List (List ℕ)) → Some j ≡ left_out_json names → j ≡ array (items_of items) → items ≡ map string names
names_told j items [] is all = absurd (none-some j (sym is))
names_told j items (name ∷ names) is all = arrays_same items (map string (name ∷ names)) (sym all ∙ same_Some _ _ is)

-- and without one there are none
pub none_told : (names : List (List ℕ)) → None ≡ left_out_json names → [] ≡ names
none_told [] is = refl
none_told (name ∷ names) is = absurd (none-some _ is)

-- ---- the last members

pub none_named : (names : List (List ℕ)) → length names ≡ 0 → left_out_members names ≡ []
none_named [] none = refl
none_named (name ∷ names) none = absurd (omega arith)

pub some_named : (names : List (List ℕ)) → (length names ≡ 0 → ⊥) → left_out_members names ≡ (codes "left_out", list_json string names) ∷ []
some_named [] some = absurd (some refl)
some_named (name ∷ names) some = refl
