-- What the maps and counters of the code stand for while a message is read.
use Rattle.std.specs.Prelude.{◌≡◌, ◌≢◌, ℕ, ◌+◌, ◌==◌, Bool, true, false, if◌then◌else◌, List, ◌++◌, map, Option, Result, Ok, Err, IsOk, MatchResult}
use Rattle.std.specs.BTreeMap.{BTreeMap, get}
use Rattle.std.specs.Map.{lookup}
use Rattle.std.specs.Ordering.{nat_cmp, eq_by_cmp}
use Rattle.ipfix_wire.specs.declared.header.Header.{Header}
use Rattle.ipfix_wire.specs.declared.specifier.Spec.{Spec}
use Rattle.ipfix_message.specs.declared.fault.MessageFault.{MessageFault}
use Rattle.ipfix_message.specs.declared.fault.MessageFault.TheVariants.{RecordCut, TemplateChanged}
use Rattle.ipfix_message.specs.declared.record.DataRecord.{DataRecord}
use Rattle.ipfix_message.specs.declared.record.Template.{Template}
use Rattle.ipfix_message.specs.declared.template_record.Event.{Event}
use Rattle.ipfix_message.specs.declared.message.Decoded.{Decoded}
use Rattle.ipfix_message.specs.DataRecords.{records_of_body, record_of}
use Rattle.ipfix_message.specs.Outcome.{Read, Fails, map_read}
use Rattle.ipfix_message.specs.TemplatesInForce.{in_force, is_other}
use Rattle.ipfix_message.specs.Messages.{Decoding, set_gives, sets_from}
use Rattle.ipfix_message.specs.Sets.{Set}
use Rattle.ipfix_message.specs.Domains.{History, StandsFor, passed_over_of}

-- what the entries of a map have at an id
abbrev pub template_in : List (ℕ × Template) → ℕ → Option Template
template_in entries id = lookup (eq_by_cmp nat_cmp id) entries

-- the entries stand for the events of a domain: at each id they have the template in force
pub record Agrees (entries : List (ℕ × Template)) (es : List Event) : Type 0 where
  pub at : (id : ℕ) → template_in entries id ≡ in_force es id

-- the templates of a map are those that are in force after the events of a domain
abbrev pub MapAgrees : BTreeMap ℕ Template → List Event → Type 0
MapAgrees templates es = Agrees templates.entries es

-- P holds after all events after which the templates of a map are in force
abbrev pub ForEvents : BTreeMap ℕ Template → (List Event → Type 0) → Type 0
ForEvents templates P = (es : List Event) → MapAgrees templates es → P es

-- a map has at an id what f makes of what it had there, and is the same elsewhere
abbrev pub ChangesAt : ℕ → (Option Template → Option Template) → BTreeMap ℕ Template → BTreeMap ℕ Template → Type 0
ChangesAt id f old new = (q : ℕ) → get nat_cmp new q ≡ (if q == id then f (get nat_cmp old q) else get nat_cmp old q)

-- defining t where a template is in force, or none
abbrev pub defining : Template → Option Template → Read (Unit {0})
defining t o = if is_other t o then Err TemplateChanged else Ok tt

-- a template set that was taken: the count of ignored withdrawals, and entries that stand for the events after it
abbrev pub Updates : Result ℕ MessageFault → List (ℕ × Template) → Read (List Event × ℕ) → Type 0
Updates (Ok n) entries read = (es : List Event) × (read ≡ Ok (es, n)) × Agrees entries es
Updates (Err e) entries read = Fails e read

-- entries and the answer so far stand for what was read
pub record Holds (entries : List (ℕ × Template)) (decoded : Decoded) (d : Decoding) : Type 0 where
  pub templates : Agrees entries d.events
  pub records : decoded.records.items ≡ d.records
  pub passed_over : passed_over_of decoded ≡ d.passed_over

-- a function answered Ok and what it leaves stands for what was read, or it failed as reading does
abbrev pub Reaches : Result (Unit {0}) MessageFault → List (ℕ × Template) → Decoded → Read Decoding → Type 0
Reaches (Ok x) entries decoded read = (d : Decoding) × (read ≡ Ok d) × Holds entries decoded d
Reaches (Err e) entries decoded read = Fails e read

-- the three counts together
abbrev pub counted : Decoded → ℕ
counted decoded = decoded.skipped_sets + decoded.unknown_sets + decoded.ignored_withdrawals

-- a function answered Ok and what is kept now stands for the history that was read, or it failed as reading does
abbrev pub Admits : Result (Unit {0}) MessageFault → List (ℕ × List (ℕ × Template)) → Read History → Type 0
Admits (Ok x) kept read = (ds : History) × (read ≡ Ok ds) × StandsFor kept ds
Admits (Err e) kept read = Fails e read

-- records, and then those of the body of a data set
abbrev pub extended : List DataRecord → Header → Template → List ℕ → Read (List DataRecord)
extended records h t body = map_read (λ more. records ++ map (record_of h t) more) (records_of_body t.specs body)

-- ---- sets that are only checked

-- the body of a data set can be read, or its last record is cut
abbrev pub ChecksBody : Result (Unit {0}) MessageFault → List Spec → List ℕ → Type 0
ChecksBody result specs body =
    MatchResult result (λ _. IsOk (records_of_body specs body)) (λ fault. (fault ≡ RecordCut) × (records_of_body specs body ≡ Err fault))

-- what is read leaves the events as they are; or it fails so, and not since a template changed
abbrev pub Checks : Result (Unit {0}) MessageFault → Decoding → Read Decoding → Type 0
Checks (Ok x) d read = (e : Decoding) × (read ≡ Ok e) × (e.events ≡ d.events)
Checks (Err f) d read = (read ≡ Err f) × (f ≢ TemplateChanged)

-- a set, after all events after which these templates are in force
abbrev pub ChecksSet : List (ℕ × Template) → Set → Result (Unit {0}) MessageFault → Type 0
ChecksSet entries s result = (h : Header) (d : Decoding) → Agrees entries d.events → Checks result d (set_gives h d s)

-- sets in turn, up to a template set
abbrev pub ChecksUpTo : Result Bool MessageFault → Decoding → Read Decoding → Type 0
ChecksUpTo (Ok true) d read = Checks (Ok tt) d read
ChecksUpTo (Ok false) d read = Unit {0}
ChecksUpTo (Err f) d read = Checks (Err f) d read

-- the same of the sets that a text begins with
abbrev pub ChecksSets : List (ℕ × Template) → List ℕ → Result Bool MessageFault → Type 0
ChecksSets entries w result = (h : Header) (d : Decoding) → Agrees entries d.events → ChecksUpTo result d (sets_from h d w)
