-- A whole message: which of its octets are its header, its sets, the records in them, and padding (RFC 7011, section 3).
use Rattle.std.specs.Prelude.{◌≡◌, ◌≢◌, ℕ, ◌+◌, ◌<◌, ◌≤◌, Bool, true, false, if◌then◌else◌, All, List, [], ◌∷◌, ◌++◌, length, map, flat_map, count_by, Result, Ok, Err}
use Rattle.ipfix_wire.specs.InTurn.{InTurn}
use Rattle.ipfix_wire.specs.Numbers.{IsOctets}
use Rattle.ipfix_wire.specs.MessageHeader.{header_octets, IsHeader}
use Rattle.ipfix_wire.specs.declared.header.Header.{Header}
use Rattle.ipfix_wire.specs.declared.set.TheConstants.{TEMPLATE_SET_ID, OPTIONS_TEMPLATE_SET_ID, FIRST_TEMPLATE_ID}
use Rattle.ipfix_message.specs.Fields.{Field}
use Rattle.ipfix_message.specs.DataRecords.{IsBody, least, record_of}
use Rattle.ipfix_message.specs.Domains.{History, IsAnswer, Message, StandsFor, admit, events_in, with_events}
use Rattle.ipfix_message.specs.Sets.{Set, SpellsSet}
use Rattle.ipfix_message.specs.TemplateRecords.{IsTemplateSet, set_id_of}
use Rattle.ipfix_message.specs.TemplatesInForce.{IsInForce, is_ignored}
use Rattle.ipfix_message.specs.declared.fault.MessageFault.{MessageFault}
use Rattle.ipfix_message.specs.declared.fault.MessageFault.TheVariants.{OutOfMemory}
use Rattle.ipfix_message.specs.declared.message.Decoded.{Decoded}
use Rattle.ipfix_message.specs.declared.passed_over.PassedOver.{PassedOver}
use Rattle.ipfix_message.specs.declared.record.DataRecord.{DataRecord}
use Rattle.ipfix_message.specs.declared.record.Template.{Template}
use Rattle.ipfix_message.specs.declared.template_record.Event.{Event}
use Rattle.ipfix_message.specs.declared.template_record.Event.TheVariants.{Define, Withdraw, WithdrawAll}
use Rattle.ipfix_message.specs.declared.template_record.TemplateKind.{TemplateKind}

-- ---- what stands in a set

-- what a set holds: template records of a kind; the data records of a template, each as its fields; data records without a
-- template; or octets without a meaning
pub data Content : Type 0 where
  template_records : TemplateKind → List Event → Content
  data_records : Template → List (List Field) → Content
  unknown_set : Content
  skipped_set : Content

-- a definition is of the template that is in force for its id, if there is one (section 8.1)
abbrev pub KeepsTemplate : List Event → Event → Type 0
KeepsTemplate es (Define t) = (u : Template) → u.id ≡ t.id → IsInForce u es → t ≡ u
KeepsTemplate es (Withdraw kind id) = Unit {0}
KeepsTemplate es (WithdrawAll kind) = Unit {0}

-- each of these does so, after the events before it; earlier events, the es here and below, stand with the newest first
abbrev pub KeepTemplates : List Event → List Event → Type 0
KeepTemplates es [] = Unit {0}
KeepTemplates es (e ∷ more) = KeepsTemplate es e × KeepTemplates (e ∷ es) more

-- what stands in a set, after the earlier events of its domain:
-- under the id of a kind of template sets, template records one after another, and padding (sections 3.3.1, 3.3.2, 3.4.1 and
-- 3.4.2);
-- under the id of a template that is in force, its data records one after another, and padding that is shorter than a
-- record (sections 3.3.1 and 3.4.3);
-- under the id of a template that isn't in force, data records that can't be read (section 9);
-- and under another id octets that are skipped (section 3.3.2)
abbrev pub StandsIn : List Event → Set → Content → Type 0
StandsIn es s (template_records kind events) = (s.id ≡ set_id_of kind) × IsTemplateSet kind events s.body × KeepTemplates es events
StandsIn es s (data_records t rs) = (FIRST_TEMPLATE_ID ≤ s.id) × (t.id ≡ s.id) × IsInForce t es × IsBody t.specs rs s.body
StandsIn es s unknown_set = (FIRST_TEMPLATE_ID ≤ s.id) × ((t : Template) → t.id ≡ s.id → ¬ IsInForce t es)
StandsIn es s skipped_set = (s.id ≢ TEMPLATE_SET_ID) × (s.id ≢ OPTIONS_TEMPLATE_SET_ID) × (s.id < FIRST_TEMPLATE_ID)

-- the events that it brings
abbrev pub events_of : Content → List Event
events_of (template_records kind events) = events
events_of (data_records t rs) = []
events_of unknown_set = []
events_of skipped_set = []

-- events after others
abbrev pub behind : List Event → List Event → List Event
behind es [] = es
behind es (e ∷ more) = behind (e ∷ es) more

-- in each set this stands, after the events of the domain and of the sets before it
abbrev pub StandInTurn : List Event → List (Set × Content) → Type 0
StandInTurn es [] = Unit {0}
StandInTurn es (p ∷ more) = StandsIn es p.0 p.1 × StandInTurn (behind es (events_of p.1)) more

-- ---- a message

-- m is a message after the events of its domain: its header, whose length is that of the message (section 3.1), and to the
-- end one set after another (section 3.3), in which this stands
pub record IsMessage (es : List Event) (h : Header) (sets : List (Set × Content)) (m : List ℕ) : Type 0 where
  pub text : List ℕ
  pub octets : m ≡ header_octets h ++ text
  pub header : IsHeader h
  pub whole : h.length ≡ length m
  pub in_turn : InTurn SpellsSet (map (λ p. p.0) sets) text
  pub contents : StandInTurn es sets

-- an event that defines no template by which a record could have no octet
abbrev pub IsPositive : Event → Type 0
IsPositive (Define t) = 0 < least t.specs
IsPositive (Withdraw kind id) = Unit {0}
IsPositive (WithdrawAll kind) = Unit {0}

-- of any events that are so
abbrev pub ForPositiveEvents : (List Event → Type 0) → Type 0
ForPositiveEvents P = (es : List Event) → All IsPositive es → P es

-- ---- what it gives

-- the records of a set, with their domain, export time, template and scope
abbrev pub records_of : Header → Content → List DataRecord
records_of h (template_records kind events) = []
records_of h (data_records t rs) = map (record_of h t) rs
records_of h unknown_set = []
records_of h skipped_set = []

abbrev pub is_skipped : Content → Bool
is_skipped (template_records kind events) = false
is_skipped (data_records t rs) = false
is_skipped unknown_set = false
is_skipped skipped_set = true

abbrev pub is_unknown : Content → Bool
is_unknown (template_records kind events) = false
is_unknown (data_records t rs) = false
is_unknown unknown_set = true
is_unknown skipped_set = false

-- how many of the events are withdrawals of a template that isn't in force (section 8.1)
abbrev pub ignored_in : List Event → List Event → ℕ
ignored_in es [] = 0
ignored_in es (e ∷ more) = (if is_ignored es e then 1 else 0) + ignored_in (e ∷ es) more

-- of all sets of a message
abbrev pub all_events : List (Set × Content) → List Event
all_events sets = flat_map (λ p. events_of p.1) sets

abbrev pub all_records : Header → List (Set × Content) → List DataRecord
all_records h sets = flat_map (λ p. records_of h p.1) sets

-- what is passed over in them
abbrev pub passed_over : List Event → List (Set × Content) → PassedOver
passed_over es sets = record { skipped_sets = count_by (λ p. is_skipped p.1) sets; unknown_sets = count_by (λ p. is_unknown p.1) sets; ignored_withdrawals = ignored_in es (all_events sets) }

-- m is a message of a domain that the session has or that finds room in it; x has the records of its data sets, in their order,
-- the events of its template sets after those of the domain, and what is passed over
pub record IsReadAs (ds : History) (m : List ℕ) (x : Message) : Type 0 where
  pub known : History
  pub admitted : admit ds x.header.domain ≡ Ok known
  pub sets : List (Set × Content)
  pub message : IsMessage (events_in known x.header.domain) x.header sets m
  pub records : x.decoding.records ≡ all_records x.header sets
  pub events : x.decoding.events ≡ behind (events_in known x.header.domain) (all_events sets)
  pub passed : x.decoding.passed_over ≡ passed_over (events_in known x.header.domain) sets
  pub domains : x.domains ≡ with_events known x.header.domain x.decoding.events

-- of any octets after what the session has, and of any message
abbrev pub ForMessages : (History → List ℕ → Message → Type 0) → Type 0
ForMessages P = (ds : History) (m : List ℕ) (x : Message) → IsOctets m → P ds m x

-- ---- what `decode` answers

-- the templates that it keeps: those of each domain, by their ids
abbrev pub Kept : Type 0
Kept = List (ℕ × List (ℕ × Template))

-- it answers x and keeps the templates that are in force after it, unless memory runs out
abbrev pub Answers : Message → Result Decoded MessageFault → Kept → Type 0
Answers x (Ok decoded) kept = IsAnswer decoded x × StandsFor kept x.domains
Answers x (Err fault) kept = fault ≡ OutOfMemory
