-- What the datagrams of a peer give (RFC 7011, sections 8.1 and 8.4). Over UDP a definition replaces an older one of its id, and a
-- withdrawal is ignored. A datagram of withdrawals alone is not kept. In the files, which are read by the rules of a connection, a withdrawal ends its template.
use Rattle.std.specs.Prelude.{◌≡◌, ◌≢◌, ◌⊎◌, ◌==◌, ◌&&◌, ◌||◌, ◌+◌, ◌<◌, ◌≤◌, ℕ, Bool, false, true, nat_eq, nat_lt, not, is_some, is_ok, List, [], ◌∷◌, map, ◌++◌, filter, reverse, length, drop, count_by, flat_map, sum, if◌then◌else◌, Option, Some, None, option_copied, option_map, unwrap_or, Ok, Err, All, Contains}
use Rattle.std.specs.Option.{option_and_then, option_or}
use Rattle.std.specs.Borrow.{Bor}
use Rattle.std.specs.Global.{Vec}
use Rattle.std.specs.List.{IsDistinct, find, list_all, list_any}
use Rattle.std.specs.List.Sorted.{IsStrictlySortedBy}
use Rattle.std.specs.Map.{keys_of, lookup, values_of}
use Rattle.std.specs.Ordering.{nat_cmp, eq_by_cmp}
use Rattle.std.specs.BTreeMap.{BTreeMap, get, values}
use Rattle.ipfix_wire.specs.declared.header.Header.{Header}
use Rattle.ipfix_wire.specs.declared.header.TheConstants.{HEADER_LENGTH}
use Rattle.ipfix_wire.specs.declared.set.TheConstants.{TEMPLATE_SET_ID, OPTIONS_TEMPLATE_SET_ID}
use Rattle.ipfix_message.specs.declared.fault.MessageFault.{MessageFault}
use Rattle.ipfix_message.specs.declared.fault.MessageFault.TheVariants.{TemplateChanged, OutOfMemory}
use Rattle.ipfix_message.specs.declared.record.Template.{Template}
use Rattle.ipfix_message.specs.declared.template_record.TemplateKind.{TemplateKind}
use Rattle.ipfix_message.specs.declared.template_record.TemplateKind.TheVariants.{Plain, Options}
use Rattle.ipfix_message.specs.declared.template_record.Event.{Event}
use Rattle.ipfix_message.specs.declared.template_record.Event.TheVariants.{Define, Withdraw, WithdrawAll}
use Rattle.ipfix_message.specs.Outcome.{Read}
use Rattle.ipfix_message.specs.TemplateRecords.{events_of, is_padding}
use Rattle.ipfix_message.specs.TemplatesInForce.{in_force, is_of, is_other, same_template}
use Rattle.ipfix_message.specs.Sets.{Set, sets_of}
use Rattle.ipfix_message.specs.Domains.{DomainsView, History, Message, StandsFor, events_in, with_events, template_for, message_header, message_gives}
use Rattle.ipfix_message.specs.Alike.{knows}
use Rattle.ipfix_message.specs.TemplateLimits.{fields_of}
use Rattle.ipfix_message.specs.declared.template_limit.TheConstants.{DOMAIN_FIELDS}
use Rattle.ipfix_session.specs.Ledger.{capped}
use Rattle.ipfix_datagrams.specs.Withdrawals.{HasTemplateId, kind_withdrawn}
use Rattle.ipfix_datagrams.specs.declared.withdrawn_template.WithdrawnTemplate.{WithdrawnTemplate}
use Rattle.ipfix_datagrams.specs.declared.reading.DatagramReading.{DatagramReading}
use Rattle.ipfix_datagrams.specs.declared.reading.Reading.{Reading}
use Rattle.ipfix_datagrams.specs.declared.reading.Reading.TheVariants.{Ignored, TooMuch, Kept}
use Rattle.ipfix_datagrams.specs.declared.known_templates.KnownTemplates.{KnownTemplates}

-- ---- definitions

-- the first definition of an id in events, where withdrawals are skipped
unfoldable pub definition_of : List Event → ℕ → Option Template
definition_of [] id = None
definition_of (Define t ∷ es) id = if id == t.id then Some t else definition_of es id
definition_of (Withdraw kind i ∷ es) id = definition_of es id
definition_of (WithdrawAll kind ∷ es) id = definition_of es id

-- the template that is known over UDP for an id in a domain: its last definition in the files. The newest event of a domain stands
-- first
abbrev pub known_in : History → ℕ → ℕ → Option Template
known_in ds domain id = definition_of (events_in ds domain) id

-- a template, unless one is in force
abbrev pub unless_some : Option Template → Option Template → Option Template
unless_some now t = if is_some now then None else t

-- a template that is known over UDP, and that a withdrawal ended in the files
abbrev pub withdrawn_in : History → ℕ → ℕ → Option Template
withdrawn_in ds domain id = unless_some (template_for ds domain id) (known_in ds domain id)

-- the events of a set: those of its template records
abbrev pub events_of_set : Set → List Event
events_of_set s =
    if s.id == TEMPLATE_SET_ID then (events_of Plain s.body).items
    else if s.id == OPTIONS_TEMPLATE_SET_ID then (events_of Options s.body).items
    else []

-- the events of a datagram, in the order of its octets
abbrev pub events_of_message : List ℕ → List Event
events_of_message m = flat_map events_of_set (sets_of (drop HEADER_LENGTH m)).items

-- ---- withdrawals

abbrev pub is_withdrawal : Event → Bool
is_withdrawal (Define t) = false
is_withdrawal (Withdraw kind id) = true
is_withdrawal (WithdrawAll kind) = true

-- how many withdrawals a datagram has
abbrev pub withdrawals_in : List ℕ → ℕ
withdrawals_in m = count_by is_withdrawal (events_of_message m)

-- the body of a template set is read without a fault, and each of its template records is a withdrawal
abbrev pub are_withdrawals : TemplateKind → List ℕ → Bool
are_withdrawals kind body = list_all is_withdrawal (events_of kind body).items && is_padding (events_of kind body).rest

-- a set is such a template set or options template set
abbrev pub is_withdrawing : Set → Bool
is_withdrawing s =
    if s.id == TEMPLATE_SET_ID then are_withdrawals Plain s.body
    else if s.id == OPTIONS_TEMPLATE_SET_ID then are_withdrawals Options s.body
    else false

-- these octets are such sets
abbrev pub are_sets_of_withdrawals : List ℕ → Bool
are_sets_of_withdrawals w = list_all is_withdrawing (sets_of w).items && (length (sets_of w).rest == 0)

-- a datagram of withdrawals alone: its header can be read, all that follows is such sets, and there is a withdrawal. Such a datagram
-- is ignored, and any other is kept or refused
abbrev pub withdraws_only : List ℕ → Bool
withdraws_only m = is_ok (message_header m) && are_sets_of_withdrawals (drop HEADER_LENGTH m) && nat_lt 0 (withdrawals_in m)

-- ---- its definitions

-- it defines a template
abbrev pub defines_template : List ℕ → Bool
defines_template m = list_any (λ e. not (is_withdrawal e)) (events_of_message m)

-- its first definition of an id, and its last
abbrev pub first_definition : List ℕ → ℕ → Option Template
first_definition m id = definition_of (events_of_message m) id

abbrev pub last_definition : List ℕ → ℕ → Option Template
last_definition m id = definition_of (reverse (events_of_message m)) id

-- these are the templates that f has at their ids, and no others, in the order of the ids
pub record AreTemplatesOf (f : ℕ → Option Template) (ts : List Template) : Type 0 where
  pub each : All (λ t. f t.id ≡ Some t) ts
  pub all : (t : Template) → f t.id ≡ Some t → Contains ts t
  pub ascending : IsStrictlySortedBy nat_cmp (map (λ t. t.id) ts)

-- ---- templates that are replaced

-- a template is withdrawn in a domain of a peer
abbrev pub with_one_withdrawn : History → ℕ → WithdrawnTemplate → History
with_one_withdrawn ds domain w = with_events ds domain (Withdraw (kind_withdrawn w) w.id ∷ events_in ds domain)

-- and templates in turn
abbrev pub with_withdrawn : History → ℕ → List WithdrawnTemplate → History
with_withdrawn ds domain [] = ds
with_withdrawn ds domain (w ∷ ws) = with_withdrawn (with_one_withdrawn ds domain w) domain ws

-- what a template replaces: the one in force for its id, if that is another
abbrev pub replaced_by : Template → Option Template → List WithdrawnTemplate
replaced_by t None = []
replaced_by t (Some u) = if same_template t u then [] else record { id = t.id; is_options = is_of Options u } ∷ []

abbrev pub replaced : List Event → List Template → List WithdrawnTemplate
replaced es ts = flat_map (λ t. replaced_by t (in_force es t.id)) ts

-- ---- ids that have no template

-- an id that has none keeps none before and in a datagram that doesn't define it
abbrev pub is_barred : List ℕ → Option Template → ℕ → Bool
is_barred barred first id = list_any (λ b. b == id) barred && not (is_some first)

-- what is in force for such an id, by the first definition of the id
abbrev pub dropped_by : Option Template → Option Template → List WithdrawnTemplate
dropped_by (Some t) now = []
dropped_by None None = []
dropped_by None (Some u) = record { id = u.id; is_options = is_of Options u } ∷ []

-- those are withdrawn before a datagram that are in force for ids that have no template
abbrev pub dropped : List ℕ → History → List ℕ → ℕ → List WithdrawnTemplate
dropped barred ds m domain = flat_map (λ id. dropped_by (first_definition m id) (in_force (events_in ds domain) id)) barred

abbrev pub without_barred : List ℕ → History → List ℕ → ℕ → History
without_barred barred ds m domain = with_withdrawn ds domain (dropped barred ds m domain)

-- a datagram defines a template otherwise than it is in force; then those in force are withdrawn, too, that its first definitions
-- replace, and no others
pub record Changes (barred : List ℕ) (ds : History) (m : List ℕ) (domain : ℕ) (ws : List WithdrawnTemplate) : Type 0 where
  pub changed : message_gives (without_barred barred ds m domain) m ≡ Err TemplateChanged
  pub templates : List Template
  pub are_first : AreTemplatesOf (first_definition m) templates
  pub are : ws ≡ dropped barred ds m domain ++ replaced (events_in ds domain) templates

-- and before any other none of these is
abbrev pub MayChange : List ℕ → History → List ℕ → ℕ → List WithdrawnTemplate → Type 0
MayChange barred ds m domain ws = (ws ≡ dropped barred ds m domain) ⊎ Changes barred ds m domain ws

-- ---- templates that are defined again

-- with a domain among them
abbrev pub with_domain : History → ℕ → History
with_domain ds domain = if knows ds domain then ds else ds ++ (domain, []) ∷ []

-- a template is defined in a domain of a peer, which appears with it if it has not yet
abbrev pub with_one_defined : History → ℕ → Template → History
with_one_defined ds domain t = with_events (with_domain ds domain) domain (Define t ∷ events_in ds domain)

-- and templates in turn
abbrev pub with_defined : History → ℕ → List Template → History
with_defined ds domain [] = ds
with_defined ds domain (t ∷ ts) = with_defined (with_one_defined ds domain t) domain ts

-- a message has a data set of this id
abbrev pub has_data_set : List ℕ → ℕ → Bool
has_data_set m id = list_any (λ s. id == s.id) (sets_of (drop HEADER_LENGTH m)).items

-- a template, unless another is defined
abbrev pub unless_other : Option Template → Option Template → Option Template
unless_other None o = None
unless_other (Some t) o = if is_other t o then None else Some t

-- and unless the id has none
abbrev pub unless_barred : List ℕ → Option Template → Option Template → ℕ → Option Template
unless_barred barred o first id = if is_barred barred first id then None else unless_other o first

-- what is defined again for an id before a datagram: the template that was withdrawn in the files, if the datagram has data sets of
-- the id, and doesn't define it otherwise, and the id has a template
abbrev pub again : List ℕ → History → List ℕ → ℕ → ℕ → Option Template
again barred ds m domain id = if has_data_set m id then unless_barred barred (withdrawn_in ds domain id) (first_definition m id) id else None

-- ---- templates that are resumed

-- the files define none for the id of a template, and the datagram doesn't first define it otherwise
abbrev pub is_open : History → List ℕ → ℕ → Template → Bool
is_open ds m domain t = not (is_some (known_in ds domain t.id)) && not (is_other t (first_definition m t.id))

-- what is resumed for an id before a datagram: the first such template of those that an earlier run left
abbrev pub resumed_before : List Template → History → List ℕ → ℕ → ℕ → Option Template
resumed_before resumed ds m domain id = find (λ t. (id == t.id) && is_open ds m domain t) resumed

-- what is known of the domain of a datagram beside what the files define: the templates that are resumed before it, and the ids that
-- have no template
pub record Basis : Type 0 where
  pub resumed : List Template
  pub barred : List ℕ

-- what is defined for an id before a datagram: again, or since it is resumed
abbrev pub defined_before : Basis → History → List ℕ → ℕ → ℕ → Option Template
defined_before basis ds m domain id = option_or (again basis.barred ds m domain id) (resumed_before basis.resumed ds m domain id)

-- ---- a datagram

-- what is done before a datagram is read: templates are withdrawn, and then others defined again
pub record Preparation : Type 0 where
  pub withdrawn : List WithdrawnTemplate
  pub defined : List Template

abbrev pub preparation_by : List WithdrawnTemplate → BTreeMap ℕ Template → Preparation
preparation_by ws ts = record { withdrawn = ws; defined = values ts }

-- the domains after it
abbrev pub prepared : History → ℕ → Preparation → History
prepared ds domain p = with_defined (with_withdrawn ds domain p.withdrawn) domain p.defined

-- and what a datagram gives then
abbrev pub given_after : History → ℕ → Preparation → List ℕ → Read Message
given_after ds domain p m = message_gives (prepared ds domain p) m

-- before a datagram those are withdrawn that it replaces, after which it is read; and others are defined again or resumed
pub record IsPrepared (basis : Basis) (ds : History) (m : List ℕ) (p : Preparation) (first : Message) : Type 0 where
  pub changes : MayChange basis.barred ds m first.header.domain p.withdrawn
  pub read : message_gives (with_withdrawn ds first.header.domain p.withdrawn) m ≡ Ok first
  pub again : AreTemplatesOf (defined_before basis ds m first.header.domain) p.defined

-- a datagram is taken: it is read after that
pub record IsTaken (basis : Basis) (ds : History) (m : List ℕ) (p : Preparation) (x : Message) : Type 0 where
  pub kept : withdraws_only m ≡ false
  pub first : Message
  pub is_prepared : IsPrepared basis ds m p first
  pub read : given_after ds first.header.domain p m ≡ Ok x

-- why it is refused: the fault of its header; the fault of its message, where ids have no template; where that is a changed template, the
-- fault that it has after those that it replaces are withdrawn
abbrev pub FailsPlainly : List ℕ → History → List ℕ → Read Header → MessageFault → Type 0
FailsPlainly barred ds m (Ok h) f = (message_gives (without_barred barred ds m h.domain) m ≡ Err f) × (f ≢ TemplateChanged)
FailsPlainly barred ds m (Err fault) f = f ≡ fault

pub record FailsChanged (barred : List ℕ) (ds : History) (m : List ℕ) (f : MessageFault) : Type 0 where
  pub header : Header
  pub is_header : message_header m ≡ Ok header
  pub withdrawn : List WithdrawnTemplate
  pub changes : Changes barred ds m header.domain withdrawn
  pub fault : message_gives (with_withdrawn ds header.domain withdrawn) m ≡ Err f

-- or the fault that it has after templates are defined before it
pub record FailsAgain (basis : Basis) (ds : History) (m : List ℕ) (f : MessageFault) : Type 0 where
  pub preparation : Preparation
  pub first : Message
  pub is_prepared : IsPrepared basis ds m preparation first
  pub fault : given_after ds first.header.domain preparation m ≡ Err f

abbrev pub HasFault : Basis → History → List ℕ → MessageFault → Type 0
HasFault basis ds m f = FailsPlainly basis.barred ds m (message_header m) f ⊎ (FailsChanged basis.barred ds m f ⊎ FailsAgain basis ds m f)

abbrev pub IsRefused : Basis → History → List ℕ → MessageFault → Type 0
IsRefused basis ds m f = (f ≡ OutOfMemory) ⊎ ((withdraws_only m ≡ false) × HasFault basis ds m f)

-- ---- what is answered and kept

-- the domains are of use, and stand for a history
pub record Represents (d : DomainsView) (ds : History) : Type 0 where
  pub fresh : d.spent ≡ false
  pub stands : StandsFor d.domains ds

-- these domains have the templates that a message leaves
pub record Leaves (d : DomainsView) (x : Message) : Type 0 where
  pub history : History
  pub represents : Represents d history
  pub same : (id : ℕ) → template_for history x.header.domain id ≡ in_force x.decoding.events id

-- and so if they are there; else all domains stay as they are
abbrev pub LeavesBy : Option DomainsView → History → Message → Type 0
LeavesBy None ds x = x.domains ≡ ds
LeavesBy (Some d) ds x = Leaves d x

-- what an answer says of the preparation
abbrev pub preparation_of : DatagramReading → Preparation
preparation_of r = preparation_by r.withdrawn.items r.defined

-- exactly these templates, by id, are defined before a datagram
abbrev pub AreDefinedBefore : Basis → History → List ℕ → ℕ → BTreeMap ℕ Template → Type 0
AreDefinedBefore basis ds m domain defined = (id : ℕ) → get nat_cmp defined id ≡ defined_before basis ds m domain id

-- an answer says how a datagram is taken and what is defined before it, what it leaves, what it defines last for each id, and how many
-- withdrawals it has
pub record IsReadingOf (basis : Basis) (ds : History) (m : List ℕ) (r : DatagramReading) (x : Message) : Type 0 where
  pub taken : IsTaken basis ds m (preparation_of r) x
  pub before : AreDefinedBefore basis ds m x.header.domain r.defined
  pub leaves : LeavesBy r.after ds x
  pub defines : (id : ℕ) → get nat_cmp r.definitions id ≡ last_definition m id
  pub withdrawals : r.withdrawals ≡ capped (withdrawals_in m)

-- ---- what templates count, and the budget that a peer has for them

-- a domain counts 16 and the templates that are known in it over UDP, each once, as in a session
pub record Weighs (n : ℕ) (ds : History) (domain : ℕ) : Type 0 where
  pub counts : List (ℕ × ℕ)
  pub ascending : IsStrictlySortedBy nat_cmp (keys_of counts)
  pub at : (id : ℕ) → lookup (eq_by_cmp nat_cmp id) counts ≡ option_map fields_of (known_in ds domain id)
  pub is : n ≡ DOMAIN_FIELDS + sum (values_of counts)

-- what a domain counts, if it has appeared
abbrev pub WeighsIf : Option ℕ → History → ℕ → Type 0
WeighsIf None ds domain = knows ds domain ≡ false
WeighsIf (Some n) ds domain = (knows ds domain ≡ true) × Weighs n ds domain

-- what each domain counts
pub record AreWeighed (ws : List (ℕ × ℕ)) (ds : History) : Type 0 where
  pub ascending : IsStrictlySortedBy nat_cmp (keys_of ws)
  pub at : (domain : ℕ) → WeighsIf (lookup (eq_by_cmp nat_cmp domain) ws) ds domain

-- all count no more than a budget
pub record Fits (budget : ℕ) (ws : List (ℕ × ℕ)) (ds : History) : Type 0 where
  pub weighed : AreWeighed ws ds
  pub within : sum (values_of ws) ≤ budget

-- or they count more: one domain by itself, or all together
pub record OneExceeds (budget : ℕ) (ds : History) : Type 0 where
  pub domain : ℕ
  pub weight : ℕ
  pub weighs : Weighs weight ds domain
  pub above : budget < weight

pub record AllExceed (budget : ℕ) (ds : History) : Type 0 where
  pub weights : List (ℕ × ℕ)
  pub weighed : AreWeighed weights ds
  pub above : budget < sum (values_of weights)

abbrev pub Exceeds : ℕ → History → Type 0
Exceeds budget ds = OneExceeds budget ds ⊎ AllExceed budget ds

-- a datagram changes what is known for an id: it defines another template last
abbrev pub is_changed_by : Option Template → Option Template → Bool
is_changed_by None known = false
is_changed_by (Some t) known = is_other t known

abbrev pub is_changed : History → List ℕ → ℕ → ℕ → Bool
is_changed ds m domain id = is_changed_by (last_definition m id) (known_in ds domain id)

-- it would be taken, but what would be known then counts more than the budget; these are the ids for which it would change what is
-- known
pub record IsTooMuch (basis : Basis) (budget : ℕ) (ds : History) (m : List ℕ) (changed : List ℕ) : Type 0 where
  pub preparation : Preparation
  pub given : Message
  pub taken : IsTaken basis ds m preparation given
  pub exceeds : Exceeds budget given.domains
  pub are_changed : (id : ℕ) → list_any (λ q. q == id) changed ≡ is_changed ds m given.header.domain id

-- what each domain counts after a datagram: this, if it is there, or what it did
abbrev pub WeighAfter : Option (BTreeMap ℕ ℕ) → ℕ → History → History → Type 0
WeighAfter None budget ds after = after ≡ ds
WeighAfter (Some ws) budget ds after = Fits budget ws.entries after

-- a datagram is ignored, and so many withdrawals with it; or it is refused for what it defines; or it is taken, and what is known then
-- is within the budget
abbrev pub Answers : Basis → ℕ → History → List ℕ → Reading → Type 0
Answers basis budget ds m (Ignored withdrawals) = (withdraws_only m ≡ true) × (withdrawals ≡ capped (withdrawals_in m))
Answers basis budget ds m (TooMuch changed) = IsTooMuch basis budget ds m changed.items
Answers basis budget ds m (Kept r) = (x : Message) × IsReadingOf basis ds m r x × WeighAfter r.weights budget ds x.domains

-- what is withdrawn before it are ids that templates have
abbrev pub HasTemplateIds : Reading → Type 0
HasTemplateIds (Ignored withdrawals) = Unit {0}
HasTemplateIds (TooMuch changed) = Unit {0}
HasTemplateIds (Kept r) = All HasTemplateId r.withdrawn.items

-- the template for an id in a domain's templates, if the domain has any
abbrev pub template_in : Option (BTreeMap ℕ Template) → ℕ → Option Template
template_in templates id = option_and_then (λ t. get nat_cmp t id) templates

-- and in those that are lent to a function
abbrev pub Templates : Type 0
Templates = Option (Bor (BTreeMap ℕ Template))

abbrev pub template_of : Templates → ℕ → Option Template
template_of templates id = template_in (option_copied templates) id

-- the one that is kept of a domain for an id
abbrev pub template_at : BTreeMap ℕ (BTreeMap ℕ Template) → ℕ → ℕ → Option Template
template_at kept domain id = template_in (get nat_cmp kept domain) id

-- those are kept that are known over UDP, and that the files don't have in force
pub record KeepsWithdrawn (kept : BTreeMap ℕ (BTreeMap ℕ Template)) (ds : History) : Type 0 where
  pub at : (domain id : ℕ) → template_at kept domain id ≡ withdrawn_in ds domain id

-- ---- what is kept beside the files

-- the ids of a domain that have no template
abbrev pub barred_in : BTreeMap ℕ (Vec ℕ) → ℕ → List ℕ
barred_in barred domain = unwrap_or (option_map (λ v. v.items) (get nat_cmp barred domain)) []

-- the templates that are known over UDP and that the files don't have in force, and what all that are known count, within the budget
pub record KeepsKnown (k : KnownTemplates) (ds : History) : Type 0 where
  pub withdrawn : KeepsWithdrawn k.withdrawn ds
  pub fits : Fits k.budget k.weights.entries ds

-- a fact of a history for which domains stand, and beside which that is kept
abbrev pub IfOf : DomainsView → KnownTemplates → History → Type 0 → Type 0
IfOf domains k ds P = Represents domains ds → KeepsKnown k ds → P

-- what is known beside the files, with these templates of an earlier run, and these ids that have none
abbrev pub basis_of : BTreeMap ℕ Template → List ℕ → Basis
basis_of resumed barred = record { resumed = values resumed; barred = barred }

-- an id has a template again that a datagram defines
abbrev pub barred_after : List ℕ → List ℕ → List ℕ
barred_after barred m = filter (λ id. not (is_some (last_definition m id))) barred

-- each id that has none is listed once
abbrev pub AreOnce : (ℕ → List ℕ) → Type 0
AreOnce barred = (domain : ℕ) → IsDistinct nat_eq (barred domain)

-- these ids of a domain have no template from now on, and nothing else has changed
pub record Bars (old new : KnownTemplates) (domain : ℕ) (ids : List ℕ) : Type 0 where
  pub others : new ≡ record old { barred = new.barred }
  pub once : AreOnce (barred_in old.barred) → AreOnce (barred_in new.barred)
  pub barred : (q id : ℕ) → list_any (λ b. b == id) (barred_in new.barred q) ≡ (list_any (λ b. b == id) (barred_in old.barred q) || ((q == domain) && list_any (λ b. b == id) ids))
