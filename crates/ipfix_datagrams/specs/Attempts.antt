-- One attempt to read a datagram, after templates are withdrawn and defined or none, and what is kept of those that were withdrawn.
use Rattle.std.specs.Prelude.{◌≡◌, ◌≢◌, ◌⊎◌, ◌==◌, ◌&&◌, ℕ, Bool, true, false, not, if◌then◌else◌, is_some, List, [], ◌∷◌, ◌++◌, filter, reverse, count_by, flat_map, Option, Some, None, option_map, Ok, Err, IsOk, Result, MatchOption, MatchResult}
use Rattle.std.specs.Global.{Vec}
use Rattle.std.specs.List.{find}
use Rattle.std.specs.Option.{option_or}
use Rattle.std.specs.Ordering.{nat_cmp}
use Rattle.std.specs.BTreeMap.{BTreeMap, get, values}
use Rattle.ipfix_message.specs.declared.fault.MessageFault.{MessageFault}
use Rattle.ipfix_message.specs.declared.fault.MessageFault.TheVariants.{OutOfMemory, TemplateChanged}
use Rattle.ipfix_message.specs.declared.record.Template.{Template}
use Rattle.ipfix_message.specs.declared.template_record.Event.{Event}
use Rattle.ipfix_message.specs.declared.template_record.Event.TheVariants.{Define}
use Rattle.ipfix_message.specs.TemplatesInForce.{in_force, is_other}
use Rattle.ipfix_message.specs.Alike.{knows}
use Rattle.ipfix_message.specs.Sets.{Set, sets_of}
use Rattle.ipfix_message.specs.TemplateLimits.{fields_of}
use Rattle.ipfix_session.specs.Ledger.{capped}
use Rattle.ipfix_message.specs.Domains.{ChangesNothing, DomainsView, History, Message, admit, events_in, message_gives}
use Rattle.ipfix_datagrams.specs.Datagrams.{are_sets_of_withdrawals, barred_in, dropped_by, events_of_set, is_withdrawal, MayChange, Preparation, Represents, Leaves, LeavesBy, definition_of, first_definition, given_after, replaced_by, Templates, template_of, unless_barred, with_defined, with_withdrawn}
use Rattle.ipfix_datagrams.specs.declared.definitions.Definitions.{Definitions}
use Rattle.ipfix_datagrams.specs.declared.withdrawn_template.WithdrawnTemplate.{WithdrawnTemplate}

-- the function answered a value of which P holds, or memory ran out
abbrev pub OrOutOfMemory : {X : Type 0} → Result X MessageFault → (X → Type 0) → Type 0
OrOutOfMemory result P = MatchResult result P (λ fault. fault ≡ OutOfMemory)

-- P holds, if there was memory
abbrev pub OkIfMemory : {X : Type 0} → Result X MessageFault → Type 0 → Type 0
OkIfMemory result P = OrOutOfMemory result (λ _. P)

-- it answered what is read next, as f says, or None where that can't be read; or memory ran out
abbrev pub ReadsNext : {X Y : Type 0} → Result (Option X) MessageFault → Result Y MessageFault → (X → Y) → Type 0
ReadsNext result next f = OrOutOfMemory result (λ o. MatchOption o ((fault : MessageFault) × (next ≡ Err fault)) (λ x. next ≡ Ok (f x)))

abbrev pub set_with : ℕ → List ℕ → Set
set_with id body = record { id = id; body = body }

-- ---- by the templates of a domain

-- the one in force that a template replaces, if it is another
abbrev pub replaced_at : Templates → Template → List WithdrawnTemplate
replaced_at before t = replaced_by t (template_of before t.id)

-- and those that first definitions replace
abbrev pub replaced_in : Templates → BTreeMap ℕ Template → List WithdrawnTemplate
replaced_in before first = flat_map (λ t. replaced_at before t) (values first)

-- the one in force for an id that has none, unless it is defined first; and so for each of these ids
abbrev pub dropped_at : BTreeMap ℕ Template → Templates → ℕ → List WithdrawnTemplate
dropped_at first before id = dropped_by (get nat_cmp first id) (template_of before id)

abbrev pub dropped_in : BTreeMap ℕ Template → Templates → List ℕ → List WithdrawnTemplate
dropped_in first before barred = flat_map (λ id. dropped_at first before id) barred

-- the one of those that were withdrawn that is defined again for an id of data sets: unless another is defined first, or the id has none
abbrev pub again_by : List ℕ → BTreeMap ℕ Template → BTreeMap ℕ Template → ℕ → Option Template
again_by barred withdrawn first id = unless_barred barred (get nat_cmp withdrawn id) (get nat_cmp first id) id

-- what the template of an id counts
abbrev pub fields_by : (ℕ → Option Template) → ℕ → Option ℕ
fields_by known id = option_map fields_of (known id)

-- ---- what a datagram defines

-- for each id the first and the last definition in these events, and how many withdrawals are among them
pub record Defines (d : Definitions) (es : List Event) : Type 0 where
  pub first : (id : ℕ) → get nat_cmp d.first id ≡ definition_of es id
  pub last : (id : ℕ) → get nat_cmp d.last id ≡ definition_of (reverse es) id
  pub withdrawals : d.withdrawals ≡ capped (count_by is_withdrawal es)

-- and so in the sets of these octets; and whether they are withdrawals alone
pub record Finds (d : Definitions) (w : List ℕ) : Type 0 where
  pub defines : Defines d (flat_map events_of_set (sets_of w).items)
  pub only : d.withdraws_only ≡ are_sets_of_withdrawals w

-- whatever events the old ones are of, the new ones are of those and more after them
abbrev pub Adds : Definitions → Definitions → List Event → Type 0
Adds old new more = (es : List Event) → Defines old es → Defines new (es ++ more)

-- whether all that was taken is withdrawals alone, after more, of which it is so or not
abbrev pub OnlyIf : Definitions → Definitions → Bool → Type 0
OnlyIf old new so = new.withdraws_only ≡ (so && old.withdraws_only)

-- the first definitions of a datagram
pub record HasFirst (first : BTreeMap ℕ Template) (m : List ℕ) : Type 0 where
  pub at : (id : ℕ) → get nat_cmp first id ≡ first_definition m id

-- ---- an attempt

-- at the id of a template none is in force, or the same
abbrev pub IsFree : List Event → Template → Type 0
IsFree es t = (in_force es t.id ≡ None) ⊎ (in_force es t.id ≡ Some t)

-- templates can be defined in turn after these events
abbrev pub CanDefine : List Event → List Template → Type 0
CanDefine es [] = Unit {0}
CanDefine es (t ∷ ts) = IsFree es t × CanDefine (Define t ∷ es) ts

-- whatever history domains stood for in which there is room and templates can be defined in turn, they stand for it with these; or
-- memory ran out
abbrev pub DefinesIn : {X : Type 0} → Result X MessageFault → DomainsView → DomainsView → ℕ → List Template → Type 0
DefinesIn result old new domain ts =
    (ds : History) → Represents old ds → IsOk (admit ds domain) → CanDefine (events_in ds domain) ts
    → OkIfMemory result (Represents new (with_defined ds domain ts))

-- templates were defined in turn, and the rest are still to be
pub record Defining (ds : History) (domain : ℕ) (all rest : List Template) (d : DomainsView) : Type 0 where
  pub now : History
  pub represents : Represents d now
  pub room : IsOk (admit now domain)
  pub can : CanDefine (events_in now domain) rest
  pub same : with_defined now domain rest ≡ with_defined ds domain all

abbrev pub nothing : Preparation
nothing = record { withdrawn = []; defined = [] }

-- none is withdrawn, or the domain has appeared
abbrev pub MayWithdraw : History → ℕ → List WithdrawnTemplate → Type 0
MayWithdraw ds domain ws = (ws ≡ []) ⊎ (knows ds domain ≡ true)

-- whatever history domains stood for in which templates may be withdrawn, they stand for it without these; or memory ran out
abbrev pub WithdrawsIn : {X : Type 0} → Result X MessageFault → DomainsView → DomainsView → ℕ → List WithdrawnTemplate → Type 0
WithdrawsIn result old new domain ws =
    (ds : History) → Represents old ds → MayWithdraw ds domain ws
    → OkIfMemory result (Represents new (with_withdrawn ds domain ws))

-- so it can be prepared in this domain, if there is room for that
abbrev pub CanPrepare : History → ℕ → Preparation → Type 0
CanPrepare ds domain p = MayWithdraw ds domain p.withdrawn × CanDefine (events_in (with_withdrawn ds domain p.withdrawn) domain) p.defined

-- the domains stand for a history, after which a datagram of a domain can be tried so
pub record CanAttempt (d : DomainsView) (ds : History) (domain : ℕ) (p : Preparation) : Type 0 where
  pub represents : Represents d ds
  pub room : IsOk (admit ds domain)
  pub can : CanPrepare ds domain p

-- it is read
pub record Reads (ds : History) (domain : ℕ) (p : Preparation) (m : List ℕ) (after : DomainsView) : Type 0 where
  pub given : Message
  pub domain_is : given.header.domain ≡ domain
  pub read : given_after ds domain p m ≡ Ok given
  pub leaves : Leaves after given

-- none is to be withdrawn, and it changes no template
abbrev pub IsPlain : Result Bool MessageFault → List WithdrawnTemplate → History → List ℕ → Type 0
IsPlain (Ok true) ws ds m = (ws ≡ []) × ChangesNothing ds m
IsPlain (Ok false) ws ds m = Unit {0}
IsPlain (Err f) ws ds m = (ws ≡ []) × (message_gives ds m ≡ Err f) × (f ≢ TemplateChanged)

-- it is read after the templates are withdrawn that it replaces, and none is defined
pub record FirstReads (barred : List ℕ) (ds : History) (domain : ℕ) (m : List ℕ) (ws : List WithdrawnTemplate) (after : Option DomainsView) : Type 0 where
  pub given : Message
  pub domain_is : given.header.domain ≡ domain
  pub changes : MayChange barred ds m domain ws
  pub read : message_gives (with_withdrawn ds domain ws) m ≡ Ok given
  pub leaves : LeavesBy after ds given

-- ---- templates that are resumed

-- by what is in force, what was withdrawn, and what a datagram defines first for the id of a template
abbrev pub is_open_by : Option Template → Option Template → Option Template → Template → Bool
is_open_by now withdrawn first t = not (is_some now) && (not (is_some withdrawn) && not (is_other t first))

-- the first such template for an id
abbrev pub resumed_by : (ℕ → Option Template) → (ℕ → Option Template) → (ℕ → Option Template) → List Template → ℕ → Option Template
resumed_by now withdrawn first ts id = find (λ t. (id == t.id) && is_open_by (now t.id) (withdrawn t.id) (first t.id) t) ts

-- by the templates of a domain
abbrev pub is_open_in : Templates → Templates → BTreeMap ℕ Template → Template → Bool
is_open_in now withdrawn first t = is_open_by (template_of now t.id) (template_of withdrawn t.id) (get nat_cmp first t.id) t

abbrev pub resumed_in : Templates → Templates → BTreeMap ℕ Template → List Template → ℕ → Option Template
resumed_in now withdrawn first ts id = resumed_by (λ q. template_of now q) (λ q. template_of withdrawn q) (get nat_cmp first) ts id

-- a template for its own id
abbrev pub at_own_id : Template → ℕ → Option Template
at_own_id t id = if id == t.id then Some t else None

-- and only if it is open
abbrev pub if_open : Bool → Template → ℕ → Option Template
if_open is_open t id = if is_open then at_own_id t id else None

-- these are put where none is
abbrev pub PutsOthers : BTreeMap ℕ Template → BTreeMap ℕ Template → (ℕ → Option Template) → Type 0
PutsOthers old new others = (id : ℕ) → get nat_cmp new id ≡ option_or (get nat_cmp old id) (others id)

-- ---- templates that were withdrawn

-- the templates that are not in force after a datagram among others
abbrev pub with_ended : Option Template → Option Template → Option Template → Option Template
with_ended now ended kept = if is_some now then kept else option_or ended kept

-- and so of each id, by those that are in force after it
abbrev pub PutsEnded : BTreeMap ℕ Template → BTreeMap ℕ Template → Templates → (ℕ → Option Template) → Type 0
PutsEnded old new after ended = (q : ℕ) → get nat_cmp new q ≡ with_ended (template_of after q) (ended q) (get nat_cmp old q)

-- ---- ids that have no template

-- the ids that none of these templates has
abbrev pub not_defined : BTreeMap ℕ Template → List ℕ → List ℕ
not_defined last ids = filter (λ id. not (is_some (get nat_cmp last id))) ids

-- in a domain those that have none change so, and in no other
abbrev pub ChangesBarred : BTreeMap ℕ (Vec ℕ) → BTreeMap ℕ (Vec ℕ) → ℕ → (List ℕ → List ℕ) → Type 0
ChangesBarred old new domain f = (q : ℕ) → barred_in new q ≡ (if q == domain then f (barred_in old q) else barred_in old q)

-- ---- what domains count

-- the entries of a map, or of another in its place
abbrev pub kept_entries : BTreeMap ℕ ℕ → Option (BTreeMap ℕ ℕ) → List (ℕ × ℕ)
kept_entries kept None = kept.entries
kept_entries kept (Some after) = after.entries
