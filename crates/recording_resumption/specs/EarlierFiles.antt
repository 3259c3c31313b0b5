-- A file of an earlier run, read by itself as a session: its report, its templates, and the last message of each domain.
use Rattle.std.specs.Prelude.{◌≡◌, ℕ, false, List, length, nat_eq, Option, Some, None, IfSome, IsSome}
use Rattle.std.specs.Ordering.{nat_cmp}
use Rattle.std.specs.BTreeMap.{BTreeMap, get as get_at}
use Rattle.indexmap.specs.IndexMap.{IndexMap, get}
use Rattle.ipfix_message.specs.Domains.{DomainsView, IfUnspent, template_for}
use Rattle.ipfix_message.specs.declared.record.Template.{Template}
use Rattle.ipfix_session.specs.Faults.{end_of}
use Rattle.ipfix_session.specs.Given.{gives, records_of}
use Rattle.ipfix_session.specs.Ledger.{messages_of}
use Rattle.ipfix_session.specs.Places.{ReportsInFull}
use Rattle.recording_resumption.specs.Resumption.{last_of}
use Rattle.recording_resumption.specs.declared.last_message.LastMessage.{LastMessage}
use Rattle.recording_resumption.specs.declared.earlier.Earlier.TheVariants.{Waiting}
use Rattle.recording_resumption.specs.declared.earlier_domain.EarlierDomain.{EarlierDomain}
use Rattle.recording_resumption.specs.declared.earlier_session.EarlierSession.{EarlierSession}

-- what a file of this text has
pub record IsEarlierSession (text : List ℕ) (s : EarlierSession) : Type 0 where
  -- the report of its messages before the first that has a fault, and, where none has, the templates in force after them
  -- (RFC 7011, section 8)
  pub reports : ReportsInFull s.full (gives text).messages (length (records_of text))
  pub fault : s.full.report.fault ≡ end_of text
  -- the last of these messages in each domain
  pub last : (domain : ℕ) → get nat_eq s.last domain ≡ last_of (messages_of domain (gives text).messages)

-- ---- what it leaves

-- these are the templates of a domain, by what is kept of the domains of a session
abbrev pub HasTemplates : DomainsView → ℕ → BTreeMap ℕ Template → Type 0
HasTemplates d domain templates = IfUnspent d (λ ds. (id : ℕ) → get_at nat_cmp templates id ≡ template_for ds domain id)

-- a domain that is left waits after its last message, with the templates that are in force in it at the end
pub record IsLeft (d : DomainsView) (domain : ℕ) (last : Option LastMessage) (e : EarlierDomain) : Type 0 where
  pub message : LastMessage
  pub is_last : last ≡ Some message
  pub waits : e.state ≡ Waiting message false
  pub templates : HasTemplates d domain e.templates

-- and so each that is left
pub record LeavesOnly (last : ℕ → Option LastMessage) (d : DomainsView) (left : BTreeMap ℕ EarlierDomain) : Type 0 where
  pub at : (domain : ℕ) → IfSome (get_at nat_cmp left domain) (IsLeft d domain (last domain))

abbrev pub LeftBy : {S : Type 0} → IndexMap ℕ LastMessage S → DomainsView → BTreeMap ℕ EarlierDomain → Type 0
LeftBy last d left = LeavesOnly (get nat_eq last) d left

-- and each is left that has a last message
abbrev pub HasDomain : BTreeMap ℕ EarlierDomain → ℕ → Type 0
HasDomain left domain = IsSome (get_at nat_cmp left domain)

abbrev pub LeavesEach : {S : Type 0} → IndexMap ℕ LastMessage S → BTreeMap ℕ EarlierDomain → Type 0
LeavesEach last left = (domain : ℕ) → IsSome (get nat_eq last domain) → HasDomain left domain

-- none is left
abbrev pub LeavesNone : BTreeMap ℕ EarlierDomain → Type 0
LeavesNone left = (domain : ℕ) → get_at nat_cmp left domain ≡ None
