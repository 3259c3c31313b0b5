-- The domains of a session with their events, and what a message gives after them (RFC 7011, sections 3.1 and 8).
use Rattle.std.specs.Prelude.{◌≡◌, ◌≢◌, ◌⊎◌, ℕ, Bool, true, false, nat_lt, ◌==◌, nat_eq, is_some, if◌then◌else◌, List, [], ◌∷◌, ◌++◌, length, drop, Option, Some, None, Result, Ok, Err, IsOk}
use Rattle.std.specs.Map.{lookup, keys_of, set_value}
use Rattle.std.specs.Option.{unwrap_or, option_and_then}
use Rattle.std.specs.Ordering.{nat_cmp, eq_by_cmp}
use Rattle.ipfix_wire.specs.MessageHeader.{header_at}
use Rattle.ipfix_wire.specs.declared.header.TheConstants.{HEADER_LENGTH}
use Rattle.ipfix_wire.specs.declared.header.Header.{Header}
use Rattle.ipfix_wire.specs.declared.fault.WireFault.{WireFault}
use Rattle.ipfix_message.specs.declared.fault.MessageFault.{MessageFault}
use Rattle.ipfix_message.specs.declared.fault.MessageFault.TheVariants.{MessageLength, TemplateChanged, TooManyDomains}
use Rattle.ipfix_message.specs.declared.passed_over.PassedOver.{PassedOver}
use Rattle.ipfix_message.specs.declared.record.Template.{Template}
use Rattle.ipfix_message.specs.declared.template_record.Event.{Event}
use Rattle.ipfix_message.specs.declared.message.TheConstants.{MAX_DOMAINS}
use Rattle.ipfix_message.specs.declared.message.Decoded.{Decoded}
use Rattle.ipfix_message.specs.Faults.{fault_of}
use Rattle.ipfix_message.specs.Outcome.{Read, ◌>>=◌, Fails}
use Rattle.ipfix_message.specs.TemplatesInForce.{in_force}
use Rattle.ipfix_message.specs.Sets.{has_template_set}
use Rattle.ipfix_message.specs.Messages.{Decoding, before, sets_from}

-- the domains of a session in order of first appearance, each with its events, the newest first
abbrev pub History : Type 0
History = List (ℕ × List Event)

-- the events of a domain, none if it has not appeared
abbrev pub events_in : History → ℕ → List Event
events_in ds domain = unwrap_or (lookup (nat_eq domain) ds) []

-- the template that is in force for an id in a domain
abbrev pub template_for : History → ℕ → ℕ → Option Template
template_for ds domain id = option_and_then (λ es. in_force es id) (lookup (nat_eq domain) ds)

-- only one of the domains, if it has appeared
abbrev pub alone : History → ℕ → History
alone ds domain = elim (lookup (nat_eq domain) ds) [ None ↦ [] | Some es ↦ (domain, es) ∷ [] ]

-- ---- what a message gives

abbrev pub of_wire : Result Header WireFault → Read Header
of_wire (Ok h) = Ok h
of_wire (Err e) = Err (fault_of e)

-- a message's header, whose length is that of the message
unfoldable pub message_header : List ℕ → Read Header
message_header m =
    if nat_lt (length m) HEADER_LENGTH then Err MessageLength
    else (of_wire (header_at m) >>= λ h. if h.length == length m then Ok h else Err MessageLength)

-- with a domain among them, unless there are as many as a session may have
unfoldable pub admit : History → ℕ → Read History
admit ds domain =
    if is_some (lookup (nat_eq domain) ds) then Ok ds
    else if nat_lt (length ds) MAX_DOMAINS then Ok (ds ++ (domain, []) ∷ [])
    else Err TooManyDomains

-- the header of a message is good, and its domain is one of those before it or finds room among them
pub record IsAdmitted (ds : History) (m : List ℕ) : Type 0 where
  pub header : Header
  pub good : message_header m ≡ Ok header
  pub domain : IsOk (admit ds header.domain)

-- with other events at a domain
abbrev pub with_events : History → ℕ → List Event → History
with_events ds domain es = set_value (nat_eq domain) ds es

-- a message that was read: its header, what its sets gave, and the domains after it
pub record Message : Type 0 where
  pub header : Header
  pub decoding : Decoding
  pub domains : History

-- what a message gives after the domains of a session, or its first fault
unfoldable pub message_gives : History → List ℕ → Read Message
message_gives ds m = do
  h ← message_header m
  known ← admit ds h.domain
  d ← sets_from h (before (events_in known h.domain)) (drop HEADER_LENGTH m)
  Ok (record { header = h; decoding = d; domains = with_events known h.domain d.events })

-- ---- what is kept of the domains

-- what contracts see of the domains of a session: whether a message was refused, and otherwise each domain with the
-- entries of its map of templates
pub record DomainsView : Type 0 where
  pub spent : Bool
  pub domains : List (ℕ × List (ℕ × Template))

-- the template that is kept for an id in a domain
abbrev pub template_kept : List (ℕ × List (ℕ × Template)) → ℕ → ℕ → Option Template
template_kept kept domain id = option_and_then (λ entries. lookup (eq_by_cmp nat_cmp id) entries) (lookup (nat_eq domain) kept)

-- what is kept stands for a history: the same domains in the same order, and for each id the template in force
pub record StandsFor (kept : List (ℕ × List (ℕ × Template))) (ds : History) : Type 0 where
  pub domains : keys_of kept ≡ keys_of ds
  pub templates : (domain id : ℕ) → template_kept kept domain id ≡ template_for ds domain id

-- what an answer says was passed over
abbrev pub passed_over_of : Decoded → PassedOver
passed_over_of decoded = record { skipped_sets = decoded.skipped_sets; unknown_sets = decoded.unknown_sets; ignored_withdrawals = decoded.ignored_withdrawals }

-- a message as it is answered
pub record IsAnswer (decoded : Decoded) (m : Message) : Type 0 where
  pub header : decoded.header ≡ m.header
  pub records : decoded.records.items ≡ m.decoding.records
  pub passed_over : passed_over_of decoded ≡ m.decoding.passed_over

-- the answer is the message that was read, and what is kept then stands for the history after it; or it is the fault
-- of reading
abbrev pub Decodes : Result Decoded MessageFault → List (ℕ × List (ℕ × Template)) → Read Message → Type 0
Decodes (Ok decoded) kept read = (m : Message) × (read ≡ Ok m) × IsAnswer decoded m × StandsFor kept m.domains
Decodes (Err e) kept read = Fails e read

-- P holds after each history that what is kept stands for, unless a message was refused
abbrev pub IfUnspent : DomainsView → (History → Type 0) → Type 0
IfUnspent d P = d.spent ≡ false → (ds : History) → StandsFor d.domains ds → P ds

-- the answer to a message, and what is kept before and after it, are those of reading it after each history that is
-- stood for
abbrev pub ReadsMessage : List (ℕ × List (ℕ × Template)) → List (ℕ × List (ℕ × Template)) → List ℕ → Result Decoded MessageFault → Type 0
ReadsMessage old new m result = (ds : History) → StandsFor old ds → Decodes result new (message_gives ds m)

-- the same of the domains of a session
abbrev pub DecodesMessage : DomainsView → DomainsView → List ℕ → Result Decoded MessageFault → Type 0
DecodesMessage old new m result = ReadsMessage old.domains new.domains m result

-- the header of a message is good, and its domain is one of those that are kept or finds room among them
abbrev pub AdmitsMessage : List (ℕ × List (ℕ × Template)) → List ℕ → Type 0
AdmitsMessage kept m = (ds : History) → StandsFor kept ds → IsAdmitted ds m

-- ---- messages that change no template

-- a message is read, and the domains stay as they are
pub record ChangesNothing (ds : History) (m : List ℕ) : Type 0 where
  pub given : Message
  pub read : message_gives ds m ≡ Ok given
  pub same : given.domains ≡ ds

-- it has a template set, or its domain has not appeared
abbrev pub MayChangeSome : History → ℕ → List ℕ → Type 0
MayChangeSome ds domain m = (has_template_set (drop HEADER_LENGTH m) ≡ true) ⊎ (is_some (lookup (nat_eq domain) ds) ≡ false)

-- a message of a domain was checked, up to its first template set
abbrev pub IsChecked : Result Bool MessageFault → History → ℕ → List ℕ → Type 0
IsChecked (Ok true) ds domain m = ChangesNothing ds m
IsChecked (Ok false) ds domain m = MayChangeSome ds domain m
IsChecked (Err f) ds domain m = (message_gives ds m ≡ Err f) × (f ≢ TemplateChanged)
