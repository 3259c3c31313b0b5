-- Datagrams that come late (RFC 7011, section 8.2). A template describes the data records of messages whose export time isn't before
-- that of its definition. So those of an earlier message, which comes late, aren't read under it, and the message doesn't replace it.
use Rattle.std.specs.Prelude.{◌≡◌, ◌⊎◌, ℕ, ◌-◌, ◌^◌, ◌==◌, ◌&&◌, ◌||◌, Bool, true, false, not, is_some, nat_lt, nat_le, if◌then◌else◌, List, Option, Some, None, option_copied}
use Rattle.std.specs.Borrow.{Bor}
use Rattle.std.specs.List.{list_any}
use Rattle.std.specs.Option.{option_and_then, option_or}
use Rattle.std.specs.Ordering.{nat_cmp}
use Rattle.std.specs.BTreeMap.{BTreeMap, get}
use Rattle.ipfix_wire.specs.declared.header.Header.{Header}
use Rattle.ipfix_message.specs.declared.fault.MessageFault.{MessageFault}
use Rattle.ipfix_message.specs.declared.fault.MessageFault.TheVariants.{OutOfMemory, TemplateChanged}
use Rattle.ipfix_message.specs.declared.record.Template.{Template}
use Rattle.ipfix_message.specs.Domains.{History, Message}
use Rattle.ipfix_message.specs.TemplatesInForce.{is_other}
use Rattle.ipfix_session.specs.Ledger.{gap}
use Rattle.ipfix_datagrams.specs.Datagrams.{KeepsKnown, Templates, template_of, barred_after, barred_in, known_in, last_definition, has_data_set, is_changed}
use Rattle.ipfix_datagrams.specs.declared.known_templates.KnownTemplates.{KnownTemplates}
use Rattle.ipfix_datagrams.specs.declared.moment.Moment.{Moment}

-- a sequence number is before the due one, if one is: it is in the upper half after it
abbrev pub is_before : Option ℕ → ℕ → Bool
is_before None number = false
is_before (Some due) number = not (nat_lt (gap due number) (2 ^ 31))

-- a definition was sent after a datagram, and was taken at most so many seconds before it
abbrev pub is_later : ℕ → Moment → Option Moment → Bool
is_later reorder at None = false
is_later reorder at (Some d) = nat_lt at.export_time d.export_time && nat_le (at.second - d.second) reorder

-- when a datagram was sent, by its header, and taken
abbrev pub moment_of : Header → ℕ → Moment
moment_of h second = record { export_time = h.export_time; second = second }

-- ---- when the template of an id was defined

-- a template is the one that is known
abbrev pub is_known : Template → Option Template → Bool
is_known t known = is_some known && not (is_other t known)

-- a definition changes what is known, and was taken now
abbrev pub newly : Option Template → Option Template → Moment → Option Moment
newly known None now = None
newly known (Some t) now = if is_known t known then None else Some now

-- what is known of an id, by the templates in force and by those that were withdrawn
abbrev pub known_as : Templates → Templates → ℕ → Option Template
known_as in_force withdrawn id = option_or (template_of in_force id) (template_of withdrawn id)

-- when the template of an id was defined, after definitions that were taken now: a definition of the template that is known changes nothing
abbrev pub retimed : (ℕ → Option Template) → (ℕ → Option Template) → Moment → (ℕ → Option Moment) → ℕ → Option Moment
retimed known last now old id = option_or (newly (known id) (last id) now) (old id)

abbrev pub Times : Type 0
Times = ℕ → ℕ → Option Moment

-- those of a domain, after definitions there; the others stay
abbrev pub retimed_in : ℕ → (ℕ → Option Template) → (ℕ → Option Template) → Moment → Times → Times
retimed_in d known last now old domain id = if domain == d then retimed known last now (old domain) id else old domain id

-- after a datagram of a domain
abbrev pub times_after : Times → History → List ℕ → ℕ → Moment → Times
times_after old ds m d now domain = retimed_in d (known_in ds domain) (last_definition m) now old domain

-- what a map of maps has
abbrev pub time_in : Option (BTreeMap ℕ Moment) → ℕ → Option Moment
time_in times id = option_and_then (λ t. get nat_cmp t id) times

-- and one that is lent to a function
abbrev pub time_of : Option (Bor (BTreeMap ℕ Moment)) → ℕ → Option Moment
time_of times id = time_in (option_copied times) id

abbrev pub time_at : BTreeMap ℕ (BTreeMap ℕ Moment) → Times
time_at times domain id = time_in (get nat_cmp times domain) id

-- ---- a datagram that comes late

-- the ids whose templates it doesn't replace, and under which its data sets aren't read
abbrev pub Withheld : Type 0
Withheld = ℕ → Bool

-- those of a domain whose template is later
abbrev pub later_in : ℕ → Moment → (ℕ → Option Moment) → Withheld
later_in reorder at times id = is_later reorder at (times id)

-- those of the domain of a datagram with this header, which is taken at a second
abbrev pub withheld_from : KnownTemplates → Header → ℕ → Withheld
withheld_from known h second = later_in known.reorder (moment_of h second) (time_at known.times h.domain)

-- it defines one of them otherwise
pub record ChangesOne (withheld : Withheld) (ds : History) (m : List ℕ) (domain : ℕ) : Type 0 where
  pub id : ℕ
  pub is_withheld : withheld id ≡ true
  pub changed : is_changed ds m domain id ≡ true

-- or none
abbrev pub ChangesNone : Withheld → History → List ℕ → ℕ → Type 0
ChangesNone withheld ds m domain = (id : ℕ) → withheld id ≡ true → is_changed ds m domain id ≡ false

-- the ids that have no template before it: those that had none, and those among them of its data sets
abbrev pub AreBarred : Withheld → List ℕ → List ℕ → List ℕ → Type 0
AreBarred withheld old m barred = (id : ℕ) → list_any (λ b. b == id) barred ≡ (list_any (λ b. b == id) old || (has_data_set m id && withheld id))

-- it is read where these have none
pub record IsReadLate (withheld : Withheld) (old : List ℕ) (ds : History) (m : List ℕ) (domain : ℕ) (barred : List ℕ) : Type 0 where
  pub none : ChangesNone withheld ds m domain
  pub ids : AreBarred withheld old m barred

-- or it is refused
abbrev pub FailsLate : Withheld → History → List ℕ → ℕ → MessageFault → Type 0
FailsLate withheld ds m domain f = (f ≡ OutOfMemory) ⊎ (ChangesOne withheld ds m domain × (f ≡ TemplateChanged))

-- ---- after a datagram

-- it was taken now, after these domains
pub record KeepsAfter (old new : KnownTemplates) (ds : History) (m : List ℕ) (now : Moment) (x : Message) : Type 0 where
  pub keeps : KeepsKnown new x.domains
  pub times : time_at new.times ≡ times_after (time_at old.times) ds m x.header.domain now
  pub barred : (domain : ℕ) → barred_in new.barred domain ≡ (if domain == x.header.domain then barred_after (barred_in old.barred domain) m else barred_in old.barred domain)
  pub budget : new.budget ≡ old.budget
  pub reorder : new.reorder ≡ old.reorder
