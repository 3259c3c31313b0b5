-- The head of a file: the options records that are kept of the session's earlier files, written again.
use Rattle.std.specs.Prelude.{◌≡◌, ℕ, ◌+◌, ◌-◌, ◌^◌, ◌%◌, ◌<◌, ◌==◌, ◌&&◌, Bool, false, is_some, nat_eq, if◌then◌else◌, List, [], ◌∷◌, ◌++◌, length, map, filter, All, Option, Some, None, unwrap_or}
use Rattle.std.specs.Map.{lookup}
use Rattle.std.specs.Option.{option_flatten, option_or}
use Rattle.ipfix_wire.specs.MessageHeader.{header_octets}
use Rattle.ipfix_wire.specs.SetHeader.{set_octets}
use Rattle.ipfix_wire.specs.declared.header.Header.{Header}
use Rattle.ipfix_message.specs.Domains.{History, Message, template_for}
use Rattle.ipfix_message.specs.TemplatesInForce.{same_template}
use Rattle.ipfix_message.specs.declared.record.DataRecord.{DataRecord}
use Rattle.ipfix_message.specs.declared.record.Template.{Template}
use Rattle.ipfix_message.specs.declared.stamp.Stamp.{Stamp}
use Rattle.ipfix_session.specs.Given.{known_after, octets_of}
use Rattle.ipfix_session.specs.Ledger.{due_of, messages_of}
use Rattle.recording_files.specs.KeptOptions.{Kept, kept_after, read_again}
use Rattle.recording_files.specs.Preambles.{IsTemplate, stamped, templates_message}

-- ---- which are written

abbrev pub is_now : Template → Option Template → Bool
is_now t None = false
is_now t (Some u) = same_template t u

abbrev pub is_in_force : History → Kept → Bool
is_in_force ds k = is_now k.template (template_for ds k.domain k.template.id)

-- its template is in force, and the number is known that its domain goes on with
abbrev pub is_written : History → (ℕ → Option ℕ) → Kept → Bool
is_written ds number k = is_in_force ds k && is_some (number k.domain)

-- that is the number that is due, or that of the file's first message in its own domain
abbrev pub goes_on_with : Option ℕ → ℕ → ℕ → ℕ → Option ℕ
goes_on_with due own sequence domain = option_or due (if domain == own then Some sequence else None)

-- the number that is due in a domain after these messages
abbrev pub due_in : ℕ → List Message → Option ℕ
due_in domain ms = due_of (messages_of domain ms)

abbrev pub number_in : List Message → Header → ℕ → Option ℕ
number_in before h domain = goes_on_with (due_in domain before) h.domain h.sequence domain

abbrev pub stamp_at : Header → Stamp
stamp_at h = record { export_time = h.export_time; sequence = h.sequence; domain = h.domain }

-- so as a recorder has it, by the stamp of that message
abbrev pub number_at : List (ℕ × Option ℕ) → Stamp → ℕ → Option ℕ
number_at due s domain = goes_on_with (option_flatten (lookup (nat_eq domain) due)) s.domain s.sequence domain

-- before the first message of a file, which has this header
abbrev pub written : List Message → Header → List Kept
written before h = filter (is_written (known_after [] before) (number_in before h)) (kept_after before)

-- ---- how they are written

-- so many before a number
abbrev pub number_before : ℕ → ℕ → ℕ
number_before number count = (number + 2 ^ 32 - count % 2 ^ 32) % 2 ^ 32

abbrev pub count_in : ℕ → List Kept → ℕ
count_in domain ks = length (filter (λ k. k.domain == domain) ks)

-- after the last one of a domain is the number that it goes on with
abbrev pub stamp_of : ℕ → (ℕ → Option ℕ) → Kept → List Kept → Stamp
stamp_of export_time number k others =
    record { export_time = export_time; sequence = number_before (unwrap_or (number k.domain) 0) (count_in k.domain (k ∷ others)); domain = k.domain }

abbrev pub options_set : Kept → List ℕ
options_set k = set_octets k.template.id (length k.octets) ++ k.octets

abbrev pub options_message : Stamp → Kept → List ℕ
options_message s k = header_octets (stamped s (length (options_set k))) ++ options_set k

-- its template, and then the record
abbrev pub two_messages : Stamp → Kept → List (List ℕ)
two_messages s k = templates_message s (k.template ∷ []) ∷ options_message s k ∷ []

abbrev pub head_messages : ℕ → (ℕ → Option ℕ) → List Kept → List (List ℕ)
head_messages export_time number [] = []
head_messages export_time number (k ∷ ks) = two_messages (stamp_of export_time number k ks) k ++ head_messages export_time number ks

abbrev pub CanBeWritten : Kept → Type 0
CanBeWritten k = IsTemplate k.template × (k.domain < 2 ^ 32)

-- before this message of a file whose earlier messages in the session are these
pub record IsHead (before : List Message) (h : Header) (head : List (List ℕ)) : Type 0 where
  pub is : head ≡ head_messages h.export_time (number_in before h) (written before h)
  pub writable : All CanBeWritten (written before h)
  pub export_time : h.export_time < 2 ^ 32
  pub sequence : h.sequence < 2 ^ 32

-- only the first message of a file has one
abbrev pub BeginsWith : List Message → List Message → Header → List (List ℕ) → Type 0
BeginsWith before [] h head = IsHead before h head
BeginsWith before (x ∷ xs) h head = head ≡ []

-- ---- what is appended

-- those of these that are written were appended
pub record AppendsHead (ds : History) (number : ℕ → Option ℕ) (export_time : ℕ) (ks : List Kept) (old new : List ℕ) : Type 0 where
  pub octets : new ≡ old ++ octets_of (head_messages export_time number (filter (is_written ds number) ks))
  pub writable : All CanBeWritten (filter (is_written ds number) ks)

-- the stamp of one that is written, where these come after it
abbrev pub stamp_if : History → (ℕ → Option ℕ) → ℕ → Kept → List Kept → Option Stamp
stamp_if ds number export_time k others =
    if is_written ds number k then Some (stamp_of export_time number k (filter (is_written ds number) others)) else None

-- it was appended, if it is written
abbrev pub AppendsIf : Kept → Option Stamp → List ℕ → List ℕ → Type 0
AppendsIf k None old new = new ≡ old
AppendsIf k (Some s) old new = (new ≡ old ++ octets_of (two_messages s k)) × (IsTemplate k.template × (s.domain < 2 ^ 32))

abbrev pub AppendsFirst : History → (ℕ → Option ℕ) → ℕ → Kept → List Kept → List ℕ → List ℕ → Type 0
AppendsFirst ds number export_time k others old new = AppendsIf k (stamp_if ds number export_time k others) old new

-- ---- by the numbers that are due, and the stamp of the file's first message

module _ (due : List (ℕ × Option ℕ)) (start : Stamp) where
  abbrev pub is_written_at : Kept → History → Bool
  is_written_at k ds = is_written ds (number_at due start) k

  -- how many of those that are written are of a domain
  abbrev pub count_at : ℕ → List Kept → History → ℕ
  count_at domain ks ds = count_in domain (filter (λ k. is_written_at k ds) ks)

  -- the stamp of one that is written, where these come after it
  abbrev pub stamp_before : Kept → List Kept → History → Option Stamp
  stamp_before k others ds = stamp_if ds (number_at due start) start.export_time k others

-- ---- how they are read again

-- the records at the head of a file of these messages, with the export time of its first one
abbrev pub told_first : List Message → List Message → List DataRecord
told_first before [] = []
told_first before (x ∷ xs) = map (read_again x.header.export_time) (written before x.header)
