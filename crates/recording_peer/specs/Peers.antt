-- The datagrams of a peer, and its files (RFC 7011, sections 8.1, 8.4 and 10.3).
use Rattle.std.specs.Prelude.{◌≡◌, ◌≢◌, ◌==◌, ℕ, ◌+◌, List, [], ◌∷◌, ◌++◌, length, take, drop, map, flat_map, sum_by, if◌then◌else◌, Option, Some, None, Ok, Err, unwrap_or}
use Rattle.std.specs.Option.{option_or, option_to_list}
use Rattle.std.specs.Ordering.{nat_cmp}
use Rattle.std.specs.BTreeMap.{BTreeMap, get, values}
use Rattle.ipfix_wire.specs.declared.header.Header.{Header}
use Rattle.ipfix_message.specs.Domains.{History, Message}
use Rattle.ipfix_message.specs.declared.record.DataRecord.{DataRecord}
use Rattle.ipfix_message.specs.declared.record.Template.{Template}
use Rattle.ipfix_session.specs.Given.{known_after, records_in}
use Rattle.ipfix_session.specs.Ledger.{capped, due_of, messages_of}
use Rattle.recording_files.specs.Recordings.{Part}
use Rattle.recording_files.specs.FileReports.{file_report}
use Rattle.recording_files.specs.declared.file_report.FileReport.{FileReport}
use Rattle.recording_files.specs.Preambles.{templates_message}
use Rattle.ipfix_message.specs.declared.stamp.Stamp.{Stamp}
use Rattle.ipfix_datagrams.specs.Datagrams.{Basis, Preparation, IsTaken, defines_template, withdrawals_in}
use Rattle.ipfix_datagrams.specs.Withdrawals.{withdrawal_message}
use Rattle.ipfix_datagrams.specs.declared.withdrawal.TheConstants.{MOST_WITHDRAWN}
use Rattle.ipfix_message.specs.Outcome.{Read}
use Rattle.recording_resumption.specs.Resumption.{due_left, left_at, resumed_by}
use Rattle.recording_resumption.specs.declared.earlier_domain.EarlierDomain.{EarlierDomain}
use Rattle.ipfix_datagrams.specs.declared.withdrawn_template.WithdrawnTemplate.{WithdrawnTemplate}
use Rattle.recording_peer.specs.declared.resumption.Resumption.{Resumption}

-- ---- datagrams

-- messages of the recorder's own in front of a datagram, and what they give
pub record Front : Type 0 where
  pub messages : List (List ℕ)
  pub given : List Message

-- what is resumed before a datagram: templates that an earlier run left, and the sequence number that was due at its end, if one is
-- known
pub record Resumed : Type 0 where
  pub templates : List Template
  pub due : Option ℕ

abbrev pub resumed_of : Option EarlierDomain → Resumed
resumed_of None = record { templates = []; due = None }
resumed_of (Some e) = record { templates = values e.templates; due = due_left e.state }

-- a datagram that was taken, and the second at which it was, what is resumed before it, the ids of its domain that have no template, the
-- templates that are withdrawn and defined again before it, the messages in front of it, and what it gave
pub record Taken : Type 0 where
  pub datagram : List ℕ
  pub second : ℕ
  pub resumed : Resumed
  pub barred : List ℕ
  pub preparation : Preparation
  pub front : Front
  pub given : Message

-- what is known before a datagram beside the files
abbrev pub basis_with : Resumed → List ℕ → Basis
basis_with resumed barred = record { resumed = resumed.templates; barred = barred }

-- datagrams one after another, each taken after the domains that those before it leave in the files
abbrev pub AreTaken : History → List Taken → Type 0
AreTaken ds [] = Unit {0}
AreTaken ds (t ∷ ts) = IsTaken (basis_with t.resumed t.barred) ds t.datagram t.preparation t.given × AreTaken t.given.domains ts

abbrev pub datagrams : List Taken → List (List ℕ)
datagrams ts = map (λ t. t.datagram) ts

abbrev pub givens : List Taken → List Message
givens ts = map (λ t. t.given) ts

-- the domains after them
abbrev pub known_after_all : List Taken → History
known_after_all ts = known_after [] (givens ts)

-- their data records, in order
abbrev pub records_over_udp : List Taken → List DataRecord
records_over_udp ts = records_in (givens ts)

-- ---- what an earlier run left

-- what is left of a domain after datagrams: those of others change nothing
abbrev pub left_in : ℕ → Option EarlierDomain → List Taken → Option EarlierDomain
left_in domain o [] = o
left_in domain o (t ∷ ts) = left_in domain (left_at domain o t.given.header (defines_template t.datagram)) ts

-- what is resumed before a datagram with this header, after these, by what the earlier run left
abbrev pub resumed_after : BTreeMap ℕ EarlierDomain → List Taken → Header → Resumed
resumed_after earlier ts h = resumed_of (resumed_by (left_in h.domain (get nat_cmp earlier h.domain) ts) h)

-- and before any datagram, if it has a header
abbrev pub resumed_at : BTreeMap ℕ EarlierDomain → List Taken → Read Header → Resumed
resumed_at earlier ts (Ok h) = resumed_after earlier ts h
resumed_at earlier ts (Err fault) = resumed_of None

-- exactly that is resumed before each of them, after those before
abbrev pub AreResumed : BTreeMap ℕ EarlierDomain → List Taken → List Taken → Type 0
AreResumed earlier before [] = Unit {0}
AreResumed earlier before (t ∷ ts) = (t.resumed ≡ resumed_after earlier before t.given.header) × AreResumed earlier (before ++ t ∷ []) ts

-- a domain went on with so many templates of an earlier run, if that left any in it
abbrev pub resumption_in : ℕ → ℕ → Option Resumption
resumption_in domain templates = if templates == 0 then None else Some (record { domain = domain; templates = templates })

-- with a datagram under this header, by what is resumed before it
abbrev pub resumption_with : Header → Resumed → Option Resumption
resumption_with h resumed = resumption_in h.domain (length resumed.templates)

abbrev pub resumption_of : Taken → List Resumption
resumption_of t = option_to_list (resumption_with t.given.header t.resumed)

-- the domains that did, in the order in which they did
abbrev pub resumptions : List Taken → List Resumption
resumptions ts = flat_map resumption_of ts

-- ---- the messages in front of them

-- the sequence number that is due in a domain after messages, or else after an earlier run, if one is known
abbrev pub due_before : Option ℕ → List Message → ℕ → Option ℕ
due_before due before domain = option_or (due_of (messages_of domain before)) due

-- the header of a message of the recorder's own: that of the datagram, with that number, if one is known
abbrev pub front_header : Option ℕ → List Message → Header → Header
front_header due before h = record h { sequence = unwrap_or (due_before due before h.domain) h.sequence }

abbrev pub stamp_of : Header → Stamp
stamp_of h = record { export_time = h.export_time; sequence = h.sequence; domain = h.domain }

-- templates in parts, as many in each as a message withdraws at most, and those that are left in the last
abbrev pub InParts : List WithdrawnTemplate → List (List WithdrawnTemplate) → Type 0
InParts ws [] = ws ≡ []
InParts ws (part ∷ parts) = (ws ≢ []) × (part ≡ take MOST_WITHDRAWN ws) × InParts (drop MOST_WITHDRAWN ws) parts

-- messages that withdraw them
abbrev pub withdrawals : Header → List (List WithdrawnTemplate) → List (List ℕ)
withdrawals h parts = map (withdrawal_message h) parts

-- messages that define templates again, each one
abbrev pub definitions : Stamp → List Template → List (List ℕ)
definitions s ts = map (λ t. templates_message s (t ∷ [])) ts

-- both, under this header
abbrev pub front_messages : Header → List (List WithdrawnTemplate) → List Template → List (List ℕ)
front_messages h parts ts = withdrawals h parts ++ definitions (stamp_of h) ts

-- after these messages of the session, those in front of a datagram withdraw its templates and define its templates again, and
-- give no record
pub record HasFront (before : List Message) (t : Taken) : Type 0 where
  pub parts : List (List WithdrawnTemplate)
  pub are : InParts t.preparation.withdrawn parts
  pub messages : t.front.messages ≡ front_messages (front_header t.resumed.due before t.given.header) parts t.preparation.defined
  pub records : records_in t.front.given ≡ []

-- a datagram after the messages in front of it
abbrev pub messages_with : Taken → List (List ℕ)
messages_with t = t.front.messages ++ t.datagram ∷ []

abbrev pub given_with : Taken → List Message
given_with t = t.front.given ++ t.given ∷ []

abbrev pub all_messages : List Taken → List (List ℕ)
all_messages ts = flat_map messages_with ts

abbrev pub all_given : List Taken → List Message
all_given ts = flat_map given_with ts

-- and so each of them
abbrev pub HaveFronts : List Message → List Taken → Type 0
HaveFronts before [] = Unit {0}
HaveFronts before (t ∷ ts) = HasFront before t × HaveFronts (before ++ given_with t) ts

-- ---- files

-- a file of a peer: its datagrams, those that were ignored since the file before was finished, and all its messages
pub record PeerFile : Type 0 where
  pub taken : List Taken
  pub ignored : List (List ℕ)
  pub file : List (List ℕ)

-- as a part of the session that the files are: each datagram after the messages in front of it
abbrev pub part_of : PeerFile → Part
part_of f = record { messages = all_messages f.taken; given = all_given f.taken; file = f.file }

-- as a part of what the exporter sent
abbrev pub sent_of : PeerFile → Part
sent_of f = record { messages = datagrams f.taken; given = givens f.taken; file = f.file }

-- the withdrawals that were ignored (RFC 7011, section 8.4): those of the datagrams of a file, and those of datagrams that were ignored
abbrev pub withdrawals_ignored : List Taken → List (List ℕ) → ℕ
withdrawals_ignored taken ignored = sum_by withdrawals_in (datagrams taken) + sum_by withdrawals_in ignored

-- the report of such a file, after messages of earlier files: what the exporter sent in it, and how many withdrawals were ignored
abbrev pub peer_report : List Message → List Taken → List (List ℕ) → FileReport
peer_report before taken ignored = record (file_report before (givens taken)) { ignored_withdrawals = capped (withdrawals_ignored taken ignored) }

-- the reports of files in turn
abbrev pub peer_reports : List Message → List PeerFile → List FileReport
peer_reports before [] = []
peer_reports before (f ∷ fs) = peer_report before f.taken f.ignored ∷ peer_reports (before ++ givens f.taken) fs
