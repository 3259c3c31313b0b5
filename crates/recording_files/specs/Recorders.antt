-- What contracts see of a recorder, and of the counts beside it.
use Rattle.std.specs.Prelude.{◌≡◌, ℕ, ◌+◌, ◌%◌, ◌^◌, ◌==◌, Bool, false, MatchBool, is_some, nat_eq, if◌then◌else◌, List, [], ◌∷◌, ◌++◌, length, Option, Some, None, Ok}
use Rattle.std.specs.Map.{lookup}
use Rattle.indexmap.specs.IndexMap.{insert_entry}
use Rattle.ipfix_wire.specs.declared.header.Header.{Header}
use Rattle.ipfix_message.specs.Domains.{DomainsView, Message, StandsFor}
use Rattle.ipfix_message.specs.Outcome.{Fails}
use Rattle.ipfix_message.specs.TemplateLimits.{IsWithin, message_within}
use Rattle.ipfix_message.specs.declared.fault.MessageFault.{MessageFault}
use Rattle.ipfix_session.specs.Given.{known_after, octets_of, records_in}
use Rattle.ipfix_session.specs.Ledger.{count_in}
use Rattle.ipfix_session.specs.Feeding.{Counts, Tells}
use Rattle.recording_files.specs.declared.file_report.FileReport.{FileReport}
use Rattle.recording_files.specs.declared.message_count.MessageCount.{MessageCount}
use Rattle.recording_files.specs.Heads.{BeginsWith, due_in}
use Rattle.recording_files.specs.KeptOptions.{Kept, kept_after}
use Rattle.recording_files.specs.Recordings.{has, begins_again, Leads, Precedes}
use Rattle.recording_files.specs.FileReports.{file_report}

-- the domains, what their templates may count, the sequence number that is due in each, the domains that the file has, and the
-- options records that are kept
pub record State : Type 0 where
  pub domains : DomainsView
  pub limit : Option ℕ
  pub due : List (ℕ × Option ℕ)
  pub here : List (ℕ × Bool)
  pub kept : List Kept

-- a recorder whose templates may count so much, or anything, stands for these messages of earlier files and of this one
pub record KeepsWithin (limit : Option ℕ) (s : State) (before here : List Message) : Type 0 where
  pub not_spent : s.domains.spent ≡ false
  pub known : StandsFor s.domains.domains (known_after [] (before ++ here))
  pub has_limit : s.limit ≡ limit
  -- the templates that it keeps count no more
  pub within : IsWithin limit (known_after [] (before ++ here))
  pub due : (domain : ℕ) → lookup (nat_eq domain) s.due ≡ (if has (before ++ here) domain then Some (due_in domain (before ++ here)) else None)
  pub in_file : (domain : ℕ) → is_some (lookup (nat_eq domain) s.here) ≡ has here domain
  pub kept : s.kept ≡ kept_after (before ++ here)

-- without a limit
abbrev pub Keeps : State → List Message → List Message → Type 0
Keeps s before here = KeepsWithin None s before here

-- of whatever messages of earlier files and of this one a recorder stands for, with whatever limit
abbrev pub ForKept : State → (Option ℕ → List Message → List Message → Type 0) → Type 0
ForKept s P = (limit : Option ℕ) (before here : List Message) → KeepsWithin limit s before here → P limit before here

abbrev pub ForMessages : State → (List Message → List Message → Type 0) → Type 0
ForMessages s P = ForKept s (λ limit before here. P before here)

-- and without one
abbrev pub ForKeeps : State → (List Message → List Message → Type 0) → Type 0
ForKeeps s P = (before here : List Message) → Keeps s before here → P before here

-- what is written at the head of a file, if a message with this header is its first
pub record Heading (h : Header) (old new : List ℕ) (before here : List Message) : Type 0 where
  pub head : List (List ℕ)
  pub is : BeginsWith before here h head
  pub octets : new ≡ old ++ octets_of head

-- and before that message of its own domain
pub record Leading (h : Header) (old new : List ℕ) (before here : List Message) : Type 0 where
  pub lead : List (List ℕ)
  pub is : MatchBool (begins_again before here h.domain) (Leads before here h lead) (lead ≡ [])
  pub octets : new ≡ old ++ octets_of lead

-- what a message adds to the counts
pub record IsCountOf (c : MessageCount) (m : Message) : Type 0 where
  pub header : m.header ≡ c.header
  pub records : count_in m ≡ c.records
  pub passed_over : m.decoding.passed_over ≡ c.passed_over

-- a message was recorded: it was read, and follows what precedes it
pub record RecordsWithin (limit : Option ℕ) (before here : List Message) (s : State) (m octets : List ℕ) (count : MessageCount) : Type 0 where
  pub given : Message
  pub read : message_within limit (known_after [] (before ++ here)) m ≡ Ok given
  pub lead : List (List ℕ)
  pub is : Precedes before here given.header lead
  pub octets_are : octets ≡ octets_of lead ++ m
  pub keeps : KeepsWithin limit s before (here ++ given ∷ [])
  pub counts : IsCountOf count given

-- or this is why it couldn't be read
abbrev pub FailsOn : MessageFault → List ℕ → Option ℕ → List Message → List Message → Type 0
FailsOn fault m limit before here = Fails fault (message_within limit (known_after [] (before ++ here)) m)

abbrev pub Records : List Message → List Message → State → List ℕ → List ℕ → MessageCount → Type 0
Records before here s m octets count = RecordsWithin None before here s m octets count

-- what is kept of a domain is this now
abbrev pub with_entry : {A : Type 0} → List (ℕ × A) → ℕ → A → List (ℕ × A)
with_entry es domain a = insert_entry nat_eq es domain a

-- the sequence number that is due after a message with this header, so many records and so many unknown sets
abbrev pub due_for : Header → ℕ → ℕ → Option ℕ
due_for h records unknown_sets = if unknown_sets == 0 then Some ((h.sequence + records) % 2 ^ 32) else None

-- ---- counts

-- what these messages add in turn
abbrev pub AreCountsOf : List MessageCount → List Message → Type 0
AreCountsOf [] [] = Unit {0}
AreCountsOf (c ∷ cs) (m ∷ ms) = IsCountOf c m × AreCountsOf cs ms
AreCountsOf [] (m ∷ ms) = ⊥
AreCountsOf (c ∷ cs) [] = ⊥

-- the counts of a session, and those of its file that isn't finished
pub record Told : Type 0 where
  pub session : Counts
  pub file : FileReport

-- what contracts see of counts: those of what was written, and what is to be counted for the messages that wait to be
pub record CountsView : Type 0 where
  pub told : Told
  pub waiting : List MessageCount

-- they are of these messages: those of the finished files, and those of the file that isn't finished
pub record Counted (c : Told) (before here : List Message) : Type 0 where
  pub session : Tells c.session (before ++ here) (length (records_in (before ++ here)))
  pub file : c.file ≡ file_report before here

-- of whatever messages of finished files and of the file that isn't finished counts are
abbrev pub ForCounted : Told → (List Message → List Message → Type 0) → Type 0
ForCounted c P = (before here : List Message) → Counted c before here → P before here
