-- A session in several files: its messages as they came, before the first of a file the options records that are kept, and before the
-- first of a domain in a file the domain's templates.
use Rattle.std.specs.Prelude.{◌≡◌, ℕ, Bool, ◌==◌, ◌&&◌, not, List, [], ◌∷◌, ◌++◌, All, MatchBool, Ok}
use Rattle.std.specs.List.{list_any}
use Rattle.std.specs.Option.{unwrap_or}
use Rattle.ipfix_wire.specs.declared.header.Header.{Header}
use Rattle.ipfix_message.specs.Domains.{Message, events_in, message_gives}
use Rattle.ipfix_message.specs.declared.record.Template.{Template}
use Rattle.ipfix_session.specs.Given.{known_after}
use Rattle.ipfix_message.specs.declared.stamp.Stamp.{Stamp}
use Rattle.recording_files.specs.Heads.{BeginsWith, due_in}
use Rattle.recording_files.specs.Preambles.{IsStamp, IsTemplate, IsPreamble}
use Rattle.ipfix_session.specs.TemplateLists.{AreInForce}

-- whether messages have one of this domain among them
abbrev pub has : List Message → ℕ → Bool
has ms domain = list_any (λ m. domain == m.header.domain) ms

-- a file has no message of the domain yet, and an earlier file has
abbrev pub begins_again : List Message → List Message → ℕ → Bool
begins_again before here domain = has before domain && not (has here domain)

-- what the preamble before a message with this header says: the sequence number that is due in its domain, or its own
-- where none is known
abbrev pub stamp_for : List Message → Header → Stamp
stamp_for before h = record {
  export_time = h.export_time;
  sequence = unwrap_or (due_in h.domain before) h.sequence;
  domain = h.domain;
}

-- the domain's templates after these messages, as messages
pub record Leads (before here : List Message) (h : Header) (lead : List (List ℕ)) : Type 0 where
  pub templates : List Template
  pub in_force : AreInForce templates (events_in (known_after [] (before ++ here)) h.domain)
  -- they can be written, and so can the numbers of the headers
  pub spelled : All IsTemplate templates
  pub fits : IsStamp (stamp_for before h)
  pub is : IsPreamble (stamp_for before h) templates lead

-- the head of the file, if the message is its first, and its domain's preamble, if the domain begins again
pub record Precedes (before here : List Message) (h : Header) (lead : List (List ℕ)) : Type 0 where
  pub head : List (List ℕ)
  pub own : List (List ℕ)
  pub is : lead ≡ head ++ own
  pub begins : BeginsWith before here h head
  pub leads : MatchBool (begins_again before here h.domain) (Leads before here h own) (own ≡ [])

-- what stands in a file from a place on, for messages and what they gave in the session: before are those of earlier
-- files, and here those that the file has already
abbrev pub Writes : List Message → List Message → List (List ℕ) → List Message → List (List ℕ) → Type 0
Writes before here [] [] w = w ≡ []
Writes before here (m ∷ ms) (x ∷ xs) w =
    (lead : List (List ℕ)) × (rest : List (List ℕ)) × (w ≡ lead ++ (m ∷ rest))
    × (message_gives (known_after [] (before ++ here)) m ≡ Ok x) × Precedes before here x.header lead × Writes before (here ++ x ∷ []) ms xs rest
Writes before here [] (x ∷ xs) w = ⊥
Writes before here (m ∷ ms) [] w = ⊥

-- a part of a session: its messages, what they gave, and the messages of the file that it stands in
pub record Part : Type 0 where
  pub messages : List (List ℕ)
  pub given : List Message
  pub file : List (List ℕ)

-- parts in turn, each in a file of its own
abbrev pub Recorded : List Message → List Part → Type 0
Recorded before [] = Unit {0}
Recorded before (p ∷ ps) = Writes before [] p.messages p.given p.file × Recorded (before ++ p.given) ps
