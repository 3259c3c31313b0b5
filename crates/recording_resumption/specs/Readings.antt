-- A file of an earlier run while it is read.
use Rattle.std.specs.Prelude.{◌≡◌, ℕ, false, List, [], ◌++◌, length, nat_eq, None}
use Rattle.indexmap.specs.IndexMap.{get}
use Rattle.ipfix_message.specs.Domains.{Message, StandsFor}
use Rattle.ipfix_session.specs.Feeding.{State, StandsForText, Tells}
use Rattle.ipfix_session.specs.Given.{gives, known_after, records_in}
use Rattle.ipfix_session.specs.Intake.{counts_of}
use Rattle.ipfix_session.specs.Ledger.{messages_of}
use Rattle.ipfix_session.specs.MessageSinks.{MessageSinkView}
use Rattle.recording_resumption.specs.Resumption.{last_of}
use Rattle.recording_resumption.specs.declared.earlier_reading.EarlierReading.{EarlierReading}
use Rattle.recording_resumption.specs.declared.file_messages.FileMessages.{FileMessages}

-- these messages are counted, and the last of each domain is kept
pub record HasCounted (m : FileMessages) (ms : List Message) : Type 0 where
  pub tells : Tells (counts_of m.tally) ms (length (records_in ms))
  pub last : (domain : ℕ) → get nat_eq m.last domain ≡ last_of (messages_of domain ms)

-- and the templates in force after them are known
pub record KnowsAfter (m : FileMessages) (before given : List Message) : Type 0 where
  pub not_spent : m.domains.spent ≡ false
  pub stands : StandsFor m.domains.domains (known_after (known_after [] before) given)

-- what is done with the messages of a file
abbrev pub messages_view : MessageSinkView FileMessages (Unit {0})
messages_view = record {
  Before = List Message;
  known = λ before. known_after [] before;
  took = λ before m to messages given. HasCounted m (before ++ given);
  limit = λ before. None;
  is_ready = λ before m given. KnowsAfter m before given;
  gave_part = λ before m to given next. ⊥;
}

-- what is kept, as that of a session
abbrev pub session_of : EarlierReading → State
session_of r = record { counts = counts_of r.messages.tally; domains = r.messages.domains; limit = None; buffer = r.buffer.items; fault = r.fault }

-- this text was read
pub record HasReadSession (r : EarlierReading) (text : List ℕ) : Type 0 where
  pub session : StandsForText None (session_of r) text
  pub counted : HasCounted r.messages (gives text).messages

-- of whatever text was read
abbrev pub ForTextRead : EarlierReading → (List ℕ → Type 0) → Type 0
ForTextRead r P = (text : List ℕ) → HasReadSession r text → P text
