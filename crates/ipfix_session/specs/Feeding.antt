-- What a session stands for, and what feeding it a piece of its text does.
use Rattle.std.specs.Prelude.{◌≡◌, ℕ, false, List, ◌∷◌, ◌++◌, ◌+◌, length, sum_by, Option, Some, None, Result, Ok, Err}
use Rattle.ipfix_message.specs.Domains.{DomainsView, Message, StandsFor}
use Rattle.ipfix_message.specs.declared.fault.MessageFault.TheVariants.{OutOfMemory}
use Rattle.ipfix_message.specs.declared.passed_over.PassedOver.{PassedOver}
use Rattle.ipfix_message.specs.declared.record.DataRecord.{DataRecord}
use Rattle.ipfix_session.specs.declared.stop.Stop.{Stop}
use Rattle.ipfix_session.specs.declared.stop.Stop.TheVariants.{Clean, Short, Fault}
use Rattle.ipfix_session.specs.declared.fault.SessionFault.{SessionFault}
use Rattle.ipfix_session.specs.declared.fault.SessionFault.TheVariants as faults
use Rattle.ipfix_session.specs.declared.account.Account.{Account}
use Rattle.ipfix_session.specs.MessageStream.{cut}
use Rattle.ipfix_session.specs.Given.{given_within, known_within, records_in, records_within, stop_within, IsOpen, IsPrefix, IsToldOf}
use Rattle.ipfix_session.specs.Ledger.{capped}
use Rattle.ipfix_session.specs.Accounts.{accounts_of}
use Rattle.ipfix_session.specs.Reports.{passed_over_in}
use Rattle.ipfix_session.specs.Places.{length_of}
use Rattle.ipfix_session.specs.Sources.{one_more}
use Rattle.ipfix_session.specs.Sinks.{SinkView, Takes}

-- the counts of a session, and the accounts of its domains
pub record Counts : Type 0 where
  pub messages : ℕ
  pub octets : ℕ
  pub delivered : ℕ
  pub passed_over : PassedOver
  pub accounts : List (ℕ × Account)

-- what contracts see of a session
pub record State : Type 0 where
  pub counts : Counts
  pub domains : DomainsView
  pub limit : Option ℕ
  pub buffer : List ℕ
  pub fault : Option SessionFault

-- the counts are of these messages, and of that many records that were taken
pub record Tells (c : Counts) (ms : List Message) (delivered : ℕ) : Type 0 where
  pub messages : c.messages ≡ capped (length ms)
  pub octets : c.octets ≡ capped (sum_by length_of ms)
  pub delivered_is : c.delivered ≡ capped delivered
  pub passed_over : c.passed_over ≡ passed_over_in ms
  pub accounts : c.accounts ≡ accounts_of ms

-- whatever messages counts are of, and whatever number of records that were taken, this is told of them
abbrev pub AreToldAs : Counts → (List Message → ℕ → Type 0) → Type 0
AreToldAs c told = (ms : List Message) (delivered : ℕ) → Tells c ms delivered → told ms delivered

-- the fault that a text ends its session with, however it goes on
abbrev pub fault_at : Stop → Option SessionFault
fault_at Clean = None
fault_at Short = None
fault_at (Fault e) = Some (faults.Message e)

-- it goes on from the rest of a text, with the domains and events of its messages
pub record GoesOnFrom (limit : Option ℕ) (s : State) (text : List ℕ) : Type 0 where
  pub rest : s.buffer ≡ (cut text).rest
  pub not_spent : s.domains.spent ≡ false
  pub has_limit : s.limit ≡ limit
  pub known : StandsFor s.domains.domains (known_within limit text)

-- a session whose templates may count so much, or anything, stands for a text
pub record StandsForText (limit : Option ℕ) (s : State) (text : List ℕ) : Type 0 where
  pub fault : s.fault ≡ fault_at (stop_within limit text)
  pub tells : IsToldOf (Tells s.counts) limit text
  pub goes_on : IsOpen (stop_within limit text) → GoesOnFrom limit s text

-- P holds of each text for which a session stands, with the limit of its templates
abbrev pub ForText : State → (Option ℕ → List ℕ → Type 0) → Type 0
ForText s P = (limit : Option ℕ) (text : List ℕ) → StandsForText limit s text → P limit text

module _ {K : Type 0} (view : SinkView K) where
  -- the sink took the records by which those of some messages exceed those of the old ones, and that is reported
  pub record PutsWhole (old whole : List Message) (before after : K) (told : List Message → ℕ → Type 0) : Type 0 where
    pub put : List DataRecord
    pub takes : Takes view before put after
    pub records : records_in whole ≡ records_in old ++ put
    pub tells : told whole (length (records_in whole))

  -- the sink took the records by which the longer text's exceed the shorter's, and the session stands for the longer
  pub record PutsAll (limit : Option ℕ) (text piece : List ℕ) (before after : K) (s : State) : Type 0 where
    pub put : List DataRecord
    pub takes : Takes view before put after
    pub records : records_within limit (text ++ piece) ≡ records_within limit text ++ put
    pub stands : StandsForText limit s (text ++ piece)

  -- memory ran out after some messages, the old ones among them
  pub record RunsOut (old all : List Message) (before after : K) (told : List Message → ℕ → Type 0) : Type 0 where
    pub whole : List Message
    pub from : IsPrefix old whole
    pub up_to : IsPrefix whole all
    pub puts : PutsWhole old whole before after told

  -- the sink gave a record of a message back, after messages that were put whole and the first records of its own
  pub record IsRefused (old all : List Message) (before after : K) (told : List Message → ℕ → Type 0) : Type 0 where
    pub whole : List Message
    pub next : Message
    pub more : List Message
    pub from : IsPrefix old whole
    pub are : all ≡ whole ++ next ∷ more
    pub first : List DataRecord
    pub item : DataRecord
    pub others : List DataRecord
    pub cut_off : next.decoding.records ≡ first ++ item ∷ others
    pub put : List DataRecord
    pub last : K
    pub takes : Takes view before put last
    pub records : records_in whole ++ first ≡ records_in old ++ put
    pub back : view.refused after ≡ one_more (view.refused last)
    pub tells : told whole (length (records_in whole) + length first)

  -- what feeding a piece does to a session that stands for a text, by its answer
  abbrev pub Feeds : Option ℕ → Result (Unit {0}) SessionFault → List ℕ → List ℕ → K → K → State → Type 0
  Feeds limit (Ok x) text piece before after s = IsOpen (stop_within limit (text ++ piece)) × PutsAll limit text piece before after s
  Feeds limit (Err (faults.Message OutOfMemory)) text piece before after s = RunsOut (given_within limit text).messages (given_within limit (text ++ piece)).messages before after (Tells s.counts)
  Feeds limit (Err (faults.Message e)) text piece before after s = (stop_within limit (text ++ piece) ≡ Fault e) × PutsAll limit text piece before after s
  Feeds limit (Err faults.SinkClosed) text piece before after s = IsRefused (given_within limit text).messages (given_within limit (text ++ piece)).messages before after (Tells s.counts)
  Feeds limit (Err faults.Truncated) text piece before after s = ⊥
  Feeds limit (Err faults.ReadFailed) text piece before after s = ⊥
  Feeds limit (Err faults.TooManyReads) text piece before after s = ⊥

  -- after a text a piece was fed without a fault, and then one more, with this answer
  pub record FeedsInTurn (limit : Option ℕ) (text piece more : List ℕ) (answer : Result (Unit {0}) SessionFault) (before after : K) (s : State) : Type 0 where
    pub middle : K
    pub between : State
    pub piece_fed : Feeds limit (Ok tt) text piece before middle between
    pub more_fed : Feeds limit answer (text ++ piece) more middle after s
