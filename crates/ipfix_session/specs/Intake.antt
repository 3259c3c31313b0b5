-- What the messages of a session leave: what was counted of them, and what a sink took of their records.
use Rattle.std.specs.Prelude.{◌≡◌, ℕ, ◌+◌, false, List, [], ◌∷◌, ◌++◌, length, Option}
use Rattle.ipfix_message.specs.Domains.{History, Message, StandsFor}
use Rattle.ipfix_message.specs.TemplateLimits.{IsWithin}
use Rattle.ipfix_message.specs.declared.record.DataRecord.{DataRecord}
use Rattle.ipfix_session.specs.declared.intake.Intake.{Intake}
use Rattle.ipfix_session.specs.declared.tally.Tally.{Tally}
use Rattle.ipfix_session.specs.Given.{known_after, records_in}
use Rattle.ipfix_session.specs.Sinks.{SinkView, Takes}
use Rattle.ipfix_session.specs.Sources.{one_more}
use Rattle.ipfix_session.specs.Feeding.{Counts, Tells, PutsWhole}
use Rattle.ipfix_session.specs.MessageSinks.{MessageSinkView}

-- the counts that a tally keeps
abbrev pub counts_of : Tally → Counts
counts_of t = record { messages = t.messages; octets = t.octets; delivered = t.delivered; passed_over = t.passed_over; accounts = t.ledger.accounts.entries }

-- a session's messages before, the limit of its templates, and the sink after these messages
pub record Earlier (K : Type 0) : Type 0 where
  pub messages : List Message
  pub limit : Option ℕ
  pub sink : K

-- these messages, and those that were given since
abbrev pub all_of : {K : Type 0} → Earlier K → List Message → List Message
all_of before given = before.messages ++ given

-- these domains and events are known, no message was refused, and the templates are within the limit
pub record KnowsDomains (intake : Intake) (limit : Option ℕ) (ds : History) : Type 0 where
  pub not_spent : intake.domains.spent ≡ false
  pub stands : StandsFor intake.domains.domains ds
  pub has_limit : intake.limit ≡ limit
  pub within : IsWithin limit ds

module _ {K : Type 0} (view : SinkView K) where
  -- the records of messages were put and counted
  abbrev pub PutsGiven : Earlier K → Counts → K → List Message → Type 0
  PutsGiven before counts after given = PutsWhole view before.messages (all_of before given) before.sink after (Tells counts)

  -- the sink gave a record of the next message back, after the first records of it
  pub record GivesBackOf (before : Earlier K) (counts : Counts) (after : K) (given : List Message) (next : Message) : Type 0 where
    pub first : List DataRecord
    pub item : DataRecord
    pub others : List DataRecord
    pub cut_off : next.decoding.records ≡ first ++ item ∷ others
    pub put : List DataRecord
    pub last : K
    pub takes : Takes view before.sink put last
    pub records : records_in (all_of before given) ++ first ≡ records_in before.messages ++ put
    pub back : view.refused after ≡ one_more (view.refused last)
    pub tells : Tells counts (all_of before given) (length (records_in (all_of before given)) + length first)

  -- what a session does with its messages: their records go to a sink
  abbrev pub record_intake : MessageSinkView Intake K
  record_intake = record {
    Before = Earlier K;
    known = λ before. known_after [] before.messages;
    limit = λ before. before.limit;
    took = λ before intake after messages given. PutsGiven before (counts_of intake.tally) after given;
    is_ready = λ before intake given. KnowsDomains intake before.limit (known_after (known_after [] before.messages) given);
    gave_part = λ before intake after given next. GivesBackOf before (counts_of intake.tally) after given next;
  }
