-- What putting records does.
use Rattle.std.specs.Prelude.{◌≡◌, ℕ, ◌+◌, List, ◌∷◌, ◌++◌, length, Result, Ok, Err}
use Rattle.ipfix_message.specs.declared.record.DataRecord.{DataRecord}
use Rattle.ipfix_session.specs.declared.fault.SessionFault.{SessionFault}
use Rattle.ipfix_session.specs.declared.fault.SessionFault.TheVariants.{Message, Truncated, ReadFailed, TooManyReads, SinkClosed}
use Rattle.ipfix_session.specs.Ledger.{capped}
use Rattle.ipfix_session.specs.Sinks.{SinkView, Takes}
use Rattle.ipfix_session.specs.Sources.{one_more}

-- a count went on by so many
abbrev pub CountsOn : ℕ → ℕ → ℕ → Type 0
CountsOn old more new = (n : ℕ) → old ≡ capped n → new ≡ capped (n + more)

module _ {K : Type 0} (view : SinkView K) where
  -- the sink took the first of the records and gave the next back
  pub record GivesBack (records : List DataRecord) (old new : ℕ) (before after : K) : Type 0 where
    pub first : List DataRecord
    pub item : DataRecord
    pub others : List DataRecord
    pub are : records ≡ first ++ item ∷ others
    pub last : K
    pub takes : Takes view before first last
    pub back : view.refused after ≡ one_more (view.refused last)
    pub counted : CountsOn old (length first) new

  abbrev pub Puts : Result (Unit {0}) SessionFault → List DataRecord → ℕ → ℕ → K → K → Type 0
  Puts (Ok x) records old new before after = Takes view before records after × CountsOn old (length records) new
  Puts (Err SinkClosed) records old new before after = GivesBack records old new before after
  Puts (Err (Message e)) records old new before after = ⊥
  Puts (Err Truncated) records old new before after = ⊥
  Puts (Err ReadFailed) records old new before after = ⊥
  Puts (Err TooManyReads) records old new before after = ⊥
