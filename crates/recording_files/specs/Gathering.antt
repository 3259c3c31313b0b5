-- The whole messages of a read, gathered to be written at once.
use Rattle.std.specs.Prelude.{◌≡◌, ℕ, List, [], ◌++◌, Option}
use Rattle.ipfix_message.specs.Domains.{Message}
use Rattle.ipfix_session.specs.Given.{known_after, octets_of}
use Rattle.ipfix_session.specs.MessageSinks.{MessageSinkView}
use Rattle.recording_files.specs.Recordings.{Writes}
use Rattle.recording_files.specs.Recorders.{KeepsWithin, AreCountsOf, Told, Counted}
use Rattle.recording_files.specs.declared.gathering.Gathering.{Gathering}

-- nothing has come yet of a session whose templates may count so much, or anything
pub record IsFresh (limit : Option ℕ) (g : Gathering) : Type 0 where
  pub keeps : KeepsWithin limit g.recorder [] []
  pub counted : Counted g.counts.told [] []

-- what the templates of the session may count, if they have a limit, the messages of earlier files, those of this one before a
-- read, and what is told of them
pub record BeforeRead : Type 0 where
  pub limit : Option ℕ
  pub before : List Message
  pub here : List Message
  pub told : Told

-- what a file has of messages waits to be written, and they wait to be counted
pub record Waits (b : BeforeRead) (g : Gathering) (messages : List (List ℕ)) (given : List Message) : Type 0 where
  pub file : List (List ℕ)
  pub writes : Writes b.before b.here messages given file
  pub out_is : g.out.items ≡ octets_of file
  pub counted : AreCountsOf g.counts.waiting given
  pub told_is : g.counts.told ≡ b.told

-- what a recording does with its messages: it gathers them
abbrev pub gathering_view : MessageSinkView Gathering (Unit {0})
gathering_view = record {
  Before = BeforeRead;
  known = λ b. known_after [] (b.before ++ b.here);
  took = λ b g to messages given. Waits b g messages given;
  limit = λ b. b.limit;
  is_ready = λ b g given. KeepsWithin b.limit g.recorder b.before (b.here ++ given);
  gave_part = λ b g to given next. ⊥;
}
