-- Taking periods, and writing what became of their tables.
use Rattle.std.specs.Prelude.{◌≡◌, ◌⊎◌, ℕ, Bool, true, false, List, [], ◌∷◌, None, MatchBool}
use Rattle.std.specs.declared.alloc.Global.{Global}
use Rattle.std.specs.declared.string.String.{String}
use Rattle.ipfix_session.specs.declared.source.Source as source
use Rattle.input_sources.specs.declared.opening.OpenSource as opening
use Rattle.report_writing.specs.declared.write_lines.WriteLines as writing
use Rattle.period_collect.specs.declared.maker.TableMaker.{TableMaker}
use Rattle.recording_names.specs.PeriodNames.{IsPeriodName}
use Rattle.recording_names.specs.declared.period.Period.{Period}
use Rattle.period_tables.specs.Listings.{ListsUnfinished}
use Rattle.period_tables.specs.Outcomes.{IsOutcome}
use Rattle.period_tables.specs.declared.desk.Work.{Work}
use Rattle.period_tables.specs.declared.outcome.Outcome.{Outcome}
use Rattle.period_tables.specs.declared.outcome.Outcome.TheVariants.{NotOver, HeldUp}
use Rattle.report_writing.specs.Told.{AreToldTo}
use Rattle.report_writing.specs.declared.reason.Reason.{Reason}
use Rattle.report_writing.specs.declared.status.Status.{Status}
use Rattle.report_writing.specs.declared.status.Status.TheVariants.{Failed, Well}
use Rattle.period_tables.specs.Rounds.{SettlesAtMost, is_settled}
use Rattle.period_tables.specs.Telling.{label_text, outcome_lines, outcome_paths, outcome_status, reason_status, unlisted_lines, worse}
use Rattle.period_tables.specs.declared.place.TablePlace as placing
use Rattle.period_tables.specs.declared.recordings.Recordings as recordings
use Rattle.period_tables.specs.declared.work.Round.{Round}
use Rattle.period_tables.specs.declared.work.Took.{Took}

-- nothing is to be done for it before all days are looked at again
abbrev pub settles : Outcome → Bool
settles NotOver = false
settles (HeldUp name) = false
settles outcome = true

-- one after another
abbrev pub Steps : {State A : Type 0} → (A → State → State → Type 0) → List A → State → State → Type 0
Steps Step [] before after = before ≡ after
Steps {State} Step (a ∷ as') before after = (between : State) × Step a before between × Steps Step as' between after

-- how far a round over periods is: with what it works, and the worst end so far
pub record State (W : Type 0) : Type 0 where
  pub work : W
  pub status : Status

-- the work of a round in which the tables of a folder's periods are made
abbrev pub TablesWork : {S O E T P L : Type 0} → Type 0 → source.Ghosts S → opening.Ghosts O S → writing.Ghosts E → placing.Ghosts T → writing.Ghosts P → writing.Ghosts L → Type 0
TablesWork {S} {O} {E} {T} {P} {L} F as_source as_opener as_writer as_place as_out as_err =
    Work F (TableMaker S O E as_source as_opener as_writer) T P L as_place as_out as_err

-- by what contracts see of the folder
module _ {F S O E T P L : Type 0} {as_source : source.Ghosts S} {as_opener : opening.Ghosts O S} {as_writer : writing.Ghosts E} {as_place : placing.Ghosts T} {as_out : writing.Ghosts P} {as_err : writing.Ghosts L}
    (as_folder : recordings.Ghosts F) where
  -- a period was taken, and its path and lines say what became of its table
  pub record IsTakenAndTold (round : Round) (unfinished : List (String Global)) (period : Period) (took : Took) (before after : TablesWork F as_source as_opener as_writer as_place as_out as_err) : Type 0 where
    pub outcome : Outcome
    pub name : List ℕ
    pub path : List ℕ
    pub is_name : IsPeriodName period.begins name
    pub is_path : as_place.seen.path_at before.desk.tables period.begins path
    pub taken : IsOutcome as_folder round.rule round.now unfinished period before.desk after.desk outcome
    pub paths : AreToldTo as_out.lines before.out after.out (outcome_paths path outcome)
    pub lines : AreToldTo as_err.lines before.err after.err (outcome_lines round.tells_waiting name (label_text round.plan name) outcome)
    pub rounds : after.rounds ≡ before.rounds
    pub status : took.status ≡ outcome_status outcome
    pub settled : took.settled ≡ settles outcome

  -- for want of memory it wasn't
  abbrev pub IsLeft : Took → TablesWork F as_source as_opener as_writer as_place as_out as_err → TablesWork F as_source as_opener as_writer as_place as_out as_err → Type 0
  IsLeft took before after = (took.status ≡ Failed) × (took.settled ≡ false) × (after ≡ before)

  abbrev pub TakesOne : Round → List (String Global) → Period → Took → TablesWork F as_source as_opener as_writer as_place as_out as_err → TablesWork F as_source as_opener as_writer as_place as_out as_err → Type 0
  TakesOne round unfinished period took before after = IsTakenAndTold round unfinished period took before after ⊎ IsLeft took before after

  -- it was taken, and is settled if nothing is to be done for it
  pub record IsNext (round : Round) (unfinished : List (String Global)) (period : Period) (status : Status) (before after : TablesWork F as_source as_opener as_writer as_place as_out as_err) : Type 0 where
    pub took : Took
    pub between : TablesWork F as_source as_opener as_writer as_place as_out as_err
    pub takes : TakesOne round unfinished period took before between
    pub status_is : status ≡ took.status
    pub rest : after ≡ record between { rounds = after.rounds }
    pub settles : MatchBool took.settled (SettlesAtMost period.begins between.rounds after.rounds) (after.rounds ≡ between.rounds)

  -- a period that is settled is passed by, and each other one is taken
  abbrev pub TakesNext : Round → List (String Global) → Period → Status → TablesWork F as_source as_opener as_writer as_place as_out as_err → TablesWork F as_source as_opener as_writer as_place as_out as_err → Type 0
  TakesNext round unfinished period status before after =
      MatchBool (is_settled before.rounds period.begins) ((status ≡ Well) × (after ≡ before)) (IsNext round unfinished period status before after)

  -- and the worst end so far is counted
  abbrev pub IsStep : Round → List (String Global) → Period → State (TablesWork F as_source as_opener as_writer as_place as_out as_err) → State (TablesWork F as_source as_opener as_writer as_place as_out as_err) → Type 0
  IsStep round unfinished period before after = (ended : Status) × TakesNext round unfinished period ended before.work after.work × (after.status ≡ worse before.status ended)

  -- each of them, in their order
  abbrev pub TakesEach : Round → List (String Global) → List Period → Status → TablesWork F as_source as_opener as_writer as_place as_out as_err → TablesWork F as_source as_opener as_writer as_place as_out as_err → Type 0
  TakesEach round unfinished periods status before after =
      Steps (IsStep round unfinished) periods (record { work = before; status = Well }) (record { work = after; status = status })

  -- what isn't finished was listed first, and then each was taken
  pub record AreTaken (round : Round) (periods : List Period) (status : Status) (before after : TablesWork F as_source as_opener as_writer as_place as_out as_err) : Type 0 where
    pub unfinished : List (String Global)
    pub begun : TablesWork F as_source as_opener as_writer as_place as_out as_err
    pub lists : ListsUnfinished as_folder.listed before.desk.folder begun.desk.folder unfinished
    pub rest : begun ≡ record before { desk = record before.desk { folder = begun.desk.folder } }
    pub takes : TakesEach round unfinished periods status begun after

  -- it couldn't be, which a line says, and none was taken
  pub record IsUnlisted (round : Round) (status : Status) (before after : TablesWork F as_source as_opener as_writer as_place as_out as_err) : Type 0 where
    pub reason : Reason
    pub why : as_folder.refuses after.desk.folder None reason
    pub none : as_folder.listed after.desk.folder ≡ as_folder.listed before.desk.folder
    pub rest : after ≡ record before { desk = record before.desk { folder = after.desk.folder }; err = after.err }
    pub lines : AreToldTo as_err.lines before.err after.err (unlisted_lines round.tells_waiting round.from.now reason)
    pub status_is : status ≡ reason_status reason

  abbrev pub Takes : Round → List Period → Status → TablesWork F as_source as_opener as_writer as_place as_out as_err → TablesWork F as_source as_opener as_writer as_place as_out as_err → Type 0
  Takes round periods status before after = AreTaken round periods status before after ⊎ IsUnlisted round status before after
