-- Taking the table of a day in a round, and writing what became of it.
use Rattle.std.specs.Prelude.{◌≡◌, ◌⊎◌, ℕ, ◌-◌, true, List, MatchBool}
use Rattle.recording_names.specs.declared.period.Period.{Period}
use Rattle.report_writing.specs.Told.{AreToldTo}
use Rattle.report_writing.specs.declared.status.Status.{Status}
use Rattle.report_writing.specs.declared.status.Status.TheVariants.{Failed, Well}
use Rattle.report_writing.specs.declared.write_lines.WriteLines as writing
use Rattle.period_tables.specs.declared.place.TablePlace as placing
use Rattle.period_tables.specs.declared.outcome.Outcome.{Outcome}
use Rattle.period_tables.specs.Telling.{outcome_lines, outcome_paths, outcome_status}
use Rattle.period_tables.specs.declared.work.Round.{Round}
use Rattle.period_tables.specs.declared.desk.Work.{Work}
use Rattle.command_tables.specs.Outcomes.{IsTextOutcome}
use Rattle.command_tables.specs.Telling.{text_lines, text_paths, text_status}
use Rattle.command_tables.specs.declared.texts.taking.TextOutcome.{TextOutcome}
use Rattle.command_tables.specs.DayOutcomes.{IsDayOutcome}
use Rattle.command_tables.specs.Days.{IsDayOf, is_due, periods_in}
use Rattle.command_tables.specs.declared.days.day_tables.DayTables.{DayTables}
use Rattle.command_tables.specs.declared.days.day_tables.DayTexts.{DayTexts}
use Rattle.command_tables.specs.declared.days.placing.PlacedPeriod.{PlacedPeriod}

module _ {F M T P L : Type 0} {as_place : placing.Ghosts T} {as_out : writing.Ghosts P} {as_err : writing.Ghosts L} where
  -- the table of a day was taken of these periods, and its path and lines, after those of the merge, say what became of it
  pub record IsDayTold (periods : List Period) (begins : ℕ) (status : Status) (before after : Work F M T P L as_place as_out as_err) (made made_after : DayTables T) : Type 0 where
    pub outcome : Outcome
    pub path : List ℕ
    pub between : L
    pub is_path : as_place.seen.path_at made.place begins path
    pub taken : IsDayOutcome as_place.seen as_err.lines made.job periods begins outcome before.desk.tables made.place made_after.place before.err between
    pub paths : AreToldTo as_out.lines before.out after.out (outcome_paths path outcome)
    pub lines : AreToldTo as_err.lines between after.err (outcome_lines true path path outcome)
    pub rest : after ≡ record before { out = after.out; err = after.err }
    pub made_rest : made_after ≡ record made { place = made_after.place }
    pub status_is : status ≡ outcome_status outcome

  -- memory ran out before
  abbrev pub IsLeft : Status → Work F M T P L as_place as_out as_err → Work F M T P L as_place as_out as_err → DayTables T → DayTables T → Type 0
  IsLeft status before after made made_after = (status ≡ Failed) × (after ≡ before) × (made_after ≡ made)

  abbrev pub TakesOneDay : List Period → ℕ → Status → Work F M T P L as_place as_out as_err → Work F M T P L as_place as_out as_err → DayTables T → DayTables T → Type 0
  TakesOneDay periods begins status before after made made_after =
      IsDayTold periods begins status before after made made_after ⊎ IsLeft status before after made made_after

  -- a day that is due by then is taken, of the periods that begin in it, and each other one is passed by
  pub record TakesDay (round : Round) (placed : List PlacedPeriod) (begins : ℕ) (status : Status) (before after : Work F M T P L as_place as_out as_err) (made made_after : DayTables T) : Type 0 where
    pub hour_ago : ℕ
    pub then : IsDayOf made.calendar (round.now - 3_600) hour_ago
    pub takes : MatchBool (is_due placed hour_ago begins) (TakesOneDay (periods_in begins placed) begins status before after made made_after)
        ((status ≡ Well) × (after ≡ before) × (made_after ≡ made))

  -- the text of the table of a day was taken, and its path and lines say what became of it
  pub record IsDayTextTold (begins : ℕ) (status : Status) (before after : Work F M T P L as_place as_out as_err) (made : DayTables T) (texts texts_after : DayTexts T) : Type 0 where
    pub outcome : TextOutcome
    pub table : List ℕ
    pub path : List ℕ
    pub is_table : as_place.seen.path_at made.place begins table
    pub is_path : as_place.seen.path_at texts.place begins path
    pub taken : IsTextOutcome as_place.seen texts.job begins outcome made.place texts.place texts_after.place
    pub paths : AreToldTo as_out.lines before.out after.out (text_paths path outcome)
    pub lines : AreToldTo as_err.lines before.err after.err (text_lines table outcome)
    pub rest : after ≡ record before { out = after.out; err = after.err }
    pub texts_rest : texts_after ≡ record texts { place = texts_after.place }
    pub status_is : status ≡ text_status outcome

  abbrev pub TakesDayText : ℕ → Status → Work F M T P L as_place as_out as_err → Work F M T P L as_place as_out as_err → DayTables T → DayTexts T → DayTexts T → Type 0
  TakesDayText begins status before after made texts texts_after =
      IsDayTextTold begins status before after made texts texts_after ⊎ ((status ≡ Failed) × (after ≡ before) × (texts_after ≡ texts))
