-- Taking the text of a period in a round, and writing what became of it.
use Rattle.std.specs.Prelude.{◌≡◌, ◌⊎◌, ◌&&◌, ℕ, Bool, List, MatchBool, not}
use Rattle.recording_names.specs.PeriodNames.{IsPeriodName}
use Rattle.recording_names.specs.declared.period.Period.{Period}
use Rattle.report_writing.specs.Told.{AreToldTo}
use Rattle.report_writing.specs.declared.status.Status.{Status}
use Rattle.report_writing.specs.declared.status.Status.TheVariants.{Failed, Well}
use Rattle.report_writing.specs.declared.write_lines.WriteLines as writing
use Rattle.period_tables.specs.declared.place.TablePlace as placing
use Rattle.period_tables.specs.Rounds.{SettlesAtMost, is_settled}
use Rattle.period_tables.specs.Telling.{label_text}
use Rattle.period_tables.specs.declared.work.Round.{Round}
use Rattle.period_tables.specs.declared.desk.Work.{Work}
use Rattle.command_tables.specs.Outcomes.{IsTextOutcome}
use Rattle.command_tables.specs.Telling.{text_lines, text_paths, text_status}
use Rattle.command_tables.specs.declared.texts.job.TextJob.{TextJob}
use Rattle.command_tables.specs.declared.texts.periods.Texts.{Texts}
use Rattle.command_tables.specs.declared.texts.taking.TextOutcome.{TextOutcome}

module _ {F M T P L : Type 0} {as_place : placing.Ghosts T} {as_out : writing.Ghosts P} {as_err : writing.Ghosts L} (job : TextJob) (round : Round) where
  -- a text was taken, and its path and lines say what became of it
  pub record IsTextTold (begins : ℕ) (status : Status) (before after : Work F M T P L as_place as_out as_err) (texts texts_after : T) : Type 0 where
    pub outcome : TextOutcome
    pub name : List ℕ
    pub path : List ℕ
    pub is_name : IsPeriodName begins name
    pub is_path : as_place.seen.path_at texts begins path
    pub taken : IsTextOutcome as_place.seen job begins outcome before.desk.tables texts texts_after
    pub paths : AreToldTo as_out.lines before.out after.out (text_paths path outcome)
    pub lines : AreToldTo as_err.lines before.err after.err (text_lines (label_text round.plan name) outcome)
    pub rest : after ≡ record before { out = after.out; err = after.err }
    pub status_is : status ≡ text_status outcome

  -- or memory ran out before
  abbrev pub TakesOneText : Period → Status → Work F M T P L as_place as_out as_err → Work F M T P L as_place as_out as_err → T → T → Type 0
  TakesOneText period status before after texts texts_after =
      IsTextTold period.begins status before after texts texts_after ⊎ ((status ≡ Failed) × (after ≡ before) × (texts_after ≡ texts))

  -- it was taken, and is settled
  pub record IsNextText (period : Period) (status : Status) (before after : Work F M T P L as_place as_out as_err) (texts texts_after : Texts T) : Type 0 where
    pub takes : TakesOneText period status before after texts.place texts_after.place
    pub settles : SettlesAtMost period.begins texts.rounds texts_after.rounds

  -- the table of a period is settled, and its text isn't
  abbrev pub is_due : Work F M T P L as_place as_out as_err → Texts T → ℕ → Bool
  is_due work texts begins = is_settled work.rounds begins && not (is_settled texts.rounds begins)

  -- such a text is taken, and each other is passed by
  abbrev pub TakesText : Period → Status → Work F M T P L as_place as_out as_err → Work F M T P L as_place as_out as_err → Texts T → Texts T → Type 0
  TakesText period status before after texts texts_after =
      MatchBool (is_due before texts period.begins) (IsNextText period status before after texts texts_after)
      ((status ≡ Well) × (after ≡ before) × (texts_after ≡ texts))
