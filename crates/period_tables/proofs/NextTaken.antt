-- A period that isn't settled, and was taken.
use Rattle.std.proofs.Common.{◌≡◌, ℕ, Bool, true, false, List, Result, Ok, Err, inl, inr, refl, sym, subst}
use Rattle.std.specs.Prelude.{MatchBool, OnErr, OnOk}
use Rattle.std.specs.declared.alloc.Global.{Global}
use Rattle.std.specs.declared.string.String.{String}
use Rattle.ipfix_session.specs.declared.source.Source as source
use Rattle.input_sources.specs.declared.opening.OpenSource as opening
use Rattle.report_writing.specs.declared.write_lines.WriteLines as writing
use Rattle.recording_names.specs.declared.period.Period.{Period}
use Rattle.report_writing.specs.declared.status.Status.TheVariants.{Well}
use Rattle.period_tables.specs.Rounds.{Settles, SettlesAtMost, is_settled}
use Rattle.period_tables.specs.Taking.{IsNext, TablesWork, TakesNext, TakesOne}
use Rattle.period_tables.specs.declared.place.TablePlace as placing
use Rattle.period_tables.specs.declared.recordings.Recordings as recordings
use Rattle.period_tables.specs.declared.rounds.Rounds.{Rounds}
use Rattle.period_tables.specs.declared.work.Round.{Round}
use Rattle.period_tables.specs.declared.work.Took.{Took}

-- the answer of what settles it
pub at_most : {A E : Type 0} (answer : Result A E) (begins : ℕ) (before after : Rounds) → OnOk answer (Settles begins before after) → OnErr answer (after ≡ before) → SettlesAtMost begins before after
at_most (Ok done) begins before after ok err = inl ok
at_most (Err refused) begins before after ok err = inr err

module _ {F S O E T P L : Type 0} {as_source : source.Ghosts S} {as_opener : opening.Ghosts O S} {as_writer : writing.Ghosts E} {as_place : placing.Ghosts T} {as_out : writing.Ghosts P} {as_err : writing.Ghosts L}
    (as_folder : recordings.Ghosts F) (round : Round) (unfinished : List (String Global)) (period : Period) (before between : TablesWork F as_source as_opener as_writer as_place as_out as_err) (took : Took)
    (unsettled : is_settled before.rounds period.begins ≡ false) (takes : TakesOne as_folder round unfinished period took before between) where
  next : (after : TablesWork F as_source as_opener as_writer as_place as_out as_err) → IsNext as_folder round unfinished period took.status before after
      → TakesNext as_folder round unfinished period took.status before after
  next after is = subst (λ (b : Bool). MatchBool b ((took.status ≡ Well) × (after ≡ before)) (IsNext as_folder round unfinished period took.status before after)) (sym unsettled) is

  pub settled_next : (rounds : Rounds) → took.settled ≡ true → SettlesAtMost period.begins between.rounds rounds
      → TakesNext as_folder round unfinished period took.status before (record between { rounds = rounds })
  settled_next rounds is settles = next (record between { rounds = rounds }) (record {
    took = took;
    between = between;
    takes = takes;
    status_is = refl;
    rest = refl;
    settles = subst (λ (b : Bool). MatchBool b (SettlesAtMost period.begins between.rounds rounds) (rounds ≡ between.rounds)) (sym is) settles;
  })

  pub unsettled_next : took.settled ≡ false → TakesNext as_folder round unfinished period took.status before between
  unsettled_next is = next between (record {
    took = took;
    between = between;
    takes = takes;
    status_is = refl;
    rest = refl;
    settles = subst (λ (b : Bool). MatchBool b (SettlesAtMost period.begins between.rounds between.rounds) (between.rounds ≡ between.rounds)) (sym is) refl;
  })
