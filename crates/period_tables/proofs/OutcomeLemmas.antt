-- What became of a period of which the table was due.
use Rattle.std.proofs.Common.{◌≡◌, ℕ, List, ap, sym, subst, ◌∙◌}
use Rattle.std.specs.declared.alloc.Global.{Global}
use Rattle.std.specs.declared.string.String.{String}
use Rattle.ipfix_session.specs.declared.source.Source as source
use Rattle.input_sources.specs.declared.opening.OpenSource as opening
use Rattle.report_writing.specs.declared.write_lines.WriteLines as writing
use Rattle.period_collect.specs.MadeTables.{IsNotMade, IsTableOf}
use Rattle.period_collect.specs.declared.maker.MadeTable.{MadeTable}
use Rattle.recording_periods.specs.declared.due_tables.TableState.TheVariants as table
use Rattle.period_tables.specs.Listings.{ListsPeriod}
use Rattle.period_tables.specs.Outcomes.{IsDueOutcome, IsFinishedOutcome, IsLookedAt, TablesDesk}
use Rattle.period_tables.specs.Standing.{IsKeptBeside, IsPutOrKept}
use Rattle.period_tables.specs.declared.outcome.Outcome.{Outcome}
use Rattle.period_tables.specs.declared.place.TablePlace as placing
use Rattle.period_tables.specs.declared.recordings.Recordings as recordings
use Rattle.period_tables.specs.declared.outcome.Outcome.TheVariants.{NotOver, HeldUp, UpToDate, FileGone, Made, NotRead, NotMade, NotPut}

module _ {F S O E T : Type 0} {as_source : source.Ghosts S} {as_opener : opening.Ghosts O S} {as_writer : writing.Ghosts E} {as_place : placing.Ghosts T} (as_folder : recordings.Ghosts F)
    (begins : ℕ) (files : List (String Global)) (old mid new : TablesDesk F as_source as_opener as_writer as_place) (maker : mid.maker ≡ old.maker) (tables : mid.tables ≡ old.tables) (folder : new.folder ≡ mid.folder)
    (looked : IsLookedAt as_folder begins old mid files table.Due) where
  others_kept : IsKeptBeside as_place.seen begins mid.tables new.tables → IsKeptBeside as_place.seen begins old.tables new.tables
  others_kept kept = subst (λ t. IsKeptBeside as_place.seen begins t new.tables) tables kept

  made_before : (table : MadeTable) → IsTableOf mid.maker new.maker begins files table → IsTableOf old.maker new.maker begins files table
  made_before table made = subst (λ m. IsTableOf m new.maker begins files table) maker made

  still_made : new.maker.job ≡ mid.maker.job → new.maker.job ≡ old.maker.job
  still_made same = same ∙ ap (λ m. m.job) maker

  still_looked : IsLookedAt as_folder begins old new files table.Due
  still_looked = record {
    names = looked.names;
    lists = subst (λ f. ListsPeriod as_folder.listed old.folder f begins looked.names) (sym folder) looked.lists;
    files_of = looked.files_of;
    paths = looked.paths;
    receipt = looked.receipt;
    state_is = looked.state_is;
  }

  due_before : (outcome : Outcome) → IsDueOutcome begins files outcome mid new → IsDueOutcome begins files outcome old new
  due_before NotOver h = absurd h
  due_before (HeldUp held) h = absurd h
  due_before UpToDate h = absurd h
  due_before (FileGone gone) h = absurd h
  due_before (NotRead reason) h = absurd h
  due_before (Made fault) h = record {
    table = h.table;
    made = made_before h.table h.made;
    fault_is = h.fault_is;
    stands = h.stands;
    others = others_kept h.others;
    same_job = still_made h.same_job;
  }
  due_before (NotMade status) h = (h.0 ∙ tables, still_made h.1, subst (λ m. IsNotMade m new.maker begins files status) maker h.2)
  due_before (NotPut reason) h = record {
    table = h.table;
    made = made_before h.table h.made;
    left = subst (λ t. IsPutOrKept as_place.seen begins t new.tables h.table.text.items h.table.receipt.items) tables h.left;
    others = others_kept h.others;
    same_job = still_made h.same_job;
    why = h.why;
  }

  pub finished_outcome : (outcome : Outcome) → IsDueOutcome begins files outcome mid new → IsFinishedOutcome as_folder begins outcome old new
  finished_outcome NotOver h = absurd h
  finished_outcome (HeldUp held) h = absurd h
  finished_outcome UpToDate h = absurd h
  finished_outcome (FileGone gone) h = absurd h
  finished_outcome (NotRead reason) h = absurd h
  finished_outcome (Made fault) h = (files, still_looked, due_before (Made fault) h)
  finished_outcome (NotMade status) h = (files, still_looked, due_before (NotMade status) h)
  finished_outcome (NotPut reason) h = (files, still_looked, due_before (NotPut reason) h)
