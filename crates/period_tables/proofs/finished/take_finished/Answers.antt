use Rattle.std.proofs.Common.{refl, sym, subst, ◌∙◌}
use Rattle.recording_periods.specs.PeriodFiles.{AreFilesOf}
use Rattle.recording_periods.specs.TableStates.{IsTableState}
use Rattle.recording_periods.specs.declared.due_tables.TableState.TheVariants as table
use Rattle.period_tables.specs.Standing.{items_of}
use Rattle.period_tables.proofs.OutcomeLemmas.{finished_outcome}
use Rattle.period_tables.proofs.finished.take_finished.Goals as goal

pub returns : goal.returns
returns g c =
    finished_outcome g.F.Recordings c.args.period.begins c.deref-in-Due.result.now c.args.desk.now _ c.make_due.new.desk refl c.receipt_files.ensures.kept c.make_due.ensures.folder
    (record {
      names = c.in-Ok.names.items;
      lists = c.in-Ok.ensures.ok;
      files_of = subst (AreFilesOf c.in-Ok.names.items) (sym c.deref-in-Due.ensures.value) c.in-Ok-finished_files.ensures;
      paths = c.in-Ok-receipt_files.paths;
      receipt = c.in-Ok-receipt_files.ensures.ok;
      state_is = subst (λ files. IsTableState files (items_of c.in-Ok-receipt_files.paths) table.Due) (c.deref.ensures.value ∙ sym c.deref-in-Due.ensures.value) c.in-Due.ensures;
    }) c.make_due.result c.make_due.ensures.outcome
