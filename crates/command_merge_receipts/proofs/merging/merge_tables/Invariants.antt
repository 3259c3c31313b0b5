use Rattle.std.proofs.Common.{take}
use Rattle.report_writing.specs.Told.{AreTold}
use Rattle.command_merge.specs.MergeLines.{files_opened_lines}
use Rattle.command_merge_receipts.specs.Stops.{names_in}
use Rattle.command_merge_receipts.proofs.TablesMerged.{Stands}
use Rattle.command_merge_receipts.proofs.merging.merge_tables.Given as goal

-- the first tables were opened, told and added
abbrev pub invariant-loop-index : goal.invariant-loop-index
invariant-loop-index g l = record {
  stands : Stands (g.T.ReadText.has l.fn.texts) l.fn.job.intervals l.fn.job.plan.now (take l.index l.fn.tables) l.merging;
  told : AreTold (g.E.WriteLines.lines l.fn.err).contents (g.E.WriteLines.lines l.err).contents (g.E.WriteLines.lines l.err).failed (files_opened_lines l.fn.job.verbosity (names_in (take l.index l.fn.tables)));
  kept : (g.E.WriteLines.lines l.fn.err).failed → (g.E.WriteLines.lines l.err).failed;
}
