use Rattle.std.proofs.Common.{ℕ, List, map, take}
use Rattle.report_writing.specs.Told.{AreTold}
use Rattle.report_writing.specs.declared.reason.Reason.{Reason}
use Rattle.command_merge.specs.MergeLines.{files_opened_lines}
use Rattle.command_merge.proofs.Merged.{Stands}
use Rattle.command_merge.proofs.merge.merge_files.Given as goal

-- the first files were opened, told and added
abbrev pub invariant-loop-index : goal.invariant-loop-index
invariant-loop-index g l = record {
  stands : Stands g.S.Source.seen (λ path. g.O.OpenSource.opens l.fn.files path.now) l.fn.job.intervals l.fn.job.plan.now (g.O.OpenSource.coming l.fn.files) (take l.index l.fn.paths) (g.O.OpenSource.coming l.files) l.merging;
  same : (name : List ℕ) (source : _) → g.O.OpenSource.opens l.files name source → g.O.OpenSource.opens l.fn.files name source;
  same_reason : (name : List ℕ) (reason : Reason) → g.O.OpenSource.refuses l.files name reason → g.O.OpenSource.refuses l.fn.files name reason;
  told : AreTold (g.E.WriteLines.lines l.fn.err).contents (g.E.WriteLines.lines l.err).contents (g.E.WriteLines.lines l.err).failed (files_opened_lines l.fn.job.verbosity (map (λ path. path.now) (take l.index l.fn.paths)));
  kept : (g.E.WriteLines.lines l.fn.err).failed → (g.E.WriteLines.lines l.err).failed;
}
