use Rattle.std.proofs.Common.{◌≡◌, ℕ, List, Option, length, take}
use Rattle.std.specs.List.{AllZip}
use Rattle.report_writing.specs.Told.{AreTold}
use Rattle.report_writing.specs.declared.reason.Reason.{Reason}
use Rattle.input_sources.specs.Origins.{AreFiles}
use Rattle.input_sources.specs.Had.{NextOnes}
use Rattle.input_sources.specs.InputsTold.{opened_lines}
use Rattle.input_sources.proofs.opening_all.open_all.Given as goal

-- the first paths were opened, each of them once, and told
abbrev pub invariant-loop-index : goal.invariant-loop-index
invariant-loop-index g l = record {
  opened : AllZip (λ path. g.O.OpenSource.opens l.fn.files path.now) (take l.index l.fn.paths) l.sources;
  came : NextOnes (g.O.OpenSource.coming l.fn.files) (g.O.OpenSource.coming l.files) l.sources;
  same : (name : List ℕ) (source : _) → g.O.OpenSource.opens l.files name source → g.O.OpenSource.opens l.fn.files name source;
  same_size : (name : List ℕ) (size : Option ℕ) → g.O.OpenSource.sizes l.files name size → g.O.OpenSource.sizes l.fn.files name size;
  same_reason : (name : List ℕ) (reason : Reason) → g.O.OpenSource.refuses l.files name reason → g.O.OpenSource.refuses l.fn.files name reason;
  named : AreFiles (g.O.OpenSource.sizes l.fn.files) (take l.index l.fn.paths) l.origins.items;
  count : length l.origins.items ≡ l.index;
  told : AreTold (g.E.WriteLines.lines l.fn.err).contents (g.E.WriteLines.lines l.err).contents (g.E.WriteLines.lines l.err).failed (opened_lines l.fn.verbosity l.origins.items);
  kept : (g.E.WriteLines.lines l.fn.err).failed → (g.E.WriteLines.lines l.err).failed;
}
