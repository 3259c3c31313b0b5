use Rattle.std.proofs.Common.{ℕ, List, [], ◌++◌, length, map, Option}
use Rattle.report_writing.specs.Told.{AreTold}
use Rattle.element_registry.specs.Registries.{Known}
use Rattle.input_files.specs.Loaded.{Loads}
use Rattle.input_files.proofs.loading.load_elements.Given as goal

-- what is told of the files that are left is told after what was told so far
abbrev pub invariant-loop-paths : goal.invariant-loop-paths
invariant-loop-paths g l = record {
  loads : (told : List ℕ) × AreTold (g.E.WriteLines.lines l.initial.err).contents (g.E.WriteLines.lines l.err).contents (g.E.WriteLines.lines l.err).failed told
      × ((result : Option (List Known)) (lines : List ℕ) → Loads (g.T.ReadText.has l.files) (g.T.ReadText.refuses l.files) l.verbosity l.elements (map (λ path. path.now) l.paths) result lines
      → Loads (g.T.ReadText.has l.files) (g.T.ReadText.refuses l.files) l.verbosity [] (map (λ path. path.now) l.initial.paths) result (told ++ lines));
  kept : (g.E.WriteLines.lines l.initial.err).failed → (g.E.WriteLines.lines l.err).failed;
}

abbrev pub decreases-loop-paths : goal.decreases-loop-paths
decreases-loop-paths g l = length l.paths
