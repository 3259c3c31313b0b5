use Rattle.std.proofs.Common.{◌≡◌, ℕ, List, ◌++◌, length, map}
use Rattle.input_sources.specs.declared.maps.LoadedMap.{LoadedMap}
use Rattle.input_sources.specs.MapsLoaded.{AreMapsOf, HaveNoMaps}
use Rattle.input_sources.proofs.maps.load_maps.Given as goal

-- the maps of the paths that are left follow those that were read, and what is told of them is what is told of all
abbrev pub invariant-loop-left : goal.invariant-loop-left
invariant-loop-left g l = record {
  maps : (more : List LoadedMap) → AreMapsOf (g.T.ReadText.has l.files) (map (λ path. path.now) l.left) more
      → AreMapsOf (g.T.ReadText.has l.files) (map (λ path. path.now) l.initial.left) (l.maps.items ++ more);
  none : (lines : List ℕ) → HaveNoMaps (g.T.ReadText.has l.files) (g.T.ReadText.refuses l.files) l.verbosity (map (λ path. path.now) l.left) lines
      → HaveNoMaps (g.T.ReadText.has l.files) (g.T.ReadText.refuses l.files) l.verbosity (map (λ path. path.now) l.initial.left) lines;
  silent : l.err ≡ l.initial.err;
}

abbrev pub decreases-loop-left : goal.decreases-loop-left
decreases-loop-left g l = length l.left
