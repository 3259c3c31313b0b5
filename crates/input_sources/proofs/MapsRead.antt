-- The maps of paths, one after another.
use Rattle.std.proofs.Common.{◌≡◌, ◌≤◌, ◌<◌, ◌-◌, ℕ, List, [], ◌∷◌, ◌++◌, length, map, take, drop, ap, refl, subst, inl, inr, ◌∙◌, arith}
use Rattle.std.specs.Prelude.{slice_index_or}
use Rattle.std.proofs.Math.Seq.{take-length}
use Rattle.input_sources.specs.declared.maps.LoadedMap.{LoadedMap}
use Rattle.report_writing.specs.declared.reason.Reason.{Reason}
use Rattle.report_writing.specs.declared.verbosity.Verbosity.{Verbosity}
use Rattle.input_sources.specs.MapsLoaded.{AreMapsOf, HasNoMap, HaveNoMaps, IsMapAt}

rest_of : {X : Type 0} (x : X) (xs : List X) → take (length (x ∷ xs) - 1) (drop 1 (x ∷ xs)) ≡ xs
rest_of x xs = let left : length (x ∷ xs) - 1 ≡ length xs = omega arith in ap (λ (n : ℕ). take n xs) left ∙ take-length xs

module _ (Has : List ℕ → List ℕ → Type 0) where
  -- the map of the first, and those of the others
  pub maps_then : {X : Type 0} (f : X → List ℕ) (paths : List X) (d : X) (m : LoadedMap) (more : List LoadedMap) → 1 ≤ length paths → IsMapAt Has (f (slice_index_or paths 0 d)) m
      → AreMapsOf Has (map f (take (length paths - 1) (drop 1 paths))) more → AreMapsOf Has (map f paths) (m ∷ more)
  maps_then f [] d m more some is rest = absurd (omega (arith, some))
  maps_then {X = X} f (p ∷ ps) d m more some is rest = (is, subst (λ (xs : List X). AreMapsOf Has (map f xs) more) (rest_of p ps) rest)

  pub no_more : {X : Type 0} (f : X → List ℕ) (paths : List X) → length paths < 1 → AreMapsOf Has (map f paths) []
  no_more f [] none = tt
  no_more f (p ∷ ps) none = absurd (omega (arith, none))

  module _ (Refuses : List ℕ → Reason → Type 0) (verbosity : Verbosity) where
    pub none_here : {X : Type 0} (f : X → List ℕ) (paths : List X) (d : X) (lines : List ℕ) → 1 ≤ length paths → HasNoMap Has Refuses verbosity (f (slice_index_or paths 0 d)) lines → HaveNoMaps Has Refuses verbosity (map f paths) lines
    none_here f [] d lines some none = absurd (omega (arith, some))
    none_here f (p ∷ ps) d lines some none = inl none

    pub none_later : {X : Type 0} (f : X → List ℕ) (paths : List X) (d : X) (m : LoadedMap) (lines : List ℕ) → 1 ≤ length paths → IsMapAt Has (f (slice_index_or paths 0 d)) m
        → HaveNoMaps Has Refuses verbosity (map f (take (length paths - 1) (drop 1 paths))) lines → HaveNoMaps Has Refuses verbosity (map f paths) lines
    none_later f [] d m lines some is rest = absurd (omega (arith, some))
    none_later {X = X} f (p ∷ ps) d m lines some is rest = inr (m, is, subst (λ (xs : List X). HaveNoMaps Has Refuses verbosity (map f xs) lines) (rest_of p ps) rest)
