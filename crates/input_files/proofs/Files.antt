-- Files that are added one after another.
use Rattle.std.proofs.Common.{◌≡◌, ◌<◌, ◌≤◌, ◌-◌, ℕ, List, [], ◌∷◌, ◌++◌, Option, Some, None, length, map, take, drop, refl, subst, inl, inr, arith}
use Rattle.std.specs.Prelude.{slice_index_or}
use Rattle.std.proofs.Math.Seq.{take-length}
use Rattle.element_registry.specs.Registries.{Known}
use Rattle.report_writing.specs.declared.reason.Reason.{Reason}
use Rattle.report_writing.specs.declared.verbosity.Verbosity.{Verbosity}
use Rattle.input_files.specs.Loaded.{Adds, Loads, Stops}

module _ (Has : List ℕ → List ℕ → Type 0) (Refuses : List ℕ → Reason → Type 0) (verbosity : Verbosity) where
  -- what there is to tell of the files after one that was added is told after its lines
  pub adds_then : {X : Type 0} (f : X → List ℕ) (known more : List Known) (paths : List X) (d : X) (first later : List ℕ) (result : Option (List Known))
      → 1 ≤ length paths → Adds Has known (f (slice_index_or paths 0 d)) more first
      → Loads Has Refuses verbosity more (map f (take (length paths - 1) (drop 1 paths))) result later
      → Loads Has Refuses verbosity known (map f paths) result (first ++ later)
  adds_then {X = X} f known more [] d first later result some adds rest = absurd (omega (arith, some))
  adds_then {X = X} f known more (p ∷ ps) d first later result some adds rest =
      let left : length (p ∷ ps) - 1 ≡ length ps = omega arith in
      let others = subst (λ (n : ℕ). Loads Has Refuses verbosity more (map f (take n ps)) result later) left rest in
      inr (
        more,
        first,
        later,
        adds,
        subst (λ (xs : List X). Loads Has Refuses verbosity more (map f xs) result later) (take-length ps) others,
        refl,
      )

  -- nothing is told after a file that stops
  pub stops_there : {X : Type 0} (f : X → List ℕ) (known : List Known) (paths : List X) (d : X) (lines : List ℕ)
      → 1 ≤ length paths → Stops Has Refuses verbosity known (f (slice_index_or paths 0 d)) lines → Loads Has Refuses verbosity known (map f paths) None lines
  stops_there {X = X} f known [] d lines some stops = absurd (omega (arith, some))
  stops_there {X = X} f known (p ∷ ps) d lines some stops = inl (stops, refl)

  -- nothing is told where no file is left
  pub none_left : {X : Type 0} (f : X → List ℕ) (known : List Known) (paths : List X) → length paths < 1 → Loads Has Refuses verbosity known (map f paths) (Some known) []
  none_left f known [] none = (refl, refl)
  none_left f known (p ∷ ps) none = absurd (omega (arith, none))
