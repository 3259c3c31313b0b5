-- What is known after files, and what was told of them.
use Rattle.std.specs.Prelude.{◌≡◌, ◌⊎◌, ℕ, List, [], ◌∷◌, ◌++◌, codes, Option, Some, None, Result, Ok, Err}
use Rattle.element_registry.specs.Files.{IsOfText}
use Rattle.element_registry.specs.Registries.{Known}
use Rattle.element_registry.specs.declared.added.Added.{Added}
use Rattle.element_registry.specs.declared.fault.ElementsError.{ElementsError}
use Rattle.report_writing.specs.OpeningLines.{not_had_lines}
use Rattle.report_writing.specs.declared.reason.Reason.{Reason}
use Rattle.report_writing.specs.declared.verbosity.Verbosity.{Verbosity}
use Rattle.input_files.specs.FileLines.{error_line, unknown_type_lines}

-- a path has a text that is read so, after those before it
abbrev pub IsRead : (List ℕ → List ℕ → Type 0) → List Known → List ℕ → Result Added ElementsError → Type 0
IsRead Has known path result = (octets : List ℕ) × Has path octets × IsOfText known octets result

-- a file was added: what is known then, and what was told of it
abbrev pub Adds : (List ℕ → List ℕ → Type 0) → List Known → List ℕ → List Known → List ℕ → Type 0
Adds Has known path more lines =
    (added : Added) × IsRead Has known path (Ok added) × (more ≡ added.elements) × (lines ≡ unknown_type_lines path added.unknown_type)

-- a file can't be had, or has a fault, and that was reported
abbrev pub Stops : (List ℕ → List ℕ → Type 0) → (List ℕ → Reason → Type 0) → Verbosity → List Known → List ℕ → List ℕ → Type 0
Stops Has Refuses verbosity known path lines =
    ((reason : Reason) × Refuses path reason × (lines ≡ not_had_lines verbosity (codes "open") path reason))
    ⊎ ((error : ElementsError) × IsRead Has known path (Err error) × (lines ≡ error_line path error))

-- files were added one after another, up to the first that stops: what is known then, or nothing, and what was told of them
abbrev pub Loads : (List ℕ → List ℕ → Type 0) → (List ℕ → Reason → Type 0) → Verbosity → List Known → List (List ℕ) → Option (List Known) → List ℕ → Type 0
Loads Has Refuses verbosity known [] result lines = (result ≡ Some known) × (lines ≡ [])
Loads Has Refuses verbosity known (path ∷ paths) result lines =
    (Stops Has Refuses verbosity known path lines × (result ≡ None))
    ⊎ ((more : List Known) × (first : List ℕ) × (later : List ℕ) × Adds Has known path more first × Loads Has Refuses verbosity more paths result later
    × (lines ≡ first ++ later))

-- a file was not read, which was told
pub record StopsAtFile (Loads : Option (List Known) → List ℕ → Type 0) (AreTold : List ℕ → Type 0) : Type 0 where
  pub lines : List ℕ
  pub stops : Loads None lines
  pub told : AreTold lines
