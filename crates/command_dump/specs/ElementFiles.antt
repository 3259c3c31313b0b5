-- A run that first reads files of elements.
use Rattle.std.specs.Prelude.{◌≡◌, ◌≢◌, ℕ, List, ◌++◌, Option, Some}
use Rattle.element_registry.specs.Registries.{Known}
use Rattle.input_files.specs.Loaded.{StopsAtFile}
use Rattle.report_writing.specs.declared.status.Status.{Status}
use Rattle.report_writing.specs.declared.status.Status.TheVariants.{NotOpened}

-- with what reading the files gave and told, and what a run with these elements does that tells its lines so
module _ (Loads : Option (List Known) → List ℕ → Type 0) (Runs : List Known → (List ℕ → Type 0) → Type 0) where
  -- the files were read, and the run told its lines after those of files
  pub record RunsWithElements (AreTold : List ℕ → Type 0) : Type 0 where
    pub known : List Known
    pub lines : List ℕ
    pub loaded : Loads (Some known) lines
    pub runs : Runs known (λ more. AreTold (lines ++ more))

  pub record RunsAfterFiles (Untouched : Type 0) (AreTold : List ℕ → Type 0) (status : Status) : Type 0 where
    pub loaded : status ≢ NotOpened → RunsWithElements AreTold
    -- a file was not read: then nothing is read of the source, and nothing is written
    pub stopped : status ≡ NotOpened → StopsAtFile Loads AreTold
    pub untouched : status ≡ NotOpened → Untouched
