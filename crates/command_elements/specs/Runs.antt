-- How the list of elements ended.
use Rattle.std.specs.Prelude.{◌≡◌, ◌⊎◌, ℕ, Bool, true, false, List, [], ◌++◌, Option, Some}
use Rattle.element_registry.specs.Registries.{Known}
use Rattle.input_files.specs.Loaded.{StopsAtFile}
use Rattle.report_writing.specs.declared.status.Status.{Status}
use Rattle.report_writing.specs.declared.status.Status.TheVariants.{Failed, NotOpened, Well}
use Rattle.command_elements.specs.ErrorLines.{failed_line, none_line}
use Rattle.command_elements.specs.Lines.{has_fitting, list_text}
use Rattle.command_elements.specs.Listed.{all_listed}

-- by what is known after files and the lines that were told of them, the word, and what was written and told
module _ (Loads : Option (List Known) → List ℕ → Type 0) (word : Option (List ℕ)) (Writes AreTold : List ℕ → Type 0) where
  -- files were read, and whether a known element fits the word
  pub record Finds (found : Bool) (known : List Known) (lines : List ℕ) : Type 0 where
    pub loaded : Loads (Some known) lines
    pub fitting : has_fitting word (all_listed known) ≡ found

  -- some element fits the word, those that do were written, and nothing was told but of files
  pub record Lists : Type 0 where
    pub known : List Known
    pub lines : List ℕ
    pub finds : Finds true known lines
    pub written : Writes (list_text word known)
    pub told : AreTold lines

  -- no element fits the word, which was told after the lines of files
  pub record ListsNone : Type 0 where
    pub known : List Known
    pub lines : List ℕ
    pub finds : Finds false known lines
    pub told : AreTold (lines ++ none_line)

  -- files were read, and the list couldn't be written, which was told after their lines
  pub record FailsToList : Type 0 where
    pub known : List Known
    pub lines : List ℕ
    pub loaded : Loads (Some known) lines
    pub told : AreTold (lines ++ failed_line)

  -- what the status says
  pub record RunsElements (status : Status) : Type 0 where
    pub statuses : (status ≡ Well) ⊎ (status ≡ NotOpened) ⊎ (status ≡ Failed)
    -- the lines of the elements that the word fits were written, and nothing else was; there is one
    pub listed : status ≡ Well → Lists
    -- a file was not read, or the word fits none
    pub none : status ≡ NotOpened → StopsAtFile Loads AreTold ⊎ ListsNone
    pub untouched : status ≡ NotOpened → Writes []
    pub failed : status ≡ Failed → FailsToList
