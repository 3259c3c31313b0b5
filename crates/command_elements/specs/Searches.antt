-- What is written and answered of the elements of a list.
use Rattle.std.specs.Prelude.{◌≡◌, ℕ, Bool, List, Option}
use Rattle.std.specs.Io.KnownBytes.{Appends}
use Rattle.std.specs.Option.{option_copied}
use Rattle.command_elements.specs.declared.search.Listed as code
use Rattle.command_elements.specs.declared.search.Search.{Search}
use Rattle.command_elements.specs.Lines.{has_fitting, lines_of}
use Rattle.command_elements.specs.Listed.{Listed, all_listed, listed_as}

abbrev pub seen : code.Listed → Listed
seen k = listed_as k.element k.name.now k.kind

abbrev pub all_in : Search → List Listed
all_in search = all_listed search.elements.now

-- a line was written for each of these that the word fits, and nothing else; `found` says whether there is one
pub record Shows (search : Search) (ks : List Listed) (Writes : List ℕ → Type 0) (found : Bool) : Type 0 where
  pub written : Writes (lines_of search.elements.now (option_copied search.word) ks)
  pub answered : has_fitting (option_copied search.word) ks ≡ found

module _ {W : Type 0} (contents : W → Option (List ℕ)) (old new : W) (search : Search) where
  -- the same of what was written to a writer
  abbrev pub ShowsTo : List Listed → Bool → Type 0
  ShowsTo ks found = Shows search ks (Appends (contents old) (contents new)) found

  -- of all elements
  abbrev pub ShowsAll : Bool → Type 0
  ShowsAll found = ShowsTo (all_in search) found
