-- What was listed of a folder of recordings.
use Rattle.std.specs.Prelude.{◌≡◌, ℕ, List, [], ◌∷◌, ◌++◌, Option, None, Some}
use Rattle.std.specs.declared.alloc.Global.{Global}
use Rattle.std.specs.declared.string.String.{String}

-- the names in the folder of a period, by its beginning, or in that of what isn't finished
pub record Listing : Type 0 where
  pub period : Option ℕ
  pub names : List (String Global)

-- of a folder that shows what was listed, this was listed next
abbrev pub ListsNext : Option (List Listing) → Option (List Listing) → Listing → Type 0
ListsNext None new listing = Unit {0}
ListsNext (Some old) new listing = new ≡ Some (old ++ listing ∷ [])

module _ {F : Type 0} (listed : F → Option (List Listing)) where
  -- these names were listed next, in the folder of the period that begins then
  abbrev pub ListsPeriod : F → F → ℕ → List (String Global) → Type 0
  ListsPeriod before after begins names = ListsNext (listed before) (listed after) (record { period = Some begins; names = names })

  -- in that of what isn't finished
  abbrev pub ListsUnfinished : F → F → List (String Global) → Type 0
  ListsUnfinished before after names = ListsNext (listed before) (listed after) (record { period = None; names = names })
