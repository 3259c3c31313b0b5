-- The days and the periods among the names in folders.
use Rattle.std.specs.Prelude.{◌≡◌, ◌⊎◌, ◌<◌, ℕ, List, [], ◌∷◌, ◌++◌, IsSorted, codes, string_bytes}
use Rattle.std.specs.String.{string_cmp}
use Rattle.std.specs.declared.alloc.Global.{Global}
use Rattle.std.specs.declared.string.String.{String}
use Rattle.recording_names.specs.PeriodNames.{calendar_end}
use Rattle.recording_names.specs.declared.period.Period.{Period}
use Rattle.recording_periods.specs.PeriodFolders.{HasNoPeriod, IsPeriodAt}

-- what is found in each item of a list, in the order of the list; in some items there is nothing
abbrev pub Finds : {A B : Type 0} → (A → Type 0) → (A → B → Type 0) → List A → List B → Type 0
Finds HasNone Has [] found = found ≡ []
Finds {A} {B} HasNone Has (a ∷ as') found =
    (HasNone a × Finds HasNone Has as' found) ⊎ ((b : B) × (rest : List B) × Has a b × (found ≡ b ∷ rest) × Finds HasNone Has as' rest)

-- the folder of a day has this name
abbrev pub IsDayName : List ℕ → Type 0
IsDayName name = (begins : ℕ) × IsPeriodAt begins name (codes "000000")

-- of these names exactly those of days, in the same order
abbrev pub AreDaysOf : List (String Global) → List (String Global) → Type 0
AreDaysOf names days = Finds (λ name. HasNoPeriod (string_bytes name) (codes "000000")) (λ name day. IsDayName (string_bytes name) × (day ≡ name)) names days

-- the periods whose folders in that of a day have these names, in the same order
abbrev pub ArePeriodsOf : List ℕ → List (String Global) → List Period → Type 0
ArePeriodsOf day names periods = Finds (λ name. HasNoPeriod day (string_bytes name)) (λ name period. IsPeriodAt period.begins day (string_bytes name)) names periods

-- the table in IPFIX of a period has this name in the folder of a day
abbrev pub IsTableAt : ℕ → List ℕ → List ℕ → Type 0
IsTableAt begins day name = (time : List ℕ) × (name ≡ time ++ codes ".ipfix") × IsPeriodAt begins day time

-- that of no period has it
abbrev pub HasNoTable : List ℕ → List ℕ → Type 0
HasNoTable day name = (begins : ℕ) → begins < calendar_end → ¬ IsTableAt begins day name

-- the periods whose tables have these names, in the same order
abbrev pub AreTablesOf : List ℕ → List (String Global) → List Period → Type 0
AreTablesOf day names periods = Finds (λ name. HasNoTable day (string_bytes name)) (λ name period. IsTableAt period.begins day (string_bytes name)) names periods

-- the days, or the periods of a day, among some names in the order of their octets
pub record AreListedDays (days : List (String Global)) : Type 0 where
  pub names : List (String Global)
  pub in_order : IsSorted string_cmp names
  pub are_days : AreDaysOf names days

pub record AreListedPeriods (day : List ℕ) (periods : List Period) : Type 0 where
  pub names : List (String Global)
  pub in_order : IsSorted string_cmp names
  pub are_periods : ArePeriodsOf day names periods

pub record AreListedTables (day : List ℕ) (periods : List Period) : Type 0 where
  pub names : List (String Global)
  pub in_order : IsSorted string_cmp names
  pub are_tables : AreTablesOf day names periods
