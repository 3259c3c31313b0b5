-- The name of a plan, and the paths of its tables.
use Rattle.std.specs.Prelude.{◌≡◌, ◌≢◌, ◌⊎◌, ℕ, List, [], ◌++◌, codes, string_bytes}
use Rattle.std.specs.declared.alloc.Global.{Global}
use Rattle.std.specs.declared.string.String.{String}
use Rattle.recording_names.specs.PeriodNames.{IsPeriodName}
use Rattle.exporter_names.specs.Cuts.{HasNo, joined}
use Rattle.exporter_names.specs.RecordedExporters.{IsFileName, slash}
use Rattle.tables_folder.specs.declared.plan_names.TableName.{TableName}
use Rattle.tables_folder.specs.declared.plan_names.TablesOf.{TablesOf}
use Rattle.tables_folder.specs.declared.plan_names.TablesOf.TheVariants.{Periods, Days, Months}

-- the name of a file without `.toml` at its end
abbrev pub IsShortName : List ℕ → List ℕ → Type 0
IsShortName file name = (file ≡ name ++ codes ".toml") ⊎ ((file ≡ name) × ((front : List ℕ) → file ≢ front ++ codes ".toml"))

-- of the file of a path
pub record IsPlanName (path name : List ℕ) : Type 0 where
  pub file : List ℕ
  pub is_file : IsFileName path file
  pub is_short : IsShortName file name

abbrev pub hyphen : ℕ
hyphen = 45

-- what stands before the last octet of a value, or the whole text if it has none
abbrev pub IsBefore : ℕ → List ℕ → List ℕ → Type 0
IsBefore octet text front = (HasNo octet text × (front ≡ text)) ⊎ ((back : List ℕ) × (text ≡ joined octet front back) × HasNo octet back)

-- a table is named by its period's name, or by that of its day or its month, in the folder of such
abbrev pub IsTableName : TablesOf → List ℕ → List ℕ → List ℕ → Type 0
IsTableName Periods period folder name = (folder ≡ []) × (name ≡ period)
IsTableName Days period folder name = (folder ≡ codes "days/") × IsBefore slash period name
IsTableName Months period folder name = (folder ≡ codes "months/") × ((day : List ℕ) × IsBefore slash period day × IsBefore hyphen day name)

-- the path of a table of this name in the folder of a plan's tables, with this ending
abbrev pub IsNamedPath : String Global → TableName → List ℕ → List ℕ → Type 0
IsNamedPath folder table ending path = path ≡ string_bytes folder ++ (codes "/" ++ (table.folder.now ++ (table.name.now ++ (codes "." ++ ending))))

-- the table of what begins then has this path in the folder of a plan's tables, with this ending
pub record HasPath (of : TablesOf) (folder : String Global) (ending : List ℕ) (begins : ℕ) (path : List ℕ) : Type 0 where
  pub period : List ℕ
  pub table : TableName
  pub is_period : IsPeriodName begins period
  pub is_name : IsTableName of period table.folder.now table.name.now
  pub is_path : IsNamedPath folder table ending path
