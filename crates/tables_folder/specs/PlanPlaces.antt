-- The places of a plan's tables.
use Rattle.std.specs.Prelude.{◌≡◌, ℕ, List, ◌++◌, codes, string_bytes}
use Rattle.tables_folder.specs.declared.plan_names.TablesOf.{TablesOf}
use Rattle.tables_folder.specs.declared.plan_tables.PlanTables.{PlanTables}

-- the tables at a place are of these, and their names have this ending
pub record HasTablesOf (of : TablesOf) (ending : List ℕ) (tables : PlanTables) : Type 0 where
  pub of_is : tables.of ≡ of
  pub ending_is : tables.ending.now ≡ ending

-- they are those of a plan of this name and this text, in its own folder in the folder of this path
pub record IsFolderOf (folder name plan : List ℕ) (tables : PlanTables) : Type 0 where
  pub path_is : string_bytes tables.path ≡ folder ++ (codes "/" ++ name)
  pub plan_is : tables.plan.now ≡ plan
