-- Where no files are known, a table is written with the names of built-in elements.
use Rattle.std.proofs.Common.{◌≡◌, ℕ, List, [], Option, subst}
use Rattle.element_registry.specs.Registries.{Known}
use Rattle.flow_table.specs.Plans.{PlanValue}
use Rattle.flow_table.specs.declared.table.Table.{Table}
use Rattle.output_tables.specs.TableTexts.{Writes}
use Rattle.output_tables.specs.declared.output.Output.{Output}

pub written_built_in : (known : List Known) (plan : PlanValue) (output : Output) (old new : Option (List ℕ)) (table : Table) → known ≡ [] → Writes known plan output old new table → Writes [] plan output old new table
written_built_in known plan output old new table none = subst (λ (k : List Known). Writes k plan output old new table) none
