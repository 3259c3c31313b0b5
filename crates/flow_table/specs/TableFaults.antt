-- Faults of tables: what they say, and the number and the name that reports give for each.
use Rattle.std.specs.Prelude.{◌≡◌, ℕ, List, codes, Result, IfErr}
use Rattle.flow_table.specs.declared.table_fault.TableFault.{TableFault}
use Rattle.flow_table.specs.declared.table_fault.TableFault.TheVariants.{OutOfMemory, SumTooLarge}

-- what holds if a sum is too large
abbrev pub OnSumTooLarge : {X : Type 0} → Result X TableFault → Type 0 → Type 0
OnSumTooLarge result P = IfErr result (λ e. e ≡ SumTooLarge → P)

abbrev pub number_of : TableFault → ℕ
number_of OutOfMemory = 1
number_of SumTooLarge = 2

abbrev pub name_of : TableFault → List ℕ
name_of OutOfMemory = codes "OutOfMemory"
name_of SumTooLarge = codes "SumTooLarge"
