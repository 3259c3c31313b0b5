-- Rows that can be written.
use Rattle.std.proofs.Common.{ℕ, ◌^◌, ◌<◌, List, length, All}
use Rattle.flow_table.specs.Plans.{PlanValue}
use Rattle.flow_table.specs.SameTables.{RowValue}
use Rattle.flow_export.specs.Fitting.{FitsValue}
use Rattle.flow_export.proofs.Room.{HasRoom}

pub record CanBeWritten (plan : PlanValue) (time : ℕ) (rows : List RowValue) : Type 0 where
  pub room : HasRoom plan
  pub small_time : time < 2 ^ 32
  pub few : length rows < 2 ^ 32
  pub fit : All (FitsValue plan) rows
