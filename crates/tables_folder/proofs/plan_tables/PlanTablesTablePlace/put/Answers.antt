use Rattle.std.proofs.Common.{inl}
use Rattle.tables_folder.proofs.plan_tables.PlanTablesTablePlace.put.Goals as goal

pub returns-in-Err-clause-err : goal.returns-in-Err-clause-err
returns-in-Err-clause-err c = inl (tt, tt)
