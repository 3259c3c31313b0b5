use Rattle.std.proofs.Common.{string_bytes, subst}
use Rattle.tables_folder.specs.PlanNames.{IsTableName}
use Rattle.tables_folder.proofs.plan_names.table_path.Goals as goal

pub returns : goal.returns
returns c = record {
  period = string_bytes c.in_ok-name.name;
  table = c.short_of.result;
  is_period = c.in_ok-name.ensures;
  is_name = subst (λ period. IsTableName c.args.of period c.short_of.result.folder.now c.short_of.result.name.now) c.as_str.ensures.value c.short_of.ensures;
  is_path = c.in_ok-path.ensures;
}
