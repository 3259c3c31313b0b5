use Rattle.std.proofs.Common.{Some, refl}
use Rattle.command_tables.proofs.days.merging.run_merge.Goals as goal

pub returns : goal.returns
returns g c = record {
  to = record { out = c.new.result; place = Some c.new-2.result };
  kept = c.new-2.result;
  merge = c.job_of.result;
  empty = c.new.ensures.items;
  place = refl;
  is_merge = c.job_of.ensures.job;
  runs = c.run_merge_parts.ensures.runs;
}
