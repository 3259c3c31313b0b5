use Rattle.std.proofs.Common.{◌∙◌, ap, inl, inr, refl, string_bytes, subst}
use Rattle.report_writing.specs.Told.{AreToldTo}
use Rattle.period_tables.specs.Telling.{outcome_lines, outcome_paths}
use Rattle.period_tables.proofs.work.take_and_tell.Goals as goal

pub returns-in-Ok-take_period : goal.returns-in-Ok-take_period
returns-in-Ok-take_period g c = inl (record {
  outcome = c.in-Ok-take_period.outcome;
  name = string_bytes c.in-Ok.name;
  path = string_bytes c.in-Ok-table_path.path;
  is_name = c.in-Ok.ensures;
  is_path = c.in-Ok-table_path.ensures;
  taken = c.in-Ok-take_period.ensures.ok;
  paths = subst (λ path. AreToldTo g.P.WriteLines.lines c.args.work.now.out c.write_paths.new.out (outcome_paths path c.in-Ok-take_period.outcome)) c.as_str.ensures.value c.write_paths.ensures;
  lines = subst (λ table. AreToldTo g.L.WriteLines.lines c.args.work.now.err c.tell_taken.new.err (outcome_lines c.args.round.tells_waiting (string_bytes c.in-Ok.name) table c.in-Ok-take_period.outcome))
      (c.as_str-table.ensures.value ∙ c.in-Ok-label_of.ensures)
      (subst (λ name. AreToldTo g.L.WriteLines.lines c.args.work.now.err c.tell_taken.new.err (outcome_lines c.args.round.tells_waiting name c.as_str-table.result.now c.in-Ok-take_period.outcome))
      c.as_str-period.ensures.value c.tell_taken.ensures.told);
  rounds = refl;
  status = c.tell_taken.ensures.status;
  settled = c.tell_taken.ensures.settled;
})

pub returns : goal.returns
returns g c = inr (refl, refl, ap (λ d. record c.args.work.now { desk = d }) c.in-Err.ensures.err)
