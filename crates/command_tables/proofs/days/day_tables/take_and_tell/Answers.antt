use Rattle.std.proofs.Common.{inl, refl, string_bytes, subst, true}
use Rattle.report_writing.specs.Told.{AreToldTo}
use Rattle.period_tables.specs.Telling.{outcome_lines, outcome_paths}
use Rattle.command_tables.proofs.days.day_tables.take_and_tell.Goals as goal

pub returns : goal.returns
returns g c = inl (record {
  outcome = c.take_day-outcome.result;
  path = string_bytes c.in-Ok.path;
  between = c.take_day-outcome.new.err;
  is_path = c.in-Ok.ensures;
  taken = c.take_day-outcome.ensures;
  paths = subst (λ path. AreToldTo g.P.WriteLines.lines c.args.work.now.out c.write_paths.new.out (outcome_paths path c.take_day-outcome.result)) c.as_str-name.ensures.value c.write_paths.ensures;
  lines = subst (λ path. AreToldTo g.L.WriteLines.lines c.take_day-outcome.new.err c.tell_outcome.new.err (outcome_lines true path path c.take_day-outcome.result)) c.as_str-name.ensures.value c.tell_outcome.ensures.told;
  rest = refl;
  made_rest = refl;
  status_is = c.tell_outcome.ensures.status;
})
