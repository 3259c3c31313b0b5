use Rattle.std.proofs.Common.{inl, refl, string_bytes, subst}
use Rattle.report_writing.specs.Told.{AreToldTo}
use Rattle.command_tables.specs.Telling.{text_lines, text_paths}
use Rattle.command_tables.proofs.days.day_tables.take_day_text.Goals as goal

pub returns : goal.returns
returns g c = inl (record {
  outcome = c.take_text-outcome.result;
  table = string_bytes c.in-Ok.table;
  path = string_bytes c.in-Ok-table_path.path;
  is_table = c.in-Ok.ensures;
  is_path = c.in-Ok-table_path.ensures;
  taken = c.take_text-outcome.ensures;
  paths = subst (λ path. AreToldTo g.P.WriteLines.lines c.args.work.now.out c.write_text_path.new.out (text_paths path c.take_text-outcome.result)) c.as_str.ensures.value c.write_text_path.ensures;
  lines = subst (λ table. AreToldTo g.L.WriteLines.lines c.args.work.now.err c.tell_text.new.err (text_lines table c.take_text-outcome.result)) c.as_str-2.ensures.value c.tell_text.ensures.told;
  rest = refl;
  texts_rest = refl;
  status_is = c.tell_text.ensures.status;
})
