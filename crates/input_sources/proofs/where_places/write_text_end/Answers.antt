use Rattle.std.specs.Prelude.{codes}
use Rattle.std.proofs.KnownBytes.{Appends-trans}
use Rattle.std.proofs.lemmas.Result.{on_ok_weaker}
use Rattle.report_writing.specs.Quoting.{quoted}
use Rattle.input_sources.specs.WhereLines.{text_end}
use Rattle.input_sources.proofs.where_places.write_text_end.Goals as goal

pub returns : goal.returns
unfolding text_end
returns g c = record {
  told = on_ok_weaker c.write_no_values.result (λ h. Appends-trans _ _ _ (codes ": ") _ c.in_ok-write.ensures.bytes (Appends-trans _ _ _ (quoted c.args.text.now) _ c.in_ok-write_quoted.ensures.told h)) c.write_no_values.ensures.told;
  failed = c.write_no_values.ensures.failed;
  kept = λ failed. c.write_no_values.ensures.kept (c.write_quoted.ensures.kept (c.write.ensures.kept failed));
}
