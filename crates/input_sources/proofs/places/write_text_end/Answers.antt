use Rattle.std.specs.Prelude.{codes}
use Rattle.std.proofs.KnownBytes.{Appends-trans}
use Rattle.std.proofs.lemmas.Result.{on_ok_weaker}
use Rattle.report_writing.specs.Quoting.{quoted}
use Rattle.input_sources.proofs.places.write_text_end.Goals as goal

pub returns : goal.returns
returns g c = record {
  told = on_ok_weaker c.write_end.result (λ h. Appends-trans _ _ _ (codes ": ") _ c.in_ok-write.ensures.bytes (Appends-trans _ _ _ (quoted c.args.text.now) _ c.in_ok-write_quoted.ensures.told h)) c.write_end.ensures.told;
  failed = c.write_end.ensures.failed;
  kept = λ failed. c.write_end.ensures.kept (c.write_quoted.ensures.kept (c.write.ensures.kept failed));
}
