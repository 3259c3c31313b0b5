use Rattle.std.specs.Prelude.{codes}
use Rattle.std.proofs.KnownBytes.{Appends-trans}
use Rattle.std.proofs.lemmas.Result.{on_ok_weaker}
use Rattle.input_sources.specs.WhereLines.{where_key}
use Rattle.input_sources.proofs.where_places.write_key.Goals as goal

pub returns : goal.returns
unfolding where_key
returns g c = record {
  told = on_ok_weaker c.write_quoted.result (λ h. Appends-trans _ _ _ (codes ": key ") _ c.in_ok-write.ensures.bytes h) c.write_quoted.ensures.told;
  failed = c.write_quoted.ensures.failed;
  kept = λ failed. c.write_quoted.ensures.kept (c.write.ensures.kept failed);
}
