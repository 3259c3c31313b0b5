use Rattle.std.specs.Prelude.{codes}
use Rattle.std.proofs.KnownBytes.{Appends-trans}
use Rattle.std.proofs.lemmas.Result.{on_ok_weaker}
use Rattle.report_writing.specs.Quoting.{text_shown}
use Rattle.report_writing.proofs.quoting.write_quoted.Goals as goal

pub returns : goal.returns
returns g c =
    let name = rw c.as_bytes.ensures.value at c.in_ok-write_shown.ensures.told in
    record {
      told = on_ok_weaker c.write-2.result (λ h. Appends-trans _ _ _ (codes "\"") _ c.in_ok-write.ensures.bytes (Appends-trans _ _ _ (text_shown c.args.text.now) (codes "\"") name h)) c.write-2.ensures.bytes;
      failed = c.write-2.ensures.failed;
      kept = λ failed. c.write-2.ensures.kept (c.write_shown.ensures.kept (c.write.ensures.kept failed));
    }
