use Rattle.std.proofs.Common.{List, ℕ, codes, subst}
use Rattle.std.specs.Io.KnownBytes.{Appends}
use Rattle.std.proofs.KnownBytes.{Appends-trans}
use Rattle.std.proofs.lemmas.Result.{on_ok_weaker}
use Rattle.element_registry.specs.Registries.{element_name}
use Rattle.report_sessions.specs.MissingLines.{counter_text}
use Rattle.report_sessions.proofs.missing.ElementIdLack.write_words.Goals as goal

pub returns : goal.returns
unfolding counter_text
returns g c =
    let lines = g.W.WriteLines.lines in
    let words = subst (λ (t : List ℕ). Appends (lines c.args.out.now).contents (lines c.write_all.new.self).contents t) c.as_bytes.ensures.value c.in_ok-write_all.ensures.bytes in
    record {
      told = on_ok_weaker c.write_element.result (λ h. Appends-trans _ _ _ (codes "collectd: records: without ") (element_name c.args.elements.now c.args.self.now) words h) c.write_element.ensures.told;
      failed = c.write_element.ensures.failed;
      kept = λ failed. c.write_element.ensures.kept (c.write_all.ensures.kept failed);
    }
