use Rattle.std.proofs.Common.{List, ℕ, ◌++◌, codes, subst}
use Rattle.std.specs.Io.KnownBytes.{Appends}
use Rattle.std.proofs.KnownBytes.{Appends-trans}
use Rattle.std.proofs.lemmas.Result.{on_ok_weaker}
use Rattle.flow_export.specs.CsvText.{key_name, prefix_text}
use Rattle.report_sessions.specs.MissingLines.{unkeyed_text}
use Rattle.report_sessions.proofs.missing.KeyLack.write_words.Goals as goal

pub returns : goal.returns
unfolding unkeyed_text
returns g c =
    let lines = g.W.WriteLines.lines in
    let name = key_name c.args.elements.now c.args.self.now.element in
    let prefix = prefix_text c.args.self.now.prefix in
    let words = subst (λ (t : List ℕ). Appends (lines c.args.out.now).contents (lines c.write_all.new.self).contents t) c.as_bytes.ensures.value c.in_ok-write_all.ensures.bytes in
    record {
      told = on_ok_weaker c.write_prefix.result
          (λ h. Appends-trans _ _ _ (codes "collectd: records: unkeyed without ") (name ++ prefix) words (Appends-trans _ _ _ name prefix c.in_ok-write_key_name.ensures.told h))
          c.write_prefix.ensures.told;
      failed = c.write_prefix.ensures.failed;
      kept = λ failed. c.write_prefix.ensures.kept (c.write_key_name.ensures.kept (c.write_all.ensures.kept failed));
    }
