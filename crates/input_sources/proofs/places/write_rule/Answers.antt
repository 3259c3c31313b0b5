use Rattle.std.specs.Prelude.{string_bytes}
use Rattle.std.proofs.KnownBytes.{Appends-trans}
use Rattle.std.proofs.lemmas.Result.{on_ok_weaker}
use Rattle.flow_plan.specs.Places.{key_name}
use Rattle.input_sources.specs.PlaceLines.{count_end, key_start, rule_words, text_end}
use Rattle.input_sources.proofs.places.write_rule.Goals as goal

pub returns-in-Value : goal.returns-in-Value
returns-in-Value g c = rw c.in-Value.is (rw (c.name.ensures, c.rule_words-words.ensures) at c.write_key_line.ensures)

pub returns-in_ok-write_key-in-Count : goal.returns-in_ok-write_key-in-Count
returns-in_ok-write_key-in-Count g c =
    let key = rw c.name-in-Count.ensures at c.in_ok-write_key-in-Count.ensures.told in
    let count = rw c.rule_words-words.ensures at c.write_count_end.ensures.told in
    record {
      told = rw c.in-Count.is
          (on_ok_weaker c.write_count_end.result (λ h. Appends-trans _ _ _ (key_start (key_name c.in-Count.key)) (count_end c.in-Count.count (rule_words c.args.elements.now c.args.fault)) key h) count);
      failed = c.write_count_end.ensures.failed;
      kept = λ failed. c.write_count_end.ensures.kept (c.write_key.ensures.kept failed);
    }

pub returns-in_ok-write_key-in-Text : goal.returns-in_ok-write_key-in-Text
returns-in_ok-write_key-in-Text g c =
    let key = rw c.name-in-Text.ensures at c.in_ok-write_key-in-Text.ensures.told in
    let text = rw (c.rule_words-words.ensures, c.as_str.ensures.value) at c.write_text_end.ensures.told in
    record {
      told = rw c.in-Text.is
          (on_ok_weaker c.write_text_end.result (λ h. Appends-trans _ _ _ (key_start (key_name c.in-Text.key)) (text_end (string_bytes c.in-Text.text) (rule_words c.args.elements.now c.args.fault)) key h) text);
      failed = c.write_text_end.ensures.failed;
      kept = λ failed. c.write_text_end.ensures.kept (c.write_key-in-Text.ensures.kept failed);
    }
