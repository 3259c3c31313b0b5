use Rattle.std.specs.Prelude.{string_bytes}
use Rattle.std.proofs.KnownBytes.{Appends-trans}
use Rattle.std.proofs.lemmas.Result.{on_ok_weaker}
use Rattle.flow_plan.specs.Places.{key_name}
use Rattle.input_sources.specs.PlaceLines.{key_start, name_end}
use Rattle.input_sources.proofs.places.write_place.Goals as goal

pub returns-in-Missing : goal.returns-in-Missing
returns-in-Missing g c = rw c.in-Missing.is (rw c.name.ensures at c.write_key_line-in-Missing.ensures)

pub returns-in_ok-write_key-in-UnknownElement : goal.returns-in_ok-write_key-in-UnknownElement
returns-in_ok-write_key-in-UnknownElement g c =
    let key = rw c.name-in-UnknownElement.ensures at c.in_ok-write_key-in-UnknownElement.ensures.told in
    let text = rw c.as_str-in-UnknownElement.ensures.value at c.write_name_end.ensures.told in
    record {
      told = rw c.in-UnknownElement.is
          (on_ok_weaker c.write_name_end.result (λ h. Appends-trans _ _ _ (key_start (key_name c.in-UnknownElement.key)) (name_end (string_bytes c.in-UnknownElement.text)) key h) text);
      failed = c.write_name_end.ensures.failed;
      kept = λ failed. c.write_name_end.ensures.kept (c.write_key.ensures.kept failed);
    }
