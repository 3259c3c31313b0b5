use Rattle.std.proofs.Common.{◌≡◌, map, take}
use Rattle.flow_export.specs.CsvText.{key_text}
use Rattle.flow_export.specs.JsonParts.{label, text_of}
use Rattle.flow_export.proofs.json_text.labels.key_labels.Given as goal

abbrev pub invariant-loop-key : goal.invariant-loop-key
invariant-loop-key l = map text_of l.labels.items ≡ map label (map (key_text l.elements) (take l.key-index l.keys))
