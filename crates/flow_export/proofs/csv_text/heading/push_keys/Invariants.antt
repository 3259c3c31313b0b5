use Rattle.std.proofs.Common.{◌≡◌, ◌++◌, [], map, take}
use Rattle.csv.specs.Records.{fields_of, partial_of}
use Rattle.flow_export.specs.CsvText.{key_text}
use Rattle.flow_export.proofs.csv_text.heading.push_keys.Given as goal

abbrev pub invariant-loop-key : goal.invariant-loop-key
invariant-loop-key l = (fields_of l.line ≡ fields_of l.fn.line ++ map (key_text l.elements) (take l.key-index l.keys)) × (partial_of l.line ≡ [])
