use Rattle.std.proofs.Common.{◌≡◌, ◌++◌, [], map, take}
use Rattle.csv.specs.Records.{fields_of, partial_of}
use Rattle.element_registry.specs.Registries.{element_name}
use Rattle.flow_export.proofs.csv_text.heading.push_names.Given as goal

abbrev pub invariant-loop-counter : goal.invariant-loop-counter
invariant-loop-counter l = (fields_of l.line ≡ fields_of l.fn.line ++ map (element_name l.elements) (take l.counter-index l.counters)) × (partial_of l.line ≡ [])
