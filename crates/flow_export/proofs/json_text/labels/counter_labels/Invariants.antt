use Rattle.std.proofs.Common.{◌≡◌, map, take}
use Rattle.element_registry.specs.Registries.{element_name}
use Rattle.flow_export.specs.JsonParts.{label, text_of}
use Rattle.flow_export.proofs.json_text.labels.counter_labels.Given as goal

abbrev pub invariant-loop-counter : goal.invariant-loop-counter
invariant-loop-counter l = map text_of l.labels.items ≡ map label (map (element_name l.elements) (take l.counter-index l.counters))
