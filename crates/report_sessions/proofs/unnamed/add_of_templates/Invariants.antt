use Rattle.std.proofs.Common.{List, ◌++◌}
use Rattle.std.specs.BTreeMap.{values}
use Rattle.std.specs.List.{flat_map}
use Rattle.ipfix_wire.specs.declared.specifier.ElementId.{ElementId}
use Rattle.report_sessions.specs.FirstElements.{KeepsFirst}
use Rattle.report_sessions.specs.UnnamedElements.{unnamed_in}
use Rattle.report_sessions.proofs.unnamed.add_of_templates.Given as goal

-- those of the first templates came
abbrev pub invariant-loop-known : goal.invariant-loop-known
invariant-loop-known l =
    (all coming : List ElementId) → KeepsFirst l.initial.kept all (flat_map (unnamed_in l.elements) (values l.templates) ++ coming)
    → KeepsFirst l.kept all (flat_map (unnamed_in l.elements) l.known-iterator ++ coming)
