use Rattle.std.proofs.Common.{List, ◌++◌, drop, filter, map}
use Rattle.ipfix_wire.specs.declared.specifier.ElementId.{ElementId}
use Rattle.report_sessions.specs.FirstElements.{KeepsFirst}
use Rattle.report_sessions.specs.UnnamedElements.{is_unnamed}
use Rattle.report_sessions.proofs.unnamed.add_of_template.Given as goal

-- those of the first fields came
abbrev pub invariant-loop-spec : goal.invariant-loop-spec
invariant-loop-spec l =
    (all coming : List ElementId) → KeepsFirst l.initial.kept all (filter (is_unnamed l.elements) (map (λ s. s.element) l.specs) ++ coming)
    → KeepsFirst l.kept all (filter (is_unnamed l.elements) (map (λ s. s.element) (drop l.spec-index l.specs)) ++ coming)
