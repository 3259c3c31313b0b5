use Rattle.std.proofs.Common.{List, ◌++◌, drop, Some}
use Rattle.std.specs.List.{flat_map}
use Rattle.ipfix_wire.specs.declared.specifier.ElementId.{ElementId}
use Rattle.report_sessions.specs.FirstElements.{KeepsFirst}
use Rattle.report_sessions.specs.UnnamedElements.{templates_at, unnamed_in}
use Rattle.report_sessions.proofs.unnamed.add_of_domains.Given as goal

-- those of the first domains came
abbrev pub invariant-loop-report : goal.invariant-loop-report
invariant-loop-report l =
    (all coming : List ElementId) → KeepsFirst l.initial.kept all (flat_map (unnamed_in l.elements) (templates_at (Some l.domains) l.reports) ++ coming)
    → KeepsFirst l.kept all (flat_map (unnamed_in l.elements) (templates_at (Some l.domains) (drop l.report-index l.reports)) ++ coming)
