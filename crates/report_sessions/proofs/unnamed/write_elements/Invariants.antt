use Rattle.std.proofs.Common.{take}
use Rattle.std.specs.List.{flat_map}
use Rattle.std.specs.Io.KnownBytes.{Appends}
use Rattle.report_sessions.specs.UnnamedElements.{element_text}
use Rattle.report_sessions.proofs.unnamed.write_elements.Given as goal

abbrev pub invariant-loop-element : goal.invariant-loop-element
invariant-loop-element g l = record {
  told : Appends (g.W.WriteLines.lines l.initial.out).contents (g.W.WriteLines.lines l.out).contents (flat_map element_text (take l.element-index l.elements));
  kept : (g.W.WriteLines.lines l.initial.out).failed → (g.W.WriteLines.lines l.out).failed;
}
