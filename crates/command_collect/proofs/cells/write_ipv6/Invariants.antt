use Rattle.std.proofs.Common.{◌*◌, take}
use Rattle.std.specs.Io.KnownBytes.{Appends}
use Rattle.ipfix_elements.specs.Texts.{ipv6_text}
use Rattle.command_collect.proofs.cells.write_ipv6.Given as goal

abbrev pub invariant-loop-group : goal.invariant-loop-group
invariant-loop-group g l = record {
  told : Appends (g.W.WriteLines.lines l.fn.out).contents (g.W.WriteLines.lines l.out).contents (ipv6_text (take (2 * l.group) l.address));
  kept : (g.W.WriteLines.lines l.fn.out).failed → (g.W.WriteLines.lines l.out).failed;
}
