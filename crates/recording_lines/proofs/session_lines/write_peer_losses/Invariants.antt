use Rattle.std.proofs.Common.{take}
use Rattle.std.specs.List.{flat_map}
use Rattle.std.specs.Io.KnownBytes.{Appends}
use Rattle.recording_lines.specs.RecordLines.{peer_domain_lines}
use Rattle.recording_lines.proofs.session_lines.write_peer_losses.Given as goal

abbrev pub invariant-loop-domain : goal.invariant-loop-domain
invariant-loop-domain g l = record {
  told : Appends (g.W.WriteLines.lines l.initial.out).contents (g.W.WriteLines.lines l.out).contents (flat_map (peer_domain_lines l.peer) (take l.domain-index l.domains));
  kept : (g.W.WriteLines.lines l.initial.out).failed → (g.W.WriteLines.lines l.out).failed;
}
