use Rattle.std.proofs.Common.{take}
use Rattle.std.specs.List.{flat_map}
use Rattle.std.specs.Io.KnownBytes.{Appends}
use Rattle.recording_datagrams.specs.Ending.{resumption_line}
use Rattle.recording_datagrams.proofs.ending.tell_resumed.Given as goal

-- the first of them are told
abbrev pub invariant-loop-resumption : goal.invariant-loop-resumption
invariant-loop-resumption g l = record {
  told : Appends (g.W.WriteLines.lines l.initial.out).contents (g.W.WriteLines.lines l.out).contents (flat_map (resumption_line l.peer) (take l.resumption-index l.resumed));
  kept : (g.W.WriteLines.lines l.initial.out).failed → (g.W.WriteLines.lines l.out).failed;
}
