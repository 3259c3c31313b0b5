use Rattle.std.proofs.Common.{take}
use Rattle.std.specs.List.{flat_map}
use Rattle.std.specs.Io.KnownBytes.{Appends}
use Rattle.ipfix_datagrams.specs.Reaches.{told_of}
use Rattle.recording_datagrams.specs.Ending.{domain_advance_line}
use Rattle.recording_datagrams.proofs.ending.tell_advances.Given as goal

-- the first of them are told
abbrev pub invariant-loop-index : goal.invariant-loop-index
invariant-loop-index g l = record {
  told : Appends (g.W.WriteLines.lines l.fn.out).contents (g.W.WriteLines.lines l.out).contents (flat_map (domain_advance_line l.peer) (take l.index (told_of l.advances.reaches)));
  kept : (g.W.WriteLines.lines l.fn.out).failed → (g.W.WriteLines.lines l.out).failed;
}
