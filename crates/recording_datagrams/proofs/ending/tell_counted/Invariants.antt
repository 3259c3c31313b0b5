use Rattle.std.proofs.Common.{take, map}
use Rattle.std.specs.List.{flat_map}
use Rattle.std.specs.Io.KnownBytes.{Appends}
use Rattle.recording_order.specs.Counts.{counts_of}
use Rattle.recording_datagrams.specs.Ending.{domain_order_lines}
use Rattle.recording_datagrams.proofs.ending.tell_counted.Given as goal

-- the first of them are told
abbrev pub invariant-loop-index : goal.invariant-loop-index
invariant-loop-index g l = record {
  told : Appends (g.W.WriteLines.lines l.fn.out).contents (g.W.WriteLines.lines l.out).contents (flat_map (domain_order_lines l.peer) (take l.index (map counts_of l.window.numbers)));
  kept : (g.W.WriteLines.lines l.fn.out).failed → (g.W.WriteLines.lines l.out).failed;
}
