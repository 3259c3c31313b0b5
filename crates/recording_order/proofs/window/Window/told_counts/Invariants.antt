use Rattle.std.proofs.Common.{◌≡◌, take, map, filter}
use Rattle.recording_order.specs.Counts.{counts_of, is_told}
use Rattle.recording_order.proofs.window.Window.told_counts.Given as goal

abbrev pub invariant-loop-index : goal.invariant-loop-index
invariant-loop-index l = l.told.items ≡ filter is_told (map counts_of (take l.index l.self.numbers))
