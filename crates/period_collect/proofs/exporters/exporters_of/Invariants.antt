use Rattle.std.proofs.Common.{length}
use Rattle.period_collect.proofs.ExporterLists.{SoFar}
use Rattle.period_collect.proofs.exporters.exporters_of.Given as goal

abbrev pub invariant-loop-paths : goal.invariant-loop-paths
invariant-loop-paths l = SoFar l.initial.paths l.paths l.exporters.items

abbrev pub decreases-loop-paths : goal.decreases-loop-paths
decreases-loop-paths l = length l.paths
