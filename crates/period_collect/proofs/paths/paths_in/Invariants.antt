use Rattle.std.proofs.Common.{◌≡◌, ◌++◌, length, map, string_bytes}
use Rattle.period_collect.specs.Paths.{path_of}
use Rattle.period_collect.proofs.paths.paths_in.Given as goal

-- those of the files that are left come after those that are there
abbrev pub invariant-loop-file : goal.invariant-loop-file
invariant-loop-file l =
    map string_bytes l.paths.items ++ map (path_of l.recordings l.name) l.left ≡ map (path_of l.recordings l.name) l.files

abbrev pub decreases-loop-file : goal.decreases-loop-file
decreases-loop-file l = length l.left
