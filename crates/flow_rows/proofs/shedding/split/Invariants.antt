use Rattle.std.proofs.Common.{◌≡◌, not, take}
use Rattle.std.specs.List.{filter}
use Rattle.flow_rows.specs.Rows.{Row}
use Rattle.flow_rows.specs.Split.{reaches}
use Rattle.flow_rows.specs.declared.shedding.TheConstants.{GREAT}
use Rattle.flow_rows.proofs.shedding.split.Given as goal

abbrev pub invariant-loop-i : goal.invariant-loop-i
invariant-loop-i g l = record {
  usual : l.usual.items ≡ filter (λ (x : Row). not (reaches GREAT x)) (take l.i l.run);
  great : l.great.items ≡ filter (reaches GREAT) (take l.i l.run);
}
