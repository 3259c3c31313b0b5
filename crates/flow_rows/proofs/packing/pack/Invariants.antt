use Rattle.std.proofs.Common.{◌≡◌, drop}
use Rattle.flow_rows.specs.Packed.{IsWithin, packed_onto}
use Rattle.flow_rows.proofs.packing.pack.Given as goal

abbrev pub invariant-loop-i : goal.invariant-loop-i
invariant-loop-i l = record {
  packed : packed_onto l.number (drop l.i l.least) (drop l.i l.most) (drop l.i l.words) ≡ packed_onto 0 l.least l.most l.words;
  within : IsWithin (drop l.i l.least) (drop l.i l.most) (drop l.i l.words) → IsWithin l.least l.most l.words;
}
