use Rattle.std.proofs.Common.{◌≡◌, ◌-◌, take}
use Rattle.std.specs.Prelude.{sum_by}
use Rattle.recording_peer.specs.Places.{fields_for, listed}
use Rattle.recording_peer.proofs.places.without_those.Given as goal

abbrev pub invariant-loop-id : goal.invariant-loop-id
invariant-loop-id l = l.left ≡ l.count - sum_by (fields_for (listed l.files) (listed l.ended)) (take l.id-index l.ids)
