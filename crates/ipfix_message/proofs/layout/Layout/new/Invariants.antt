use Rattle.ipfix_message.specs.Spots.{AreSpotsOf}
use Rattle.ipfix_message.proofs.LayingOut.{LaidSoFar}
use Rattle.ipfix_message.proofs.layout.Layout.new.Given as goal

abbrev pub invariant-loop-spec : goal.invariant-loop-spec
invariant-loop-spec l = LaidSoFar l.gaps.items l.last l.places.all l.spec-index l.specs × AreSpotsOf l.places.spots l.places.all
