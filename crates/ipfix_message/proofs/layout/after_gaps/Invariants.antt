use Rattle.std.proofs.Common.{◌≡◌, drop}
use Rattle.ipfix_message.specs.Layouts.{after_gaps}
use Rattle.ipfix_message.proofs.layout.after_gaps.Given as goal

abbrev pub invariant-loop-gap : goal.invariant-loop-gap
invariant-loop-gap l = after_gaps (drop l.gap-index l.gaps) l.rest ≡ after_gaps l.gaps l.octets
