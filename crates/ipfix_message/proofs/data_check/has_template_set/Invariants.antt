use Rattle.std.proofs.Common.{◌≡◌, length}
use Rattle.ipfix_message.specs.Sets.{has_template_set}
use Rattle.ipfix_message.proofs.data_check.has_template_set.Given as goal

abbrev pub invariant-loop-rest : goal.invariant-loop-rest
invariant-loop-rest l = has_template_set l.rest ≡ has_template_set l.octets

abbrev pub decreases-loop-rest : goal.decreases-loop-rest
decreases-loop-rest l = length l.rest
