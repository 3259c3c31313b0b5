use Rattle.std.proofs.Common.{◌≡◌, length}
use Rattle.ipfix_message.specs.DataRecords.{records_of_body}
use Rattle.ipfix_message.proofs.DataChecks.{outcome}
use Rattle.ipfix_message.proofs.data_check.check_body.Given as goal

abbrev pub invariant-loop-rest : goal.invariant-loop-rest
invariant-loop-rest l = outcome (records_of_body l.known.specs l.rest) ≡ outcome (records_of_body l.known.specs l.body)

abbrev pub decreases-loop-rest : goal.decreases-loop-rest
decreases-loop-rest l = length l.rest
