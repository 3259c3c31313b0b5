use Rattle.std.proofs.Common.{◌≡◌, length}
use Rattle.ipfix_message.specs.Held.{extended}
use Rattle.ipfix_message.proofs.FieldValues.{EndsWith}
use Rattle.ipfix_message.proofs.data_set.take_records.Given as goal

abbrev pub invariant-loop-rest : goal.invariant-loop-rest
invariant-loop-rest l = record {
  so_far : extended l.out.items l.header l.known l.rest ≡ extended l.fn.out.items l.header l.known l.body;
  end : EndsWith l.body l.rest;
}

abbrev pub decreases-loop-rest : goal.decreases-loop-rest
decreases-loop-rest l = length l.rest
