use Rattle.std.proofs.Common.{◌≡◌, length}
use Rattle.ipfix_wire.specs.declared.header.Header.{Header}
use Rattle.ipfix_message.specs.Held.{Agrees}
use Rattle.ipfix_message.specs.Messages.{Decoding, sets_from}
use Rattle.ipfix_message.specs.Sets.{has_template_set}
use Rattle.ipfix_message.proofs.DataChecks.{Checking}
use Rattle.ipfix_message.proofs.data_check.check_sets.Given as goal

abbrev pub invariant-loop-rest : goal.invariant-loop-rest
invariant-loop-rest l = record {
  checking : (h : Header) (d : Decoding) → Agrees l.templates.entries d.events → Checking h d l.rest (sets_from h d l.octets);
  template_sets : has_template_set l.rest ≡ has_template_set l.octets;
}

abbrev pub decreases-loop-rest : goal.decreases-loop-rest
decreases-loop-rest l = length l.rest
