use Rattle.std.proofs.Common.{◌≡◌, ◌≤◌, ◌+◌, length}
use Rattle.ipfix_message.specs.Messages.{Decoding, sets_from}
use Rattle.ipfix_message.specs.Held.{Holds, counted}
use Rattle.ipfix_message.proofs.Decoding.{Going}
use Rattle.ipfix_message.proofs.sets.take_sets.Given as goal

abbrev pub invariant-loop-rest : goal.invariant-loop-rest
invariant-loop-rest l = record {
  going : (d : Decoding) → Holds l.fn.templates.entries l.fn.decoded d → Going l.fn.decoded.header l.templates.entries l.decoded l.rest (sets_from l.fn.decoded.header d l.octets);
  header : l.decoded.header ≡ l.fn.decoded.header;
  room : length l.rest ≤ length l.octets;
  few : counted l.decoded + length l.rest ≤ counted l.fn.decoded + length l.octets;
}

abbrev pub decreases-loop-rest : goal.decreases-loop-rest
decreases-loop-rest l = length l.rest
