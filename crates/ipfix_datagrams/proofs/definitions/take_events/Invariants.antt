use Rattle.std.proofs.Common.{◌≡◌, ◌&&◌, ◌≤◌, List, length}
use Rattle.ipfix_message.specs.declared.template_record.Event.{Event}
use Rattle.ipfix_message.specs.TemplateRecords.{events_of}
use Rattle.ipfix_datagrams.specs.Attempts.{Defines}
use Rattle.ipfix_datagrams.specs.Datagrams.{are_withdrawals}
use Rattle.ipfix_datagrams.proofs.FirstAndLast.{Taking}
use Rattle.ipfix_datagrams.proofs.definitions.take_events.Given as goal

abbrev pub invariant-loop-rest : goal.invariant-loop-rest
invariant-loop-rest l = record {
  takes : (es : List Event) → Defines l.fn.all es → Taking l.all es (events_of l.kind l.body).items (events_of l.kind l.rest).items;
  only : (are_withdrawals l.kind l.body && l.fn.all.withdraws_only) ≡ (are_withdrawals l.kind l.rest && l.all.withdraws_only);
  room : length l.rest ≤ length l.body;
}

abbrev pub decreases-loop-rest : goal.decreases-loop-rest
decreases-loop-rest l = length l.rest
