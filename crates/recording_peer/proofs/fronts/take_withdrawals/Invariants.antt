use Rattle.std.proofs.Common.{List, length}
use Rattle.std.specs.Prelude.{All}
use Rattle.ipfix_message.specs.Domains.{Message}
use Rattle.recording_files.specs.Recorders.{Keeps}
use Rattle.ipfix_datagrams.specs.Withdrawals.{HasTemplateId}
use Rattle.recording_peer.specs.Fronts.{CanWithdraw, TakesWithdrawals}
use Rattle.recording_peer.proofs.fronts.take_withdrawals.Given as goal

abbrev pub invariant-loop-rest : goal.invariant-loop-rest
invariant-loop-rest l = record {
  ids : All HasTemplateId l.rest;
  takes : (before here : List Message) → Keeps l.fn.recorder before here → CanWithdraw before here l.header.domain l.withdrawn
      → TakesWithdrawals before here l.recorder l.header l.withdrawn l.rest l.out.items;
}

abbrev pub decreases-loop-rest : goal.decreases-loop-rest
decreases-loop-rest l = length l.rest
