use Rattle.std.proofs.Common.{◌∙◌, arith}
use Rattle.flow_export.proofs.MessageParts.{message_placed}
use Rattle.flow_export.proofs.ipfix_text.messages.place_message.Goals as goal

pub returns-clause-message : goal.returns-clause-message
returns-clause-message c =
    message_placed c.args.export_time c.args.sequence 256 (omega (arith, c.requires.room)) c.in_ok-end.ensures.placed (c.as_slice.ensures.value ∙ c.in_ok-set_headers.ensures) c.place.ensures
