use Rattle.std.proofs.Common.{refl}
use Rattle.flow_export.proofs.MessageParts.{headers_and_body}
use Rattle.flow_export.proofs.ipfix_text.messages.set_message.Goals as goal

pub returns : goal.returns
returns c = headers_and_body c.args.export_time c.args.sequence c.args.set_id _ _ _ c.args.body.now refl c.in_ok-set_headers.ensures c.in_ok-extend_from_slice.ensures.items
