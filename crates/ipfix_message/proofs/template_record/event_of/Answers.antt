use Rattle.std.proofs.Common.{◌≡◌, sym, ap, ◌∙◌}
use Rattle.std.proofs.lemmas.List.{take_rest}
use Rattle.byteorder.specs.Endian.{big_number}
use Rattle.ipfix_wire.specs.Numbers.{number_at}
use Rattle.ipfix_message.proofs.TemplateRecords.{event_at-is}
use Rattle.ipfix_message.proofs.template_record.event_of.Goals as goal

pub returns : goal.returns
returns c =
    let octets = c.args.octets.now in
    let count : number_at 2 2 octets ≡ c.read_u16-count.result = ap (big_number 2) (sym (take_rest octets 2)) ∙ sym c.read_u16-count.ensures in
    rw (event_at-is c.args.kind octets c.read_u16-id.result c.read_u16-count.result c.requires.long (sym c.read_u16-id.ensures) count) (rw c.split_at.ensures.back at c.record_of.ensures)
