use Rattle.std.proofs.Common.{◌≡◌, Some, option_copied, sym, ap, ◌∙◌}
use Rattle.ipfix_message.specs.Fields.{octets_of}
use Rattle.flow_table.proofs.reading.counter.Goals as goal

pub returns : goal.returns
returns c =
    let found : octets_of c.args.element c.args.data_record.now.fields ≡ Some c.in_ok-octets.octets.now = sym c.find.ensures ∙ ap option_copied c.in_ok-octets.was in
    rw found c.read_number.ensures
