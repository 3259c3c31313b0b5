use Rattle.std.proofs.Common.{◌≡◌, Some, option_copied, sym, ap, ◌∙◌}
use Rattle.ipfix_message.specs.Fields.{octets_of}
use Rattle.flow_table.specs.Reading.{cell_of}
use Rattle.flow_table.proofs.key_words.read_words_of.Goals as goal

pub returns : goal.returns
unfolding cell_of
returns c =
    let found : octets_of c.args.key.element c.args.data_record.now.fields ≡ Some c.in_ok-octets.octets.now = sym c.find.ensures ∙ ap option_copied c.in_ok-octets.was in
    rw found c.words_in.ensures
