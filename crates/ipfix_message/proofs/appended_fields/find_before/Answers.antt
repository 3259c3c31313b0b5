use Rattle.std.proofs.Common.{◌∷◌, [], ap, sym, ◌∙◌}
use Rattle.ipfix_message.specs.AppendedFields.{number_field}
use Rattle.ipfix_message.proofs.Tails.{octets_of-append, octets_of-missing}
use Rattle.ipfix_message.proofs.appended_fields.find_before.Goals as goal

pub returns-in-Some : goal.returns-in-Some
returns-in-Some c =
    sym (octets_of-append c.args.element c.args.shared.now (number_field c.args.number.now ∷ []) c.in-Some.octets.now (sym c.in-Some.ensures))

pub returns-in-None : goal.returns-in-None
returns-in-None c =
    c.find_number.ensures ∙ sym (octets_of-missing c.args.element c.args.shared.now (number_field c.args.number.now ∷ []) (sym c.in-None.ensures))
