use Rattle.std.proofs.Common.{List, ◌++◌, ap, sym, ◌∙◌}
use Rattle.ipfix_message.specs.Fields.{Field, octets_of}
use Rattle.ipfix_message.specs.KeptFields.{kept_fields}
use Rattle.ipfix_message.specs.SetRecords.{fields_from}
use Rattle.ipfix_message.proofs.Tails.{octets_of-append, octets_of-missing}
use Rattle.ipfix_message.proofs.field_block.Fields.find.Goals as goal

pub returns-in-Some : goal.returns-in-Some
returns-in-Some c =
    let own : List Field = fields_from c.deref.result.now c.in-InSet.start in
    sym (octets_of-append c.args.element own c.in-InSet.appended c.in-Some.octets.now (sym c.in-Some.ensures))
    ∙ ap (λ set. octets_of c.args.element (fields_from set c.in-InSet.start ++ c.in-InSet.appended)) c.deref.ensures
    ∙ ap (λ kept. octets_of c.args.element (kept_fields kept)) (sym c.in-InSet.is) ∙ ap (octets_of c.args.element) c.self.view_is

pub returns-in-None : goal.returns-in-None
returns-in-None c =
    let own : List Field = fields_from c.deref.result.now c.in-InSet.start in
    c.find.ensures ∙ sym (octets_of-missing c.args.element own c.in-InSet.appended (sym c.in-None.ensures))
    ∙ ap (λ set. octets_of c.args.element (fields_from set c.in-InSet.start ++ c.in-InSet.appended)) c.deref.ensures
    ∙ ap (λ kept. octets_of c.args.element (kept_fields kept)) (sym c.in-InSet.is) ∙ ap (octets_of c.args.element) c.self.view_is
