use Rattle.std.proofs.Common.{◌<◌, ◌^◌, ◌∙◌, arith}
use Rattle.ipfix_message.specs.SpelledFields.{BeginsWithFields}
use Rattle.ipfix_message.proofs.Layouts.{layout_finds}
use Rattle.ipfix_message.proofs.laid_out.LaidOut.find.Goals as goal

pub returns : goal.returns
returns c =
    let specs = c.self.inside.template.specs in
    let begins : BeginsWithFields specs c.args.octets.now = rw c.self.view_is c.requires in
    let small : c.args.element.number < 2 ^ 16 = omega arith in
    rw (← c.self.view_is) (c.find.ensures ∙ layout_finds c.self.inside.layout specs c.args.octets.now c.args.element c.self.invariant small begins)
