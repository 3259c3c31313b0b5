use Rattle.ipfix_message.proofs.Same.{is_same_template}
use Rattle.ipfix_message.proofs.template_in_force.Definition.is_same.Goals as goal

pub returns : goal.returns
returns c = is_same_template c.is_same_template.result c.args.self.now c.args.known.now (rw (c.template.ensures, c.template-2.ensures) at c.is_same_template.ensures)
