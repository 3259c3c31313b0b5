use Rattle.std.proofs.Common.{◌≤◌, ◌+◌, List, length}
use Rattle.ipfix_message.specs.declared.template_record.Event.{Event}
use Rattle.ipfix_message.specs.TemplatesInForce.{template_set_gives}
use Rattle.ipfix_message.specs.Held.{Agrees}
use Rattle.ipfix_message.proofs.TemplateSets.{Going}
use Rattle.ipfix_message.proofs.in_force.take_templates.Given as goal

abbrev pub invariant-loop-rest : goal.invariant-loop-rest
invariant-loop-rest l = record {
  going : (es : List Event) → Agrees l.fn.templates.entries es → Going l.kind l.templates.entries l.ignored l.rest (template_set_gives l.kind es l.body);
  room : l.ignored + length l.rest ≤ length l.body;
}

abbrev pub decreases-loop-rest : goal.decreases-loop-rest
decreases-loop-rest l = length l.rest
