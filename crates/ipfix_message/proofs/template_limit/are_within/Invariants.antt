use Rattle.std.proofs.Common.{eqb}
use Rattle.std.specs.List.{IsDistinct}
use Rattle.std.specs.Map.{keys_of}
use Rattle.ipfix_message.proofs.TemplateLimits.{Counting}
use Rattle.ipfix_message.proofs.template_limit.are_within.Given as goal

abbrev pub invariant-loop-templates : goal.invariant-loop-templates
invariant-loop-templates l = record {
  counting : Counting l.known.entries l.templates-iterator l.limit l.left;
  distinct : IsDistinct eqb (keys_of l.known.entries);
}
