use Rattle.std.proofs.Common.{◌≡◌, ◌+◌}
use Rattle.std.specs.Prelude.{sum_by}
use Rattle.ipfix_message.specs.TemplateLimits.{fields_kept, fields_of}
use Rattle.ipfix_message.proofs.template_limit.left_beside.Given as goal

abbrev pub invariant-loop-known : goal.invariant-loop-known
invariant-loop-known l = l.limit + sum_by fields_of l.known-iterator ≡ fields_kept l.templates + l.left
