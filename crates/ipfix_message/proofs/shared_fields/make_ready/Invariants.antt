use Rattle.std.proofs.Common.{◌≡◌, All}
use Rattle.std.specs.Arc.{arc_value}
use Rattle.ipfix_message.proofs.shared_fields.make_ready.Given as goal

abbrev pub invariant-loop : goal.invariant-loop
invariant-loop l = All (λ a. arc_value a ≡ arc_value l.fields) l.ready.items
