use Rattle.std.proofs.Common.{sym, ◌∙◌}
use Rattle.flow_maps.proofs.Absent.{none_lost, not_there}
use Rattle.flow_maps.proofs.maps.remove.Goals as goal

pub returns-else-is_some : goal.returns-else-is_some
returns-else-is_some c = none_lost c.args.element c.args.fields.now (not_there c.find.result _ (sym c.if-is_some.false ∙ c.is_some.ensures) c.find.ensures)
