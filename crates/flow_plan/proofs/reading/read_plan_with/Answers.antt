use Rattle.toml.specs.View.{table_view}
use Rattle.flow_plan.proofs.Told.{no_document, of_octets}
use Rattle.flow_plan.proofs.reading.read_plan_with.Goals as goal

pub returns-in-Ok-clause-ok : goal.returns-in-Ok-clause-ok
returns-in-Ok-clause-ok c =
    (of_octets c.args.elements.now c.args.octets.now (table_view c.in-Ok.table) c.read_members.result c.in-Ok.ensures.ok c.read_members.ensures.reads).0

pub returns-in-Ok-clause-err : goal.returns-in-Ok-clause-err
returns-in-Ok-clause-err c =
    (of_octets c.args.elements.now c.args.octets.now (table_view c.in-Ok.table) c.read_members.result c.in-Ok.ensures.ok c.read_members.ensures.reads).1

pub returns-in-Err-clause-err : goal.returns-in-Err-clause-err
returns-in-Err-clause-err c = no_document c.args.elements.now c.args.octets.now c.in-Err.error c.in-Err.ensures.err
