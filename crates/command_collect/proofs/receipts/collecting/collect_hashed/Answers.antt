use Rattle.std.proofs.Common.{[], ap, sym, ◌∙◌}
use Rattle.std.specs.Prelude.{vec_len}
use Rattle.command_collect.specs.Engines.{due_fault}
use Rattle.command_collect.specs.Exporters.{in_noting_context}
use Rattle.command_collect.proofs.Placed.{starts_at}
use Rattle.command_collect.proofs.Refused.{faults_alone, names_alone, none_named, refused_first}
use Rattle.command_collect.proofs.receipts.collecting.collect_hashed.Goals as goal

pub collect_from-requires-clause-start : goal.collect_from-requires-clause-start
collect_from-requires-clause-start g c = λ κs outlives. starts_at g.S.Source.seen [] c.args.sources.items

pub returns-in-Some-clause-faults : goal.returns-in-Some-clause-faults
returns-in-Some-clause-faults g c =
    let job = c.args.job.now in
    faults_alone _ _ _ c.in-Some.fault c.only.result c.only.ensures
    (refused_first job.engine (vec_len c.args.sources) _ _ c.in-Some.fault (ap (due_fault job.engine) (sym c.len.ensures) ∙ sym c.refusal.ensures ∙ c.in-Some.is))

pub returns-in-Some-clause-large : goal.returns-in-Some-clause-large
returns-in-Some-clause-large g c =
    let job = c.args.job.now in
    let given = in_noting_context job c.args.sources.items c.args.origins.now in
    names_alone g.S.Source.seen job.plan.now given c.in-Some.fault c.only.result c.only.ensures
    (none_named g.S.Source.seen job.plan.now given job.engine (vec_len c.args.sources) c.in-Some.fault (ap (due_fault job.engine) (sym c.len.ensures) ∙ sym c.refusal.ensures ∙ c.in-Some.is))
