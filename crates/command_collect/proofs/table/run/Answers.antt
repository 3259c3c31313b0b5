use Rattle.std.proofs.Common.{◌∙◌, []}
use Rattle.command_collect.proofs.Ran.{IsPlainJob}
use Rattle.command_collect.proofs.Collected.{runs_plainly}
use Rattle.command_collect.proofs.table.run.Goals as goal

pub returns-clause-runs : goal.returns-clause-runs
returns-clause-runs g c =
    let job = c.plain-job.ensures in
    let elements = job.elements ∙ c.built_in-elements.ensures in
    let plain : IsPlainJob c.plain-job.result =
    record { no_files = elements; quiet = job.verbosity; unwanted = job.wanted; unasked = job.options; unmapped = job.maps; all = job.filter; unestimated = job.estimates; none_refused = job.refuses; no_times = job.times; no_limit = job.templates } in
    let runs = runs_plainly g.S.Source.seen g.S.Source.failure g.W.Write.contents _ _ c.plain-job.result _ _ c.args.sources.items [] plain c.run_with.ensures.runs in
    rw c.number.ensures (rw (job.plan, job.engine, job.output) at runs)
