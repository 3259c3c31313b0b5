use Rattle.std.proofs.Common.{refl, ◌∙◌}
use Rattle.command_collect.proofs.Ran.{IsPlainJob}
use Rattle.command_collect.proofs.Collected.{collects_plainly}
use Rattle.command_collect.proofs.commands.files.run_files.Goals as goal

pub returns-clause-collects : goal.returns-clause-collects
returns-clause-collects g c =
    let job = c.plain-job.ensures in
    let elements = job.elements ∙ c.built_in-elements.ensures in
    let plain : IsPlainJob c.plain-job.result =
    record { no_files = elements; quiet = job.verbosity; unwanted = job.wanted; unasked = job.options; unmapped = job.maps; all = job.filter; unestimated = job.estimates; none_refused = job.refuses; no_times = job.times; no_limit = job.templates } in
    let collects = collects_plainly g.S.Source.seen g.S.Source.failure g.W.Write.contents _ _ c.plain-job.result _ _ _ _ _ _ plain refl c.run_files_with.ensures.collects in
    rw c.number.ensures (rw (job.plan, job.engine, job.output, job.verbosity) at collects)
