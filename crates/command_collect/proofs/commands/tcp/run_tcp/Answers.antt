use Rattle.std.proofs.Common.{ap, ◌∙◌}
use Rattle.std.proofs.lemmas.Option.{IfSome_then}
use Rattle.report_writing.specs.Statuses.{number_of}
use Rattle.report_writing.specs.OpeningLines.{listening_line}
use Rattle.command_collect.proofs.Ran.{IsPlainJob}
use Rattle.command_collect.proofs.Collected.{collects_plainly}
use Rattle.command_collect.proofs.LinesTold.{not_verbose}
use Rattle.command_collect.proofs.commands.tcp.run_tcp.Goals as goal

pub returns-clause-collects : goal.returns-clause-collects
returns-clause-collects g c =
    let job = c.plain-job.ensures in
    let elements = job.elements ∙ c.built_in-elements.ensures in
    let plain : IsPlainJob c.plain-job.result =
    record { no_files = elements; quiet = job.verbosity; unwanted = job.wanted; unasked = job.options; unmapped = job.maps; all = job.filter; unestimated = job.estimates; none_refused = job.refuses; no_times = job.times; no_limit = job.templates } in
    let collects = collects_plainly g.S.Source.seen g.S.Source.failure g.W.Write.contents _ _ c.plain-job.result _ _ _ _ _ _ plain (not_verbose c.plain-job.result job.verbosity (listening_line c.args.addr.now c.args.count)) c.run_connections.ensures.collects in
    rw c.number.ensures (rw (job.plan, job.engine, job.output, job.verbosity) at collects)

pub returns-clause-no_time : goal.returns-clause-no_time
returns-clause-no_time g c = IfSome_then c.args.idle c.run_connections.ensures.no_time (λ limit fails zero some. c.number.ensures ∙ ap number_of (fails zero some))
