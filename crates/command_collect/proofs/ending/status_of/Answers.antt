use Rattle.std.proofs.Common.{All, List, subst}
use Rattle.ipfix_session.specs.declared.report.FullReport.{FullReport}
use Rattle.command_collect.proofs.Ran.{adds_up_whole}
use Rattle.command_collect.proofs.WentWell.{NoFault, well_no_fault}
use Rattle.command_collect.proofs.ending.status_of.Goals as goal

pub returns-clause-whole : goal.returns-clause-whole
returns-clause-whole g c = λ collected is sources plan headline well.
    let none = well_no_fault c.args.job.now.verbosity.strict _ _ _ _ well in
    adds_up_whole g.S.Source.seen g.met.S.Source.ended_is_end collected sources plan headline (subst (λ (l : List FullReport). All NoFault l) is.sessions_are none)
