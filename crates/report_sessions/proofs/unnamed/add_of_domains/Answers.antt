use Rattle.std.proofs.Common.{refl}
use Rattle.report_sessions.proofs.Once.{keeps_domain}
use Rattle.report_sessions.proofs.unnamed.add_of_domains.Goals as goal

pub loop-report-preserved : goal.loop-report-preserved
loop-report-preserved c = λ all coming k.
    keeps_domain c.args.elements.now all c.loop-report.kept c.add_of_domain.new.kept c.args.domains.now c.args.reports.now c.loop-report.report-index _
    (record { domain = 0; count = 0; lost = 0; backward = 0 }) coming c.loop-report-test.true refl (λ more had. c.add_of_domain.ensures all more had) (c.loop-report.invariant all coming k)
