use Rattle.std.proofs.Common.{rules}
use Rattle.std.proofs.KnownBytes.{Appends-trans}
use Rattle.report_sessions.proofs.reports.write_session.Goals as goal

pub returns-in_ok-write_session_fault : goal.returns-in_ok-write_session_fault
returns-in_ok-write_session_fault g c =
    let both = Appends-trans _ _ _ _ _ c.in_ok-write_domains.ensures.told c.in_ok-write_session_fault.ensures.told in
    record {
      told = rw c.in-Some.is (rw (c.number.ensures, c.name.ensures, c.deref.ensures.value) at both);
      failed = search rules;
      kept = λ failed. c.write_session_fault.ensures.kept (c.write_domains.ensures.kept failed);
    }
