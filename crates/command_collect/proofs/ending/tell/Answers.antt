use Rattle.std.proofs.Common.{rules}
use Rattle.command_collect.proofs.LinesTold.{tells_both}
use Rattle.command_collect.proofs.ending.tell.Goals as goal

pub returns : goal.returns
returns g c =
    let sessions = c.in_ok-write_told_reports.ensures.told in
    record {
      ended = sessions.ended;
      are_ended = rw (c.deref.ensures.value, c.deref-2.ensures.value) at sessions.are_ended;
      told = tells_both _ _ _ _ _ c.tell_counts.result _ _ sessions.told c.tell_counts.ensures;
    }

pub returns-in_err-write_told_reports : goal.returns-in_err-write_told_reports
returns-in_err-write_told_reports g c =
    let sessions = c.write_told_reports.ensures.told in
    record {
      ended = sessions.ended;
      are_ended = rw (c.deref.ensures.value, c.deref-2.ensures.value) at sessions.are_ended;
      told = record { told = search rules; failed = search rules; kept = sessions.told.kept };
    }
