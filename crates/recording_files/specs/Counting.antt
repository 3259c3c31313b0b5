-- What a message adds to the report of its file.
use Rattle.std.specs.Prelude.{◌+◌, List, ◌++◌}
use Rattle.ipfix_message.specs.Domains.{Message}
use Rattle.ipfix_session.specs.declared.account.Account.{Account}
use Rattle.ipfix_session.specs.declared.tally.Tally.{Tally}
use Rattle.ipfix_session.specs.Ledger.{capped, lost_at, backward_at}
use Rattle.ipfix_session.specs.Intake.{counts_of}
use Rattle.recording_files.specs.declared.file_report.FileReport.{FileReport}
use Rattle.recording_files.specs.declared.message_count.MessageCount.{MessageCount}
use Rattle.recording_files.specs.Recorders.{AreCountsOf, CountsView, Told, Counted}

-- the report after one more message of a domain that has this account
abbrev pub file_after : FileReport → Account → MessageCount → FileReport
file_after f a c = record {
  messages = capped (f.messages + 1);
  records = capped (f.records + c.records);
  lost = capped (f.lost + lost_at a.due c.header.sequence);
  backward = capped (f.backward + backward_at a.due c.header.sequence);
  unknown_sets = capped (f.unknown_sets + c.passed_over.unknown_sets);
  unaccounted = capped (f.unaccounted + lost_at a.unsure c.header.sequence);
  ignored_withdrawals = f.ignored_withdrawals;
}

-- the counts that a tally and the report of a file keep
abbrev pub told_of : Tally → FileReport → Told
told_of t f = record { session = counts_of t; file = f }

-- whatever was counted before, the messages that add these counts are counted after it
abbrev pub CountsUpTo : Told → Told → List MessageCount → Type 0
CountsUpTo old new counts = (before here given : List Message) → Counted old before here → AreCountsOf counts given → Counted new before (here ++ given)

-- so a tally and the report of a file count messages
abbrev pub CountsInTally : Tally → FileReport → Tally → FileReport → List MessageCount → Type 0
CountsInTally old old_file new new_file counts = CountsUpTo (told_of old old_file) (told_of new new_file) counts

-- and so the messages that waited are counted
abbrev pub CountsWaiting : CountsView → CountsView → Type 0
CountsWaiting old new = CountsUpTo old.told new.told old.waiting
