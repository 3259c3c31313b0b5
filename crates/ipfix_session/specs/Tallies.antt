-- What a message adds to the counts of its session.
use Rattle.std.specs.Prelude.{◌+◌}
use Rattle.ipfix_message.specs.declared.passed_over.PassedOver.{PassedOver}
use Rattle.ipfix_session.specs.Ledger.{capped}

-- what was passed over before a message and in it
abbrev pub added_up : PassedOver → PassedOver → PassedOver
added_up before more = record {
  skipped_sets = capped (before.skipped_sets + more.skipped_sets);
  unknown_sets = capped (before.unknown_sets + more.unknown_sets);
  ignored_withdrawals = capped (before.ignored_withdrawals + more.ignored_withdrawals);
}
