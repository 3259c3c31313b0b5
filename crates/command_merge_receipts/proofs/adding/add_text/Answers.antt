use Rattle.std.proofs.Common.{ap, rules}
use Rattle.command_merge_receipts.proofs.adding.add_text.Goals as goal

pub returns-in-Ok-clause-added : goal.returns-in-Ok-clause-added
returns-in-Ok-clause-added c = record {
  its = search rules;
  same_plan = c.in-Ok.ensures.plan;
  same_intervals = c.in-Ok.ensures.intervals;
  adds = c.in-Ok.ensures.adds c.args.octets.now (ap (λ v. v.text) c.new-source.ensures.unread);
}

pub returns-in-Err-clause-against : goal.returns-in-Err-clause-against
returns-in-Err-clause-against c = (
  search rules,
  λ rows stands. record { before = c.new-source.result; after = c.add_source.new.source; holds = c.new-source.ensures.unread; due = c.in-Err.ensures.fault rows stands },
)
