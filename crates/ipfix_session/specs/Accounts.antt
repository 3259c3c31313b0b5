-- What is kept of a domain.
use Rattle.std.specs.Prelude.{ℕ, ◌+◌, Option, List, map, sum_by}
use Rattle.ipfix_message.specs.Domains.{Message}
use Rattle.ipfix_message.specs.declared.passed_over.PassedOver.{PassedOver}
use Rattle.ipfix_session.specs.declared.account.Account.{Account}
use Rattle.ipfix_session.specs.declared.report.DomainReport.{DomainReport}
use Rattle.ipfix_session.specs.declared.report.DomainBalance.{DomainBalance}
use Rattle.ipfix_session.specs.Ledger.{capped, count_in, lost_at, backward_at, unsure_after, lost_between, backward_between, sum_neighbours, of_last, due_of, messages_of, domains_of}
use Rattle.ipfix_session.specs.Reports.{passed_over_in}
use Rattle.ipfix_session.specs.Balances.{unaccounted_between, late_between}
use Rattle.ipfix_session.specs.Tallies.{added_up}

-- the account of a domain's messages
abbrev pub account_of : List Message → Account
account_of own = record {
  count = capped (sum_by count_in own);
  lost = capped (sum_neighbours lost_between own);
  backward = capped (sum_neighbours backward_between own);
  passed_over = passed_over_in own;
  unaccounted = capped (sum_neighbours unaccounted_between own);
  late = capped (sum_neighbours late_between own);
  due = due_of own;
  unsure = of_last unsure_after own;
}

-- the account after one more message, with this sequence number, count and sets that were passed over
abbrev pub account_after : Account → ℕ → ℕ → PassedOver → Option ℕ → Option ℕ → Account
account_after a sequence count passed_over due unsure = record {
  count = capped (a.count + count);
  lost = capped (a.lost + lost_at a.due sequence);
  backward = capped (a.backward + backward_at a.due sequence);
  passed_over = added_up a.passed_over passed_over;
  unaccounted = capped (a.unaccounted + lost_at a.unsure sequence);
  late = capped (a.late + backward_at a.unsure sequence);
  due = due;
  unsure = unsure;
}

-- the accounts of all domains, in order of first appearance
abbrev pub accounts_of : List Message → List (ℕ × Account)
accounts_of ms = map (λ domain. (domain, account_of (messages_of domain ms))) (domains_of ms)

-- the report that an account makes
abbrev pub report_of : ℕ × Account → DomainReport
report_of entry = record { domain = entry.0; count = entry.1.count; lost = entry.1.lost; backward = entry.1.backward }

-- the balance that an account makes
abbrev pub balance_of : ℕ × Account → DomainBalance
balance_of entry = record { domain = entry.0; passed_over = entry.1.passed_over; unaccounted = entry.1.unaccounted; late = entry.1.late }
