use Rattle.std.proofs.Common.{◌≡◌, ◌≤◌, ◌+◌, ◌++◌, length, map}
use Rattle.std.specs.Vec.{vec_capacity, vec_len}
use Rattle.ipfix_session.specs.Accounts.{balance_of, report_of}
use Rattle.ipfix_session.proofs.ledger.Ledger.into_reports.Given as goal

-- the reports and balances of the first accounts, and room for the others
abbrev pub invariant-loop-domain : goal.invariant-loop-domain
invariant-loop-domain l =
    record {
      reports : l.reports.items ++ map report_of l.domain-iterator ≡ map report_of l.fn.self.accounts.entries;
      balances : l.balances.items ++ map balance_of l.domain-iterator ≡ map balance_of l.fn.self.accounts.entries;
      report_room : vec_len l.reports + length l.domain-iterator ≤ vec_capacity l.reports;
      balance_room : vec_len l.balances + length l.domain-iterator ≤ vec_capacity l.balances;
    }
