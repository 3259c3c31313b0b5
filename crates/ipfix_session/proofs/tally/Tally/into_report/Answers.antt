use Rattle.std.proofs.Common.{map, ap, ◌∙◌, arith}
use Rattle.ipfix_session.specs.Accounts.{report_of, balance_of}
use Rattle.ipfix_session.proofs.Accounts.{reports_of-accounts, balances_of-accounts}
use Rattle.ipfix_session.proofs.Places.{place-same}
use Rattle.ipfix_session.proofs.tally.Tally.into_report.Goals as goal

pub returns-clause-counts : goal.returns-clause-counts
returns-clause-counts c = λ ms delivered t.
    record {
      reports = record {
        messages = t.messages;
        delivered_is = t.delivered_is;
        passed_over = t.passed_over;
        domains = c.into_reports-domains.ensures.reports ∙ ap (map report_of) t.accounts ∙ reports_of-accounts ms;
      };
      balances = c.into_reports-domains.ensures.balances ∙ ap (map balance_of) t.accounts ∙ balances_of-accounts ms;
      stopped_at = place-same _ _ _ _ (omega (arith, t.messages)) t.octets;
    }
