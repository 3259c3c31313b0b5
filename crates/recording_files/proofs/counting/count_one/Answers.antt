use Rattle.std.proofs.Common.{◌≡◌, ℕ, ◌+◌, List, [], ◌++◌, eqb, length, ap, sym, subst, ◌∙◌}
use Rattle.std.specs.Prelude.{unwrap_or}
use Rattle.std.specs.Map.{lookup}
use Rattle.ipfix_wire.specs.declared.header.Header.{Header}
use Rattle.ipfix_session.specs.declared.account.Account.{Account}
use Rattle.ipfix_session.specs.Given.{records_in}
use Rattle.ipfix_session.specs.Accounts.{account_of, accounts_of}
use Rattle.ipfix_session.specs.Ledger.{messages_of}
use Rattle.ipfix_session.specs.Puts.{CountsOn}
use Rattle.ipfix_session.specs.Intake.{counts_of}
use Rattle.ipfix_session.proofs.Accounts.{account_at}
use Rattle.ipfix_session.proofs.Reaching.{tells_delivered}
use Rattle.recording_files.specs.Counting.{told_of}
use Rattle.recording_files.proofs.Counts.{counted-push, counts_on, up_to-one}
use Rattle.recording_files.proofs.counting.count_one.Goals as goal

pub returns-clause-counts : goal.returns-clause-counts
returns-clause-counts c = up_to-one (told_of c.args.tally.now c.args.file.now) (told_of c.take.new.self c.report_after.result) c.args.message.now (λ before here m counted is.
    let ms = before ++ here in
    let message = c.args.message.now in
    let tally = c.args.tally.now in
    let on : CountsOn tally.delivered message.records c.saturating_add-tally.result = subst (λ (n : ℕ). CountsOn tally.delivered message.records n) (sym c.saturating_add-tally.ensures) (counts_on tally.delivered message.records) in
    let tells = tells_delivered (counts_of tally) c.saturating_add-tally.result message.records ms (length (records_in ms)) counted.session on in
    let domain : message.header.domain ≡ m.header.domain = ap (λ (h : Header). h.domain) (sym is.header) in
    let account : c.account-account.result ≡ account_of (messages_of m.header.domain ms) =
    c.account-account.ensures ∙ ap (λ (es : List (ℕ × Account)). unwrap_or (lookup (eqb message.header.domain) es) (account_of [])) counted.session.accounts
    ∙ ap (λ (d : ℕ). unwrap_or (lookup (eqb d) (accounts_of ms)) (account_of [])) domain ∙ account_at ms m.header.domain in
    counted-push (told_of c.take.new.self c.report_after.result) c.args.file.now before here m message c.account-account.result is account
    (c.take.ensures.tells ms m (length (records_in ms) + message.records) tells is.header is.records is.passed_over) counted.file c.report_after.ensures)
