use Rattle.std.proofs.Common.{ap, sym}
use Rattle.ipfix_message.specs.declared.passed_over.PassedOver.{PassedOver}
use Rattle.ipfix_wire.specs.declared.header.Header.{Header}
use Rattle.ipfix_session.proofs.Accounts.{taken}
use Rattle.ipfix_session.proofs.ledger.Ledger.take.Goals as goal

pub returns-clause-taken : goal.returns-clause-taken
returns-clause-taken c = λ ms m are is_header is_count is_over.
    let inserted = rw c.unwrap.ensures at c.insert.ensures.entries in
    let sequence = ap (λ (h : Header). h.sequence) is_header in
    let next = c.next_after-next.ensures m sequence is_count (ap (λ (p : PassedOver). p.unknown_sets) is_over) in
    taken c.args.self.now.accounts.entries c.insert.new.self.entries c.args.header.now.domain c.args.header.now.sequence c.args.records c.args.passed_over c.next_after-next.result.0 c.next_after-next.result.1
    c.account-before.result c.after-after.result ms m
    are (ap (λ (h : Header). h.domain) (sym is_header)) (sym sequence) (sym is_count) (sym is_over) next.0 next.1 c.account-before.ensures c.after-after.ensures inserted
