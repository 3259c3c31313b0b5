use Rattle.std.proofs.Common.{◌≡◌, [], ◌∷◌, Ok, arith, ap, ◌∙◌, rules}
use Rattle.std.proofs.lemmas.List.Elements.{All-nil, All-cons}
use Rattle.std.proofs.lemmas.Result.{err_from_is_err_and}
use Rattle.ipfix_message.specs.Domains.{message_header, message_gives}
use Rattle.ipfix_datagrams.specs.Withdrawals.{HasTemplateId, withdrawal_header, withdrawal_message}
use Rattle.ipfix_datagrams.proofs.Withdrawn.{withdraws}
use Rattle.ipfix_datagrams.proofs.WithdrawnDomains.{some_knows, withdrawn_by}
use Rattle.ipfix_datagrams.proofs.Readings.{only_memory}
use Rattle.ipfix_datagrams.proofs.withdrawing.withdraw.Goals as goal

pub returns-in_err-decode : goal.returns-in_err-decode
returns-in_err-decode c = λ ds represents may.
    let ws = c.args.template ∷ [] in
    let there = some_knows ds c.args.header.now.domain ws 0 (omega arith) may in
    let written : c.deref.result.now ≡ withdrawal_message c.args.header.now ws = search rules in
    let good : message_header (withdrawal_message c.args.header.now ws) ≡ Ok (withdrawal_header c.args.header.now ws) = search rules in
    let y = withdraws ds c.args.header.now ws good there (All-cons HasTemplateId c.args.template [] c.requires (All-nil HasTemplateId)) in
    let p = err_from_is_err_and c.from_residual.result c.from_residual.ensures.1 in
    rw (p.1, p.2) (only_memory c.in_err-decode.field-0.0 (message_gives ds c.deref.result.now) y.0 (c.in_err-decode.ensures.gives represents.fresh ds represents.stands) (ap (message_gives ds) written ∙ y.1.is))

pub returns : goal.returns
returns c = λ ds represents may.
    let ws = c.args.template ∷ [] in
    let there = some_knows ds c.args.header.now.domain ws 0 (omega arith) may in
    let written : c.deref.result.now ≡ withdrawal_message c.args.header.now ws = search rules in
    let good : message_header (withdrawal_message c.args.header.now ws) ≡ Ok (withdrawal_header c.args.header.now ws) = search rules in
    let y = withdraws ds c.args.header.now ws good there (All-cons HasTemplateId c.args.template [] c.requires (All-nil HasTemplateId)) in
    let r = c.in_ok-decode.ensures.gives represents.fresh ds represents.stands in
    record { fresh = c.in_ok-decode.ensures.ok; stands = withdrawn_by c.decode.new.self.domains ds c.args.header.now ws c.deref.result.now r.0 y.0 written r.1 r.3 y.1 }
