use Rattle.std.proofs.Common.{◌≡◌, ◌∙◌, Ok, ap, rules}
use Rattle.std.proofs.lemmas.Result.{err_from_is_err_and}
use Rattle.ipfix_message.specs.Domains.{message_header}
use Rattle.ipfix_datagrams.proofs.Readings.{only_memory}
use Rattle.ipfix_datagrams.specs.Withdrawals.{withdrawal_header, withdrawal_message}
use Rattle.recording_peer.proofs.Fronting.{took_one, one_fails}
use Rattle.recording_peer.proofs.fronts.take_one.Goals as goal

pub returns-in_err-own : goal.returns-in_err-own
returns-in_err-own c = λ before here keeps there.
    let h = c.args.header.now in
    let ws = c.args.templates.now in
    let written : c.deref.result.now ≡ withdrawal_message h ws = search rules in
    let good : message_header (withdrawal_message h ws) ≡ Ok (withdrawal_header h ws) = search rules in
    let p = err_from_is_err_and c.from_residual-in_err-own.result c.from_residual-in_err-own.ensures.1 in
    rw (p.1, p.2) (only_memory _ (message_header c.deref.result.now) (withdrawal_header h ws) c.in_err-own.ensures.gives (ap message_header written ∙ good))

pub returns-in_err-take_and_append : goal.returns-in_err-take_and_append
returns-in_err-take_and_append c = λ before here keeps there.
    let h = c.args.header.now in
    let ws = c.args.templates.now in
    let written : c.deref-2.result.now ≡ withdrawal_message h ws = search rules in
    let good : message_header (withdrawal_message h ws) ≡ Ok (withdrawal_header h ws) = search rules in
    let p = err_from_is_err_and c.from_residual-in_err-take_and_append.result c.from_residual-in_err-take_and_append.ensures.1 in
    rw (p.1, p.2) (one_fails before here h ws c.deref-2.result.now _ there good c.requires.ids written (c.in_err-take_and_append.ensures.fails before here keeps))

pub returns : goal.returns
returns c = λ before here keeps there.
    let h = c.args.header.now in
    let ws = c.args.templates.now in
    let written : c.deref-2.result.now ≡ withdrawal_message h ws = search rules in
    let good : message_header (withdrawal_message h ws) ≡ Ok (withdrawal_header h ws) = search rules in
    took_one before here c.take_and_append.new.recorder h ws c.deref-2.result.now c.args.out.now.items c.take_and_append.new.out.items c.in_ok-take_and_append.field-0 there good c.requires.ids written (c.in_ok-take_and_append.ensures.took before here keeps)
