use Rattle.std.proofs.Common.{◌≡◌, ◌++◌, ℕ, Option, None, refl, sym, ap, ap₂, ◌∙◌, rules}
use Rattle.std.specs.Option.{option_or, unwrap_or}
use Rattle.std.proofs.lemmas.Result.{err_from_is_err_and}
use Rattle.ipfix_message.specs.Domains.{message_gives}
use Rattle.ipfix_message.specs.Outcome.{Fails}
use Rattle.ipfix_message.specs.declared.fault.MessageFault.TheVariants.{OutOfMemory}
use Rattle.ipfix_datagrams.specs.Datagrams.{preparation_of}
use Rattle.recording_peer.specs.Peers.{basis_with, front_header}
use Rattle.recording_peer.specs.Fronts.{TookWithdrawals, TookPrepared, domains_after}
use Rattle.recording_peer.proofs.Fronting.{with_sequence, front_can, taken_front, none_defined, datagram_fails, took_datagram, answered, fails_after}
use Rattle.recording_peer.proofs.fronts.take_datagram.Goals as goal

pub returns-in_err-take_withdrawals : goal.returns-in_err-take_withdrawals
returns-in_err-take_withdrawals c = λ before here second resumed barred x keeps left r.
    let can = front_can before here c.args.datagram.now c.args.header.now (basis_with resumed barred) (preparation_of c.args.reading.now) x c.requires.header r.taken in
    let p = err_from_is_err_and c.from_residual.result c.from_residual.ensures.1 in
    rw (p.1, p.2) (c.in_err-take_withdrawals.ensures before here keeps (rw c.deref.ensures.value can.0))

pub returns-in_err-take_definitions : goal.returns-in_err-take_definitions
returns-in_err-take_definitions c = λ before here second resumed barred x keeps left r.
    let m = c.args.datagram.now in
    let h = c.args.header.now in
    let q = preparation_of c.args.reading.now in
    let own = with_sequence h c.unwrap_or.result in
    let can = front_can before here m h (basis_with resumed barred) q x c.requires.header r.taken in
    let e : TookWithdrawals before here c.take_withdrawals.new.recorder own q.withdrawn c.take_withdrawals.new.out.items = taken_front c.deref.ensures.value (c.in_ok-take_withdrawals.ensures before here keeps (rw c.deref.ensures.value can.0)) in
    let d = none_defined before here c.take_withdrawals.new.recorder own q c.take_withdrawals.new.out.items e can.1 in
    let p = err_from_is_err_and c.from_residual-in_err-take_definitions.result c.from_residual-in_err-take_definitions.ensures.1 in
    rw (p.1, p.2) (c.in_err-take_definitions.ensures before here q d)

pub returns : goal.returns
returns c = λ before here second resumed barred x keeps left r.
    let m = c.args.datagram.now in
    let h = c.args.header.now in
    let q = preparation_of c.args.reading.now in
    let own = with_sequence h c.unwrap_or.result in
    let can = front_can before here m h (basis_with resumed barred) q x c.requires.header r.taken in
    let e : TookWithdrawals before here c.take_withdrawals.new.recorder own q.withdrawn c.take_withdrawals.new.out.items = taken_front c.deref.ensures.value (c.in_ok-take_withdrawals.ensures before here keeps (rw c.deref.ensures.value can.0)) in
    let d = none_defined before here c.take_withdrawals.new.recorder own q c.take_withdrawals.new.out.items e can.1 in
    let f : TookPrepared before here c.take_definitions.new.recorder own q c.take_definitions.new.out.items = c.in_ok-take_definitions.ensures before here q d in
    let number : c.unwrap_or.result ≡ unwrap_or (option_or c.due.result c.args.due_left) h.sequence = search rules in
    let owns : own ≡ front_header resumed.due (before ++ here) h = ap (with_sequence h) (number ∙ ap₂ (λ (o p : Option ℕ). unwrap_or (option_or o p) h.sequence) (c.due.ensures None before here keeps) (sym left)) in
    answered c.take_and_append.result _ (λ fault. Fails fault (message_gives (domains_after before (here ++ f.front.given)) m)) _ (λ fault. fault ≡ OutOfMemory)
    (c.take_and_append.ensures.took before (here ++ f.front.given) f.front.keeps) (fails_after c.take_definitions.new.recorder m c.take_and_append.result before (here ++ f.front.given) f.front.keeps c.take_and_append.ensures.fails)
    (λ count took. took_datagram before here c.take_definitions.new.recorder c.take_and_append.new.recorder m second h own resumed barred c.args.reading.now x c.take_definitions.new.out.items c.take_and_append.new.out.items count c.requires.header r.taken owns f took)
    (λ fault fails. datagram_fails before here c.take_definitions.new.recorder m h own (basis_with resumed barred) q x c.take_definitions.new.out.items fault c.requires.header r.taken refl f fails)
