use Rattle.std.proofs.Common.{◌≡◌, length, Ok, Err, refl, sym, arith}
use Rattle.std.proofs.lemmas.Result.{err_from_is_err_and}
use Rattle.recording_order.specs.Releases.{tick, tick_with}
use Rattle.recording_peers.proofs.Following.{follows-none}
use Rattle.recording_peers.proofs.Looping.{loops-begin, loops-on, loops-end, late-on, late-fault, late-none}
use Rattle.recording_peers.proofs.peer_state.PeerState.tick.Goals as goal

pub loop-round-init : goal.loop-round-init
loop-round-init g c =
    loops-begin g.F.FileSeries.seen (λ left says r. tick_with says c.args.second left r) (λ says r. tick says c.args.second r) (λ w. length w.waiting) c.args.self.now c.waiting_count-round-end.result (λ says r. refl) c.waiting_count-round-end.ensures

pub loop-round-preserved : goal.loop-round-preserved
loop-round-preserved g c =
    loops-on g.F.FileSeries.seen (λ left says r. tick_with says c.args.second left r) (λ says r. tick says c.args.second r) c.args.self.now c.loop-round.self c.settle.new.self c.loop-round._round c.waiting_count-round-end.result c.loop-round-test.true
    (late-on g.F.FileSeries.seen c.args.second c.loop-round.self c.in-Some.domain (sym c.in-Some.ensures) c.settle.new.self c.in_ok-settle.ensures)
    c.loop-round.invariant

pub returns : goal.returns
returns g c =
    let all : c.loop-round._round ≡ c.waiting_count-round-end.result = omega arith in
    c.loop-round.invariant.rest 0 (omega (arith, all)) c.loop-round.self (Ok tt) (follows-none g.F.FileSeries.seen c.loop-round.self)

pub returns-in_default : goal.returns-in_default
returns-in_default g c =
    loops-end g.F.FileSeries.seen (λ left says r. tick_with says c.args.second left r) (λ says r. tick says c.args.second r) c.args.self.now c.loop-round.self c.loop-round.self (Ok tt) c.loop-round._round c.waiting_count-round-end.result c.loop-round-test.true
    (late-none g.F.FileSeries.seen c.args.second c.loop-round.self (sym c.in_default.ensures)) c.loop-round.invariant

pub returns-in_err-settle : goal.returns-in_err-settle
returns-in_err-settle g c =
    let e = err_from_is_err_and c.from_residual.result c.from_residual.ensures.1 in
    rw (e.1, e.2)
    (loops-end g.F.FileSeries.seen (λ left says r. tick_with says c.args.second left r) (λ says r. tick says c.args.second r) c.args.self.now c.loop-round.self c.settle.new.self (Err c.in_err-settle.field-0.0) c.loop-round._round c.waiting_count-round-end.result c.loop-round-test.true
    (late-fault g.F.FileSeries.seen c.args.second c.loop-round.self c.in-Some.domain (sym c.in-Some.ensures) c.settle.new.self c.in_err-settle.field-0.0 c.in_err-settle.ensures)
    c.loop-round.invariant)
