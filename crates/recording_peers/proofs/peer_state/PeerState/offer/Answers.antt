use Rattle.std.proofs.Common.{◌≡◌, suc, ◌+◌, length, false, Ok, Err, refl, sym, subst, arith}
use Rattle.std.proofs.lemmas.Result.{err_from_is_err_and}
use Rattle.recording_order.specs.Arrivals.{Arrival}
use Rattle.recording_order.specs.Releases.{take_run, take_with}
use Rattle.recording_order.specs.Windows.{WindowView}
use Rattle.recording_peers.specs.Calls.{Follows, handed_on}
use Rattle.recording_peers.proofs.Growing.{grows-take_with}
use Rattle.recording_peers.proofs.HandingOn.{follows-no_room}
use Rattle.recording_peers.proofs.Looping.{Loops, loops-begin, loops-on, loops-end, offer-write, offer-waits, offer-doubled, offer-anew, first-on, first-fault}
use Rattle.recording_peers.proofs.peer_state.PeerState.offer.Goals as goal
use Rattle.recording_peers.proofs.peer_state.PeerState.offer.Goals.{else-loop-round-test, then-loop-round-test+in-Ok-First+in_ok-hand_on_waiting-in-Ok-First+else-round-round-end}

pub loop-round-init : goal.loop-round-init
loop-round-init g c =
    let a : Arrival = record { header = c.args.header.now; second = c.args.second; octets = c.args.datagram.now } in
    loops-begin g.F.FileSeries.seen (λ left says r. take_with says a left r) (λ says r. take_run says a r) (λ w. suc (length w.waiting)) c.args.self.now (c.waiting_count-round-end.result + 1) (λ says r. refl) (omega (arith, c.waiting_count-round-end.ensures))

pub loop-round-preserved : goal.loop-round-preserved
loop-round-preserved g c =
    let a : Arrival = record { header = c.args.header.now; second = c.args.second; octets = c.args.datagram.now } in
    loops-on g.F.FileSeries.seen (λ left says r. take_with says a left r) (λ says r. take_run says a r) c.args.self.now c.loop-round.self c.hand_on_waiting.new.self c.loop-round._round (c.waiting_count-round-end.result + 1) (omega (arith, c.loop-round-test.true))
    (first-on g.F.FileSeries.seen a c.loop-round.self c.offer.new.self c.in-Ok-First.first (sym (rw c.in-Ok-First.field-0-is at c.in-Ok-First.ensures.ok)) c.hand_on_waiting.new.self c.in_ok-hand_on_waiting-in-Ok-First.ensures)
    c.loop-round.invariant

pub returns-in-Ok-Write : goal.returns-in-Ok-Write
returns-in-Ok-Write g c =
    let a : Arrival = record { header = c.args.header.now; second = c.args.second; octets = c.args.datagram.now } in
    loops-end g.F.FileSeries.seen (λ left says r. take_with says a left r) (λ says r. take_run says a r) c.args.self.now c.loop-round.self c.hand_on.new.self c.hand_on.result c.loop-round._round (c.waiting_count-round-end.result + 1) (omega (arith, c.loop-round-test.true))
    (offer-write g.F.FileSeries.seen a c.loop-round.self c.offer.new.self (sym (rw c.in-Ok-Write.field-0-is at c.in-Ok-Write.ensures.ok)) c.hand_on.new.self c.hand_on.result c.hand_on.ensures)
    c.loop-round.invariant

pub returns-in-Ok-Waits : goal.returns-in-Ok-Waits
returns-in-Ok-Waits g c =
    let a : Arrival = record { header = c.args.header.now; second = c.args.second; octets = c.args.datagram.now } in
    loops-end g.F.FileSeries.seen (λ left says r. take_with says a left r) (λ says r. take_run says a r) c.args.self.now c.loop-round.self (record c.loop-round.self { window = c.offer.new.self }) (Ok tt) c.loop-round._round (c.waiting_count-round-end.result + 1) (omega (arith, c.loop-round-test.true))
    (offer-waits g.F.FileSeries.seen a c.loop-round.self c.offer.new.self (sym (rw c.in-Ok-Waits.field-0-is at c.in-Ok-Waits.ensures.ok)))
    c.loop-round.invariant

pub returns-in-Ok-Doubled : goal.returns-in-Ok-Doubled
returns-in-Ok-Doubled g c =
    let a : Arrival = record { header = c.args.header.now; second = c.args.second; octets = c.args.datagram.now } in
    loops-end g.F.FileSeries.seen (λ left says r. take_with says a left r) (λ says r. take_run says a r) c.args.self.now c.loop-round.self (record c.loop-round.self { window = c.offer.new.self }) (Ok tt) c.loop-round._round (c.waiting_count-round-end.result + 1) (omega (arith, c.loop-round-test.true))
    (offer-doubled g.F.FileSeries.seen a c.loop-round.self c.offer.new.self (sym (rw c.in-Ok-Doubled.field-0-is at c.in-Ok-Doubled.ensures.ok)))
    c.loop-round.invariant

pub returns-in-Ok-Anew : goal.returns-in-Ok-Anew
returns-in-Ok-Anew g c =
    let a : Arrival = record { header = c.args.header.now; second = c.args.second; octets = c.args.datagram.now } in
    loops-end g.F.FileSeries.seen (λ left says r. take_with says a left r) (λ says r. take_run says a r) c.args.self.now c.loop-round.self c.begin_anew.new.self c.begin_anew.result c.loop-round._round (c.waiting_count-round-end.result + 1) (omega (arith, c.loop-round-test.true))
    (offer-anew g.F.FileSeries.seen a c.loop-round.self c.offer.new.self (sym (rw c.in-Ok-Anew.field-0-is at c.in-Ok-Anew.ensures.ok)) c.begin_anew.new.self c.begin_anew.result c.begin_anew.ensures)
    c.loop-round.invariant

pub returns-in_err-hand_on_waiting-in-Ok-First : goal.returns-in_err-hand_on_waiting-in-Ok-First
returns-in_err-hand_on_waiting-in-Ok-First g c =
    let a : Arrival = record { header = c.args.header.now; second = c.args.second; octets = c.args.datagram.now } in
    let e = err_from_is_err_and c.from_residual.result c.from_residual.ensures.1 in
    let fault = c.in_err-hand_on_waiting-in-Ok-First.field-0.0 in
    rw (e.1, e.2)
    (loops-end g.F.FileSeries.seen (λ left says r. take_with says a left r) (λ says r. take_run says a r) c.args.self.now c.loop-round.self c.hand_on_waiting.new.self (Err fault) c.loop-round._round (c.waiting_count-round-end.result + 1) (omega (arith, c.loop-round-test.true))
    (first-fault g.F.FileSeries.seen a c.loop-round.self c.offer.new.self c.in-Ok-First.first (sym (rw c.in-Ok-First.field-0-is at c.in-Ok-First.ensures.ok)) c.hand_on_waiting.new.self fault c.in_err-hand_on_waiting-in-Ok-First.ensures)
    c.loop-round.invariant)

pub returns-in-Err : goal.returns-in-Err
returns-in-Err g c =
    let a : Arrival = record { header = c.args.header.now; second = c.args.second; octets = c.args.datagram.now } in
    let now = c.loop-round.self in
    subst (λ (w : WindowView). Follows g.F.FileSeries.seen (λ says r. take_run says a r) false c.args.self.now (record now { recorder = c.end.new.self; window = w }) (Err c.end.result)) (sym c.in-Err.ensures.err)
    (loops-end g.F.FileSeries.seen (λ left says r. take_with says a left r) (λ says r. take_run says a r) c.args.self.now now (record now { recorder = c.end.new.self }) (Err c.end.result) c.loop-round._round (c.waiting_count-round-end.result + 1) (omega (arith, c.loop-round-test.true))
    (λ left. follows-no_room g.F.FileSeries.seen now c.end.new.self c.end.result (λ says r. take_with says a (suc left) r) (λ says. grows-take_with says a (suc left)) (record { ended = c.end.ensures.ended; stopped = c.end.ensures.stopped }))
    c.loop-round.invariant)

pub returns : goal.returns
returns g c =
    let a : Arrival = record { header = c.args.header.now; second = c.args.second; octets = c.args.datagram.now } in
    elim c.loop-round-test.branch [
      | else-loop-round-test w ↦ absurd (omega (arith, c.loop-round.auto._round-end, w.loop-round-test.false))
      | then-loop-round-test+in-Ok-First+in_ok-hand_on_waiting-in-Ok-First+else-round-round-end w ↦
          let on : Loops g.F.FileSeries.seen (λ left says r. take_with says a left r) (λ says r. take_run says a r) c.args.self.now w.hand_on_waiting.new.self (c.loop-round._round + 1) (c.waiting_count-round-end.result + 1) =
          loops-on g.F.FileSeries.seen (λ left says r. take_with says a left r) (λ says r. take_run says a r) c.args.self.now c.loop-round.self w.hand_on_waiting.new.self c.loop-round._round (c.waiting_count-round-end.result + 1) (omega (arith, w.loop-round-test.true))
          (first-on g.F.FileSeries.seen a c.loop-round.self w.offer.new.self w.in-Ok-First.first (sym (rw w.in-Ok-First.field-0-is at w.in-Ok-First.ensures.ok)) w.hand_on_waiting.new.self w.in_ok-hand_on_waiting-in-Ok-First.ensures)
          c.loop-round.invariant in
          let all : c.loop-round._round ≡ c.waiting_count-round-end.result = omega (arith, w.loop-round-test.true) in
          on.rest 0 (omega (arith, all)) c.hand_on-2.new.self c.hand_on-2.result
          (subst (λ k. Follows g.F.FileSeries.seen (handed_on a) false k c.hand_on-2.new.self c.hand_on-2.result) w.self-is c.hand_on-2.ensures)
    ]
