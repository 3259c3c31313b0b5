use Rattle.std.proofs.Common.{◌≡◌, ℕ, false, length, Ok, Err, subst, sym, refl, arith}
use Rattle.std.proofs.lemmas.Result.{err_from_is_err_and}
use Rattle.recording_order.specs.Windows.{WindowView, next_of}
use Rattle.recording_order.specs.Releases.{settle, settle_with}
use Rattle.recording_peers.specs.Calls.{Part, Follows}
use Rattle.recording_peers.proofs.Growing.{grows-settle_with}
use Rattle.recording_peers.proofs.Looping.{leaves-some, leaves-none, leaves-same, loops-begin, loops-on, loops-end, out-on, out-fault, out-none}
use Rattle.recording_peers.proofs.Following.{follows-none}
use Rattle.recording_peers.proofs.peer_state.PeerState.settle.Goals as goal

pub loop-round-init : goal.loop-round-init
loop-round-init g c =
    loops-begin g.F.FileSeries.seen (λ left says r. settle_with says c.args.domain c.args.second left r) (λ says r. settle says c.args.domain c.args.second r) (λ w. length w.waiting) c.args.self.now c.waiting_count-round-end.result (λ says r. refl) c.waiting_count-round-end.ensures

pub loop-round-preserved : goal.loop-round-preserved
loop-round-preserved g c =
    let rounds : ℕ → Part = (λ left says r. settle_with says c.args.domain c.args.second left r) in
    let is = leaves-some ((λ (w : WindowView). next_of w c.args.domain c.args.second) c.loop-round.self.window) c.loop-round.self.window c.in-Some.next c.next.new.self c.in-Some.ensures in
    loops-on g.F.FileSeries.seen rounds (λ says r. settle says c.args.domain c.args.second r) c.args.self.now c.loop-round.self c.hand_on_waiting.new.self c.loop-round._round c.waiting_count-round-end.result c.loop-round-test.true
    (out-on g.F.FileSeries.seen ((λ (w : WindowView). next_of w c.args.domain c.args.second)) rounds (λ left says r. refl) c.loop-round.self c.in-Some.next c.next.new.self is c.hand_on_waiting.new.self c.in_ok-hand_on_waiting.ensures)
    c.loop-round.invariant

pub returns : goal.returns
returns g c =
    let rounds : ℕ → Part = (λ left says r. settle_with says c.args.domain c.args.second left r) in
    let all : c.loop-round._round ≡ c.waiting_count-round-end.result = omega arith in
    c.loop-round.invariant.rest 0 (omega (arith, all)) c.loop-round.self (Ok tt) (follows-none g.F.FileSeries.seen c.loop-round.self)

pub returns-in_default : goal.returns-in_default
returns-in_default g c =
    let rounds : ℕ → Part = (λ left says r. settle_with says c.args.domain c.args.second left r) in
    let o = (λ (w : WindowView). next_of w c.args.domain c.args.second) c.loop-round.self.window in
    let none = leaves-none o c.loop-round.self.window c.next.new.self c.in_default.ensures in
    let same = leaves-same o c.loop-round.self.window c.next.new.self c.in_default.ensures in
    subst (λ (w : WindowView). Follows g.F.FileSeries.seen (λ says r. settle says c.args.domain c.args.second r) false c.args.self.now (record c.loop-round.self { window = w }) (Ok tt)) (sym same)
    (loops-end g.F.FileSeries.seen rounds (λ says r. settle says c.args.domain c.args.second r) c.args.self.now c.loop-round.self c.loop-round.self (Ok tt) c.loop-round._round c.waiting_count-round-end.result c.loop-round-test.true
    (out-none g.F.FileSeries.seen ((λ (w : WindowView). next_of w c.args.domain c.args.second)) rounds (λ left says r. refl) c.loop-round.self none) c.loop-round.invariant)

pub returns-in_err-hand_on_waiting : goal.returns-in_err-hand_on_waiting
returns-in_err-hand_on_waiting g c =
    let rounds : ℕ → Part = (λ left says r. settle_with says c.args.domain c.args.second left r) in
    let e = err_from_is_err_and c.from_residual.result c.from_residual.ensures.1 in
    let is = leaves-some ((λ (w : WindowView). next_of w c.args.domain c.args.second) c.loop-round.self.window) c.loop-round.self.window c.in-Some.next c.next.new.self c.in-Some.ensures in
    rw (e.1, e.2)
    (loops-end g.F.FileSeries.seen rounds (λ says r. settle says c.args.domain c.args.second r) c.args.self.now c.loop-round.self c.hand_on_waiting.new.self (Err c.in_err-hand_on_waiting.field-0.0) c.loop-round._round c.waiting_count-round-end.result c.loop-round-test.true
    (out-fault g.F.FileSeries.seen ((λ (w : WindowView). next_of w c.args.domain c.args.second)) rounds (λ left says r. refl) c.loop-round.self c.in-Some.next c.next.new.self (λ left says. grows-settle_with says c.args.domain c.args.second left) is c.hand_on_waiting.new.self c.in_err-hand_on_waiting.field-0.0 c.in_err-hand_on_waiting.ensures)
    c.loop-round.invariant)
