use Rattle.std.proofs.Common.{true}
use Rattle.std.proofs.lemmas.Result.{err_from_is_err_and}
use Rattle.recording_order.specs.Releases.{tick}
use Rattle.recording_peers.proofs.Growing.{grows-none}
use Rattle.recording_peers.proofs.Following.{follows-both, follows-fault}
use Rattle.recording_peers.proofs.HandingOn.{follows-finish}
use Rattle.recording_peers.proofs.peer_state.PeerState.go_on.Goals as goal

pub returns-in_err-tick : goal.returns-in_err-tick
returns-in_err-tick g c =
    let e = err_from_is_err_and c.from_residual.result c.from_residual.ensures.1 in
    rw (e.1, e.2)
    (follows-fault g.F.FileSeries.seen (λ says r. tick says c.args.second r) (λ says r. r) c.args.is_over c.args.self.now c.tick.new.self c.in_err-tick.field-0.0 (λ says. grows-none) c.in_err-tick.ensures)

pub returns-then-is_over : goal.returns-then-is_over
returns-then-is_over g c =
    rw c.if-is_over.true
    (follows-both g.F.FileSeries.seen (λ says r. tick says c.args.second r) (λ says r. r) true c.args.self.now c.tick.new.self
    (record c.tick.new.self { recorder = c.finish_file.new.self; files = c.finish_file.new.files }) c.finish_file.result c.in_ok-tick.ensures
    (follows-finish g.F.FileSeries.seen c.tick.new.self c.finish_file.new.self c.finish_file.new.files c.finish_file.result c.finish_file.ensures.finishes))

pub returns-else-is_over : goal.returns-else-is_over
returns-else-is_over g c = rw c.if-is_over.false c.in_ok-tick.ensures
