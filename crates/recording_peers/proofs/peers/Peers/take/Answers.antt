use Rattle.std.proofs.Common.{refl, sym, ap, None}
use Rattle.recording_peers.specs.Steps.{Reception}
use Rattle.recording_peers.specs.declared.outcome.Became.TheVariants.{Taken, Ended}
use Rattle.recording_peers.proofs.Tables.{value_out}
use Rattle.recording_peers.proofs.Recording.{took_in, took_out}
use Rattle.recording_peers.proofs.peers.Peers.take.Goals as goal

pub returns-in-Ok-clause-taken : goal.returns-in-Ok-clause-taken
returns-in-Ok-clause-taken g c =
    let r : Reception g.row.F.Denot = record { peer = c.args.peer; octets = c.args.datagram.now; second = c.args.second; became = Taken; gone = None } in
    took_in g.F.FileSeries.seen c.args.self.now.kept.entries r c.in_ok-get_mut.field-0.now c.take.new.self (sym c.in_ok-get_mut.ensures.value) refl c.in-Ok.ensures

pub returns-in_err-ended-in-Err-clause-unknown : goal.returns-in_err-ended-in-Err-clause-unknown
returns-in_err-ended-in-Err-clause-unknown g c = λ none.
    let there = value_out c.args.peer c.args.self.now.kept.entries c.in_ok-get_mut.field-0.now c.take.new.self (sym c.in_ok-get_mut.ensures.value) in
    let nothing = c.in_err-ended-in-Err.ensures.value in
    absurd cc

pub returns-in_err-ended-in-Err-clause-none : goal.returns-in_err-ended-in-Err-clause-none
returns-in_err-ended-in-Err-clause-none g c = λ none.
    let there = value_out c.args.peer c.args.self.now.kept.entries c.in_ok-get_mut.field-0.now c.take.new.self (sym c.in_ok-get_mut.ensures.value) in
    let nothing = c.in_err-ended-in-Err.ensures.value in
    absurd cc

pub returns-in_ok-ended-in-Err-clause-taken : goal.returns-in_ok-ended-in-Err-clause-taken
returns-in_ok-ended-in-Err-clause-taken g c =
    let r : Reception g.row.F.Denot = record { peer = c.args.peer; octets = c.args.datagram.now; second = c.args.second; became = Ended c.in_ok-ended-in-Err.ended; gone = None } in
    took_out g.F.FileSeries.seen c.args.self.now.kept.entries c.pop.new.self.entries r c.in_ok-get_mut.field-0.now c.take.new.self c.in_ok-ended-in-Err.ended c.in-Err.field-0
    (sym c.in_ok-get_mut.ensures.value) refl c.in-Err.ensures c.in_ok-ended-in-Err.ensures.value (ap (λ l. l.entries) c.pop.ensures.entries)
