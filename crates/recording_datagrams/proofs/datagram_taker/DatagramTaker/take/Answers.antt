use Rattle.std.proofs.Common.{◌≡◌, ◌∙◌, ap, [], Ok, Err, refl}
use Rattle.recording_peers.specs.declared.datagram_source.NoDatagram.{NoDatagram}
use Rattle.recording_peers.specs.declared.datagram_source.NoDatagram.TheVariants.{Tick, Failed}
use Rattle.recording_datagrams.proofs.Told.{tells_nothing}
use Rattle.recording_datagrams.proofs.RoundLemmas.{counted_so, so_answered}
use Rattle.recording_datagrams.proofs.datagram_taker.DatagramTaker.take.Goals as goal

pub returns-in-Ok : goal.returns-in-Ok
returns-in-Ok g c =
    (Ok (record { peer = _; octets = _; may_send = c.take_from.ensures.0 }), so_answered c.args.received _ c.args.buffer.now c.in-Ok.is, c.take_from.ensures.1)

pub returns-in-Err-Tick : goal.returns-in-Err-Tick
returns-in-Err-Tick g c =
    let why = rw c.in-Err-Tick.is at c.in-Err-Tick.field-0-is in
    let is : c.args.received ≡ Err Tick = c.in-Err-Tick.is ∙ ap (λ (e : NoDatagram). Err e) why in
    (Err Tick, so_answered c.args.received (Err Tick) c.args.buffer.now is, record { lines = []; are = (refl, refl); told = tells_nothing })

pub returns-in-Err-Failed : goal.returns-in-Err-Failed
returns-in-Err-Failed g c =
    let why = rw c.in-Err-Failed.is at c.in-Err-Failed.field-0-is in
    let is : c.args.received ≡ Err Failed = c.in-Err-Failed.is ∙ ap (λ (e : NoDatagram). Err e) why in (
      Err Failed,
      so_answered c.args.received (Err Failed) c.args.buffer.now is,
      record {
        lines = [];
        are = (counted_so c.args.self.now c.count_not_accepted.new.self c.count_not_accepted.ensures.counted c.count_not_accepted.ensures.sessions c.count_not_accepted.ensures.refused, refl);
        told = tells_nothing;
      },
    )
