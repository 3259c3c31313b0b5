use Rattle.std.proofs.Common.{ℕ, List, Ok, refl, sym, ap, subst}
use Rattle.ipfix_datagrams.specs.declared.reading.Reading.{Reading}
use Rattle.ipfix_datagrams.specs.Datagrams.{Answers as AnswersOf}
use Rattle.recording_peer.specs.Peers.{basis_with, known_after_all}
use Rattle.recording_peer.specs.Recording.{BarsShown, PeerTold, PeerView, IsPeer, HasStopped, known_shown, left_listed, resumed_for, with_ignored, taken_in}
use Rattle.std.specs.Prelude.{IfOk}
use Rattle.recording_peer.proofs.Lateness.{refused_at, refused_header}
use Rattle.recording_peer.proofs.Refusing.{refuses}
use Rattle.recording_peer.proofs.Taking.{inside_of, ignoring, peer_ignoring}
use Rattle.recording_peer.proofs.peer_recorder.PeerRecorder.take.Goals as goal

pub returns-in-Err-clause-answers : goal.returns-in-Err-clause-answers
returns-in-Err-clause-answers g c = λ first filed p.
    (refused_header c.args.self.now filed c.args.second c.args.datagram.now c.in-Err.malformed c.in-Err.ensures.gives, refl, refl)

pub returns-in-Err-read-clause-answers : goal.returns-in-Err-read-clause-answers
returns-in-Err-read-clause-answers g c = λ first filed p. (refused_at c.args.self.now filed c.args.second c.args.datagram.now c.in-Err-read.fault (Ok c.in-Ok.header) c.in-Ok.ensures.gives (c.in-Err-read.ensures.reads first (g.F.FileSeries.seen c.args.files.now) filed p), refl, refl)

pub returns-in-Ok-Ignored-clause-answers : goal.returns-in-Ok-Ignored-clause-answers
returns-in-Ok-Ignored-clause-answers g c = λ first filed p.
    let m = c.args.datagram.now in
    let v = g.F.FileSeries.seen c.args.files.now in
    let known = known_after_all (taken_in filed) in
    let now = inside_of c.self.view_is p in
    let inside : PeerView = record { recorder = c.self.inside.recorder; earlier = left_listed c.self.inside.earlier.entries; known = known_shown c.self.inside.known; told = record { counts = c.self.inside.counts.told; ignored = c.self.inside.ignored; advances = c.self.inside.advances.reaches; resumed = c.self.inside.resumed.items }; ended = c.self.inside.ended } in
    let read = c.in-Ok-Ignored.ensures.reads first v filed p in
    let alone = subst (λ (r : Reading). AnswersOf (basis_with (resumed_for filed m) read.barred) c.args.self.now.known.budget known m r) c.in-Ok-Ignored.field-0-is read.answers in
    record {
      alone = alone.0;
      files = refl;
      others = ap (λ (s : PeerView). ignoring s c.saturating_add-self-inside.result) c.self.view_is;
      is = subst (λ (n : ℕ). IsPeer first v (ignoring inside n) (with_ignored filed m)) (sym c.saturating_add-self-inside.ensures) (peer_ignoring first v inside filed m c.in-Ok-Ignored.withdrawals now alone.1);
    }

pub returns-in-Ok-record-clause-answers : goal.returns-in-Ok-record-clause-answers
returns-in-Ok-record-clause-answers g c = λ first filed p.
    let known = known_after_all (taken_in filed) in
    let m = c.args.datagram.now in
    let read = c.in-Ok-Kept.ensures.reads first (g.F.FileSeries.seen c.args.files.now) filed p in
    let x = subst (λ (r : Reading). AnswersOf (basis_with (resumed_for filed m) read.barred) c.args.self.now.known.budget known m r) c.in-Ok-Kept.field-0-is read.answers in
    c.in-Ok-record.ensures.recorded first filed (record { is = p; header = c.in-Ok.header; is_header = c.in-Ok.ensures.gives; barred = read.barred; where_barred = read.where_barred; given = x.0; read = x.1; weighs = x.2 })

pub returns-clause-answers : goal.returns-clause-answers
returns-clause-answers g c = λ first filed p.
    let known = known_after_all (taken_in filed) in
    let m = c.args.datagram.now in
    let read = c.in-Ok-Kept.ensures.reads first (g.F.FileSeries.seen c.args.files.now) filed p in
    let x = subst (λ (r : Reading). AnswersOf (basis_with (resumed_for filed m) read.barred) c.args.self.now.known.budget known m r) c.in-Ok-Kept.field-0-is read.answers in
    let stopped = c.in-Err-record.ensures.stopped first filed (record { is = p; header = c.in-Ok.header; is_header = c.in-Ok.ensures.gives; barred = read.barred; where_barred = read.where_barred; given = x.0; read = x.1; weighs = x.2 }) in
    (refl, subst (λ (t : PeerTold). HasStopped c.in-Err-record.fault first (g.F.FileSeries.seen c.record.new.files) t filed m) (sym (ap (λ (s : PeerView). s.told) c.self-2.view_is)) stopped)

pub returns-in-Ok-TooMuch-clause-answers : goal.returns-in-Ok-TooMuch-clause-answers
returns-in-Ok-TooMuch-clause-answers g c = λ first filed p.
    let m = c.args.datagram.now in
    let v = g.F.FileSeries.seen c.args.files.now in
    let s = c.args.self.now in
    let t = c.refuse_too_much.new.self in
    let r = c.refuse_too_much.result in
    let d = c.in-Ok.header.domain in
    let read = c.in-Ok-TooMuch.ensures.reads first v filed p in
    let x = subst (λ (r : Reading). AnswersOf (basis_with (resumed_for filed m) read.barred) s.known.budget (known_after_all (taken_in filed)) m r) c.in-Ok-TooMuch.field-0-is read.answers in
    let bars = subst (λ (w : List ℕ). IfOk r (λ a. BarsShown s t d w)) c.deref.ensures.value c.refuse_too_much.ensures.bars in
    refuses first v s t filed c.args.second m c.in-Ok.header read.barred c.in-Ok-TooMuch.ids.items r c.in-Ok.ensures.gives p read.where_barred x c.refuse_too_much.ensures.refused bars
    c.refuse_too_much.ensures.out c.refuse_too_much.ensures.ended c.refuse_too_much.ensures.told
