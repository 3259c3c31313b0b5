use Rattle.std.proofs.Common.{◌≡◌, [], None, refl, sym, ap, subst, ◌∙◌}
use Rattle.std.specs.Prelude.{◌≢◌}
use Rattle.recording_files.specs.Files.{with_next}
use Rattle.recording_peer.specs.Peers.{givens, all_given}
use Rattle.recording_peer.specs.Recording.{PeerView, IsPeer, counted_report, known_shown, left_listed, taken_before}
use Rattle.recording_peer.proofs.Taking.{none_given, peer_turned, peer_unturned}
use Rattle.recording_peer.proofs.Stopping.{stops_turning}
use Rattle.recording_peer.proofs.peer_recorder.PeerRecorder.turn.Goals as goal

pub returns-then-not-has_begun : goal.returns-then-not-has_begun
returns-then-not-has_begun g c = λ first filed p.
    let v = g.F.FileSeries.seen c.args.files.now in
    let inside : PeerView = record { recorder = c.self.inside.recorder; earlier = left_listed c.self.inside.earlier.entries; known = known_shown c.self.inside.known; told = record { counts = c.self.inside.counts.told; ignored = c.self.inside.ignored; advances = c.self.inside.advances.reaches; resumed = c.self.inside.resumed.items }; ended = c.self.inside.ended } in
    let now : IsPeer first v inside filed = subst (λ (s : PeerView). IsPeer first v s filed) (sym c.self.view_is) p in
    let none : all_given filed.here ≡ [] = rw c.if-not-has_begun.true at (c.has_begun.ensures None (all_given (taken_before filed)) (all_given filed.here) now.keeps) in
    (peer_unturned first v c.args.self.now filed p (none_given filed.here none), refl)

pub returns-in-Ok : goal.returns-in-Ok
returns-in-Ok g c = λ first filed p.
    let v = g.F.FileSeries.seen c.args.files.now in
    let inside : PeerView = record { recorder = c.self.inside.recorder; earlier = left_listed c.self.inside.earlier.entries; known = known_shown c.self.inside.known; told = record { counts = c.self.inside.counts.told; ignored = c.self.inside.ignored; advances = c.self.inside.advances.reaches; resumed = c.self.inside.resumed.items }; ended = c.self.inside.ended } in
    let now : IsPeer first v inside filed = subst (λ (s : PeerView). IsPeer first v s filed) (sym c.self.view_is) p in
    let before = all_given (taken_before filed) in
    let some : all_given filed.here ≢ [] = rw c.if-not-has_begun.false at (c.has_begun.ensures None before (all_given filed.here) now.keeps) in (
      peer_turned first v (g.F.FileSeries.seen c.turn.new.self) inside (record { recorder = c.turn-in-Ok.new.self; earlier = left_listed c.self.inside.earlier.entries; known = known_shown c.self.inside.known; told = record { counts = c.turn-in-Ok-2.new.self.told; ignored = 0; advances = c.self.inside.advances.reaches; resumed = c.self.inside.resumed.items }; ended = c.self.inside.ended }) filed now (λ none. some (ap all_given none))
          (c.in-Ok.ensures ∙ ap (with_next v) (c.file_report-report.ensures ∙ ap (λ (s : PeerView). counted_report s.told) (sym c.self.view_is))) (c.turn-in-Ok.ensures None before (all_given filed.here) now.keeps)
          (c.turn-in-Ok-2.ensures.told (givens (taken_before filed)) (givens filed.here) now.counted.counted) refl refl refl now.goes_on refl refl,
      ap (λ (s : PeerView). s.known) c.self.view_is,
    )

pub returns-in-Err : goal.returns-in-Err
returns-in-Err g c = λ first filed p.
    let v = g.F.FileSeries.seen c.args.files.now in
    let inside : PeerView = record { recorder = c.self.inside.recorder; earlier = left_listed c.self.inside.earlier.entries; known = known_shown c.self.inside.known; told = record { counts = c.self.inside.counts.told; ignored = c.self.inside.ignored; advances = c.self.inside.advances.reaches; resumed = c.self.inside.resumed.items }; ended = c.self.inside.ended } in
    let now : IsPeer first v inside filed = subst (λ (s : PeerView). IsPeer first v s filed) (sym c.self.view_is) p in
    let some : all_given filed.here ≢ [] = rw c.if-not-has_begun.false at (c.has_begun.ensures None (all_given (taken_before filed)) (all_given filed.here) now.keeps) in
    (refl, stops_turning first v (g.F.FileSeries.seen c.turn.new.self) inside filed c.file_report-report.result inside.told now (λ none. some (ap all_given none)) (c.file_report-report.ensures ∙ ap (λ (s : PeerView). counted_report s.told) (sym c.self.view_is)) refl c.in-Err.ensures [])
