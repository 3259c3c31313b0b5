use Rattle.recording_datagrams.proofs.AllOwn.{stands_for_all}
use Rattle.recording_datagrams.proofs.OneStep.{SessionsStand}
use Rattle.recording_datagrams.proofs.laws.session_that_stays_stands_for_all.Goals as goal

pub returns : goal.returns
returns g c = λ run peer on.
    let laws : SessionsStand g.F.FileSeries.seen g.P.PeerPlace.made_for = record {
      datagrams = λ limits most r es after cs stand. c.sessions_stand_for_their_datagrams.ensures (record { limits = limits; sessions = es; own = cs; stand = stand }) most r after;
      turns = λ limits second is_over es after cs t stand. c.sessions_stand_in_turn.ensures (record { limits = limits; sessions = es; own = cs; stand = stand }) second is_over after t;
    } in
    stands_for_all g.F.FileSeries.seen g.F.RecordingFiles.finishes g.P.PeerPlace.made_for g.P.PeriodClock.asked laws peer run on
