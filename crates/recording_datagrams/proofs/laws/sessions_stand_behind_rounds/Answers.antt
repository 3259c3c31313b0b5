use Rattle.recording_datagrams.proofs.BehindRounds.{behind_rounds}
use Rattle.recording_datagrams.proofs.OneStep.{SessionsStand}
use Rattle.recording_datagrams.proofs.laws.sessions_stand_behind_rounds.Goals as goal

pub returns : goal.returns
returns g c = λ run.
    let laws : SessionsStand g.F.FileSeries.seen g.P.PeerPlace.made_for = record {
      datagrams = λ limits most r es after cs stand. c.sessions_stand_for_their_datagrams.ensures (record { limits = limits; sessions = es; own = cs; stand = stand }) most r after;
      turns = λ limits second is_over es after cs t stand. c.sessions_stand_in_turn.ensures (record { limits = limits; sessions = es; own = cs; stand = stand }) second is_over after t;
    } in
    let s = behind_rounds g.F.FileSeries.seen g.F.RecordingFiles.finishes g.P.PeerPlace.made_for g.P.PeriodClock.asked laws run in
    record { happened = s.cs; stand = s.stand; last = s.last; heard = s.heard }
