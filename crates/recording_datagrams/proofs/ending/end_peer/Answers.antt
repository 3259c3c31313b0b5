use Rattle.std.proofs.Common.{◌≡◌, drop, refl, ap, ◌∙◌}
use Rattle.recording_datagrams.proofs.Told.{and_tells}
use Rattle.recording_datagrams.proofs.ending.end_peer.Goals as goal

pub returns : goal.returns
returns g c =
    let told = c.released-recorder.result.resumptions_told in
    let rest : c.untold-went_on.result.now ≡ drop told c.into_session-session.result.resumed.items = c.untold-went_on.ensures ∙ ap (drop told) c.as_slice.ensures.value in
    let went_on = rw rest at c.tell_resumed-told.ensures in
    record {
      lines = _;
      are = record {
        released = c.released-recorder.result;
        is_released = c.released-recorder.ensures;
        session = c.into_session-session.result;
        reports = c.into_session-session.ensures.told;
        fault = c.into_session-session.ensures.ended;
        end = c.finish-end.result;
        is_end = c.finish-end.ensures;
        lines_are = refl;
      };
      told = rw c.and.ensures (and_tells went_on c.tell_end.ensures);
    }
