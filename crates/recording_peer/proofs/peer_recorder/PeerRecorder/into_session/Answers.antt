use Rattle.std.proofs.Common.{sym, ap, subst, ◌∙◌}
use Rattle.ipfix_datagrams.specs.Reaches.{told_of}
use Rattle.ipfix_datagrams.proofs.Reaches.{told_of-reaches}
use Rattle.recording_peer.specs.Peers.{givens}
use Rattle.recording_peer.specs.Recording.{Counts, PeerView, taken_before, taken_in}
use Rattle.recording_peer.proofs.Taking.{last_reported}
use Rattle.recording_peer.proofs.peer_recorder.PeerRecorder.into_session.Goals as goal

pub returns-clause-told : goal.returns-clause-told
returns-clause-told c = λ filed counts.
    let now = subst (λ (s : PeerView). Counts s.told filed) (sym c.self.view_is) counts in
    record {
      session =
          let told = (c.into_session-session.ensures.told (givens (taken_before filed)) (givens filed.here) now.counted).reported in
          record { session = told.session; no_domains = told.no_domains; fault = told.fault };
      last = c.file_report-last.ensures ∙ last_reported c.args.self.told filed counts;
      advances = ap told_of now.noted ∙ told_of-reaches (givens (taken_in filed));
      resumed = now.resumed;
    }
