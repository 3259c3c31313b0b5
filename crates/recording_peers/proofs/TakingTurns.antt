-- A session in its turn.
use Rattle.std.proofs.Common.{◌≡◌, ℕ, Bool, None, sym, ap, subst, ◌∙◌}
use Rattle.recording_files.specs.Files.{FilesView}
use Rattle.recording_order.specs.Releases.{tick}
use Rattle.recording_order.specs.Windows.{WindowView}
use Rattle.recording_peer.specs.Recording.{PeerView}
use Rattle.recording_peers.specs.declared.peer_state.PeerState.{PeerState}
use Rattle.recording_peers.specs.declared.turn.Turn.{Turn}
use Rattle.recording_peers.specs.Calls.{Follows, TakesTurn, TellsCounts, TellsResumed}

module _ {F : Type 0} (seen : F → FilesView) (old went_on ordered new : PeerState F) (second : ℕ) (is_over : Bool) (t : Turn) where
  -- what was refused is told, datagrams are handed on, the counts of domains are told, and then which domains went on
  pub turn_taken : t.refused ≡ old.refused → Follows seen (λ says r. tick says second r) is_over (record old { refused = None }) went_on t.answer
      → TellsCounts is_over went_on.window t.orders.items ordered.window → ordered ≡ record went_on { window = ordered.window }
      → TellsResumed ordered.recorder.told.resumed t.resumed.items ordered new → new ≡ record ordered { resumptions_told = new.resumptions_told }
      → TakesTurn seen old new second is_over t
  turn_taken refused follows counts others resumed more = record {
    refused = refused;
    window = went_on.window;
    follows = subst (λ (k : PeerState F). Follows seen (λ says r. tick says second r) is_over (record old { refused = None }) k t.answer) (sym same) follows;
    counts = subst (λ (w : WindowView). TellsCounts is_over went_on.window t.orders.items w) (sym (ap (λ (k : PeerState F). k.window) more)) counts;
    resumed = subst (λ (r : PeerView). TellsResumed r.told.resumed t.resumed.items old new) (sym (ap (λ (k : PeerState F). k.recorder) more))
        (subst (λ (n : ℕ). TellsResumed ordered.recorder.told.resumed t.resumed.items (record ordered { resumptions_told = n }) new) before resumed);
  }
    where
      before : ordered.resumptions_told ≡ old.resumptions_told
      before = ap (λ (k : PeerState F). k.resumptions_told) others ∙ follows.resumptions_told

      same : record new { window = went_on.window; resumptions_told = old.resumptions_told } ≡ went_on
      same =
          ap (λ (k : PeerState F). record k { window = went_on.window; resumptions_told = old.resumptions_told }) more
          ∙ ap (λ (k : PeerState F). record k { window = went_on.window; resumptions_told = old.resumptions_told }) others
          ∙ ap (λ (n : ℕ). record went_on { resumptions_told = n }) (sym follows.resumptions_told)
