-- What the peers that are kept stand for, after a datagram.
use Rattle.std.proofs.Common.{◌≡◌, ℕ, List, [], Option, Some, None, Result, Ok, Err, refl, sym, subst}
use Rattle.std.specs.Prelude.{unwrap_or}
use Rattle.std.specs.declared.net.socket_addr.SocketAddr.{SocketAddr}
use Rattle.recording_files.specs.declared.record_fault.RecordFault.{RecordFault}
use Rattle.recording_files.specs.Files.{FilesView}
use Rattle.recording_peers.specs.declared.peer_limits.PeerLimits.{PeerLimits}
use Rattle.recording_peers.specs.declared.peer_state.PeerState.{PeerState}
use Rattle.recording_peers.specs.declared.outcome.Became.{Became}
use Rattle.recording_peers.specs.declared.outcome.Became.TheVariants.{Taken, Ended, NoPlace, NoMemory}
use Rattle.recording_peers.specs.Happenings.{Happening}
use Rattle.recording_peers.specs.Kept.{IsSession}
use Rattle.recording_peers.specs.Table.{same_peer, of_peer, entry_of, others_for, Both}
use Rattle.recording_peers.specs.Steps.{Reception, ComesTo, TakesIn, RecordsBy, Records, became_by, kept_by}
use Rattle.recording_peers.specs.Sessions.{PeerHappenings, happened_to, happened_with, with_happening, came_in, went_in, StandFor, EvictedStands, StandBy, StandAfter}
use Rattle.recording_peers.proofs.Paired.{paired_lookup, paired_first, paired_others, paired_gone}
use Rattle.recording_peers.proofs.SessionSteps.{Laws, StandsBy, takes-stands}

module _ {F : Type 0} (seen : F → FilesView) (made_for : F → SocketAddr → Type 0) (laws : Laws) (limits : PeerLimits) where
  -- a session stands for this
  abbrev Stands : PeerState F → List Happening → Type 0
  Stands k hs = IsSession seen k limits hs

  came_to : (peer : SocketAddr) (m : List ℕ) (o : Option (PeerState F)) (q : Option (List Happening)) (old : PeerState F) → Both Stands o q → ComesTo seen made_for limits peer m o old → IsSession seen old limits (unwrap_or q [])
  came_to peer m None None old b c = c.begins.session
  came_to peer m None (Some hs) old b c = absurd b
  came_to peer m (Some k) None old b c = absurd b
  came_to peer m (Some k) (Some hs) old b c = subst (λ x. IsSession seen x limits hs) (sym c) b

  went : (r : Reception F) (es : List (SocketAddr × PeerState F)) (cs : PeerHappenings) → StandFor seen limits es cs → r.gone ≡ entry_of (went_in r) es → EvictedStands seen limits r.gone (entry_of (went_in r) cs)
  went r es cs p e = subst (λ g. EvictedStands seen limits g (entry_of (went_in r) cs)) (sym e) (paired_gone Stands (went_in r) es cs p)

  -- by the answer of its session
  by_answer : (r : Reception F) (es after : List (SocketAddr × PeerState F)) (cs : PeerHappenings) (answer : Result (Unit {0}) RecordFault) (new : PeerState F) → StandFor seen limits es cs
      → StandsBy seen laws limits answer new (happened_with r.peer cs (came_in r)) → after ≡ kept_by answer (went_in r) r.peer new es → EvictedStands seen limits r.gone (entry_of (went_in r) cs) → StandBy seen limits (became_by answer new) r after cs
  by_answer r es after cs (Ok x) new p s e g =
      (subst (λ l. StandFor seen limits l (with_happening (went_in r) cs r.peer (came_in r))) (sym e) (paired_first Stands (went_in r) r.peer es cs new (happened_with r.peer cs (came_in r)) p s), g)
  by_answer r es after cs (Err fault) new p s e g =
      (subst (λ l. StandFor seen limits l (others_for (went_in r) r.peer cs)) (sym e) (paired_others Stands (went_in r) r.peer es cs p), g, s)

  took : (most : ℕ) (r : Reception F) (es after : List (SocketAddr × PeerState F)) (cs : PeerHappenings) → StandFor seen limits es cs → TakesIn seen made_for limits most r es after → StandAfter seen limits r after cs
  took most r es after cs p t =
      let old = came_to r.peer r.octets (of_peer r.peer es) (of_peer r.peer cs) t.old (paired_lookup Stands (same_peer r.peer) es cs p) t.comes_to in
      let s = takes-stands seen laws limits t.old t.new (happened_to r.peer cs) r.octets r.second t.answer old t.takes in
      subst (λ b. StandBy seen limits b r after cs) (sym t.became) (by_answer r es after cs t.answer t.new p s t.others (went r es cs p t.was_kept))

  by_became : (most : ℕ) (b : Became F) (r : Reception F) (es after : List (SocketAddr × PeerState F)) (cs : PeerHappenings) → r.became ≡ b → StandFor seen limits es cs → RecordsBy seen made_for limits b most r es after → StandAfter seen limits r after cs
  by_became most Taken r es after cs is p t = took most r es after cs p t
  by_became most (Ended k) r es after cs is p t = took most r es after cs p t
  by_became most NoPlace r es after cs is p t =
      subst (λ b. StandBy seen limits b r after cs) (sym is) (subst (λ l. StandFor seen limits l cs) (sym t.nothing.same) p, t.nothing.none_went)
  by_became most NoMemory r es after cs is p t =
      subst (λ b. StandBy seen limits b r after cs) (sym is) (subst (λ l. StandFor seen limits l cs) (sym t.same) p, t.none_went)

  pub stand_after : (most : ℕ) (r : Reception F) (es after : List (SocketAddr × PeerState F)) (cs : PeerHappenings) → StandFor seen limits es cs → Records seen made_for limits most r es after → StandAfter seen limits r after cs
  stand_after most r es after cs p t = by_became most r.became r es after cs refl p t
