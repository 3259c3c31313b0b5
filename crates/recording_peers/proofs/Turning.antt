-- What the peers that are kept stand for, after the turn of the last one.
use Rattle.std.proofs.Common.{◌≡◌, ℕ, ◌-◌, Bool, List, [], ◌∷◌, ◌++◌, take, length, slice_get, Option, Some, None, Result, Ok, Err, refl, sym, subst}
use Rattle.std.specs.declared.net.socket_addr.SocketAddr.{SocketAddr}
use Rattle.lru.specs.LruCache.{last_entry}
use Rattle.recording_files.specs.declared.record_fault.RecordFault.{RecordFault}
use Rattle.recording_files.specs.Files.{FilesView}
use Rattle.recording_peers.specs.declared.peer_limits.PeerLimits.{PeerLimits}
use Rattle.recording_peers.specs.declared.peer_state.PeerState.{PeerState}
use Rattle.recording_peers.specs.declared.in_turn.InTurn.{InTurn}
use Rattle.recording_peers.specs.Happenings.{Happening, SecondBegan}
use Rattle.recording_peers.specs.Kept.{IsSession}
use Rattle.recording_peers.specs.Table.{Beside, Both, without_last}
use Rattle.recording_peers.specs.Steps.{GoesOn, ended_by, first_by}
use Rattle.recording_peers.specs.Sessions.{PeerHappenings, StandFor, StandInTurn, StandAfterTurn, EvictedStands}
use Rattle.recording_peers.proofs.Paired.{paired_get, paired_take, paired_length}
use Rattle.recording_peers.proofs.SessionSteps.{Laws, StandsBy, turn-stands}

module _ {F : Type 0} (seen : F → FilesView) (limits : PeerLimits) where
  abbrev Stands : PeerState F → List Happening → Type 0
  Stands k hs = IsSession seen k limits hs

  pub before_last : (es : List (SocketAddr × PeerState F)) (cs : PeerHappenings) → StandFor seen limits es cs → StandFor seen limits (without_last es) (without_last cs)
  before_last es cs p = subst (λ n. StandFor seen limits (take (length es - 1) es) (take (n - 1) cs)) (paired_length Stands es cs p) (paired_take Stands es cs (length es - 1) p)

  pub last_beside : (es : List (SocketAddr × PeerState F)) (cs : PeerHappenings) → StandFor seen limits es cs → EvictedStands seen limits (last_entry es) (last_entry cs)
  last_beside es cs p = subst (λ n. Both (Beside Stands) (last_entry es) (slice_get cs (n - 1))) (paired_length Stands es cs p) (paired_get Stands es cs (length es - 1) p)

  beside : (o : Option (SocketAddr × PeerState F)) (q : Option (SocketAddr × List Happening)) (e : SocketAddr × PeerState F) → o ≡ Some e → Both (Beside Stands) o q
      → (c : SocketAddr × List Happening) × (q ≡ Some c) × Beside Stands e c
  beside None q e h b = absurd cc
  beside (Some f) None e h b = absurd b
  beside (Some f) (Some c) e h b = let same : f ≡ e = cc in (c, refl, subst (λ x. Beside Stands x c) same b)

  module _ (laws : Laws) where
    in_turn : (second : ℕ) (answer : Result (Unit {0}) RecordFault) (peer : SocketAddr) (new : PeerState F) (es after : List (SocketAddr × PeerState F)) (cs : PeerHappenings) (c : SocketAddr × List Happening) → StandFor seen limits es cs
        → peer ≡ c.0 → StandsBy seen laws limits answer new (c.1 ++ SecondBegan second ∷ []) → after ≡ first_by answer peer new (without_last es) → StandInTurn seen limits second (ended_by answer new) after cs c
    in_turn second (Ok x) peer new es after cs c p same s e =
        subst (λ l. StandFor seen limits l ((c.0, c.1 ++ SecondBegan second ∷ []) ∷ without_last cs)) (sym e) ((same, s), before_last es cs p)
    in_turn second (Err fault) peer new es after cs c p same s e = (subst (λ l. StandFor seen limits l (without_last cs)) (sym e) (before_last es cs p), s)

    pub stand_in_turn : (second : ℕ) (is_over : Bool) (es after : List (SocketAddr × PeerState F)) (cs : PeerHappenings) (t : InTurn F) → StandFor seen limits es cs → GoesOn seen second is_over es after t
        → StandAfterTurn seen limits second t after cs
    stand_in_turn second is_over es after cs t p g =
        let at = beside (last_entry es) (last_entry cs) (t.peer, g.old) g.last (last_beside es cs p) in
        let turned = turn-stands seen laws limits g.old g.new at.0.1 second is_over g.turn at.2.1 g.takes in
        record {
          last = at.0;
          is = at.1;
          peer = at.2.0;
          stand = subst (λ o. StandInTurn seen limits second o after cs at.0) (sym g.ended) (in_turn second g.turn.answer t.peer g.new es after cs at.0 p at.2.0 turned g.others);
        }
