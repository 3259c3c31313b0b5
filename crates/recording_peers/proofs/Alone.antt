-- What a run of datagrams leaves of a peer is what its own leave.
use Rattle.std.proofs.Common.{◌≡◌, ℕ, Bool, true, false, cond, not, List, [], ◌∷◌, ◌++◌, map, is_some, Option, Some, None, IsSome, refl, sym, ap, ◌∙◌, subst, append-nil, append_assoc}
use Rattle.std.specs.Prelude.{filter, unwrap_or}
use Rattle.std.specs.Map.{lookup, lookup_key, remove_entry}
use Rattle.std.specs.declared.net.socket_addr.SocketAddr.{SocketAddr}
use Rattle.std.specs.contracts.net.socket_addr.SocketAddrEq.TheImpl.Laws.{laws-law}
use Rattle.recording_files.specs.Files.{FilesView}
use Rattle.recording_peers.specs.declared.peer_limits.PeerLimits.{PeerLimits}
use Rattle.recording_peers.specs.declared.peer_state.PeerState.{PeerState}
use Rattle.recording_peers.specs.declared.outcome.Became.{Became}
use Rattle.recording_peers.specs.declared.outcome.Became.TheVariants.{Taken, Ended, NoPlace, NoMemory}
use Rattle.recording_peers.specs.Happenings.{Happening}
use Rattle.recording_peers.specs.Steps.{Reception}
use Rattle.recording_peers.specs.Table.{same_peer, of_peer, others_for, with_first, without}
use Rattle.recording_peers.specs.Sessions.{PeerHappenings, happened_to, with_happening, came_in, went_in, StandFor, StandBy}
use Rattle.recording_peers.specs.Runs.{AreRecorded, happened_by, happened_in, happened_after, own_of, IsTaken, IsNeverEvicted}
use Rattle.recording_peers.proofs.SessionSteps.{Laws}
use Rattle.recording_peers.proofs.Standing.{stand_after}

module _ {K X : Type 0} (test : K → Bool) where
  -- among those that don't pass another test
  lookup_kept : (other : K → Bool) (es : List (K × X)) (v : X) → ((k : K) → other k ≡ true → test k ≡ false) → lookup test (filter (λ e. not (other e.0)) es) ≡ Some v → lookup test es ≡ Some v
  lookup_kept other [] v apart h = h
  lookup_kept other (e ∷ es) v apart h = (elim (other e.0) as (λ b. other e.0 ≡ b → lookup test (cond (not b) (e ∷ filter (λ e. not (other e.0)) es) (filter (λ e. not (other e.0)) es)) ≡ Some v → lookup test (e ∷ es) ≡ Some v) [
    | true ↦ λ t g. rw (apart e.0 t) (lookup_kept other es v apart g)
    | false ↦ λ t g. (elim (test e.0) as (λ b. cond b (Some e.1) (lookup test (filter (λ e. not (other e.0)) es)) ≡ Some v → cond b (Some e.1) (lookup test es) ≡ Some v) [
      | true ↦ λ k. k
      | false ↦ λ k. lookup_kept other es v apart k
    ]) g
  ]) refl h

  none_kept : (other : K → Bool) (es : List (K × X)) (v : X) → ((k : K) → other k ≡ test k) → lookup test (filter (λ e. not (other e.0)) es) ≡ Some v → ⊥
  none_kept other [] v same h = cc
  none_kept other (e ∷ es) v same h = (elim (other e.0) as (λ b. other e.0 ≡ b → lookup test (cond (not b) (e ∷ filter (λ e. not (other e.0)) es) (filter (λ e. not (other e.0)) es)) ≡ Some v → ⊥) [
    | true ↦ λ t g. none_kept other es v same g
    | false ↦ λ t g. none_kept other es v same (rw (sym (same e.0) ∙ t) at g)
  ]) refl h

  lookup_removed : (other : K → Bool) (es : List (K × X)) (v : X) → ((k : K) → other k ≡ true → test k ≡ false) → lookup test (remove_entry other es) ≡ Some v → lookup test es ≡ Some v
  lookup_removed other [] v apart h = h
  lookup_removed other (e ∷ es) v apart h = (elim (other e.0) as (λ b. other e.0 ≡ b → lookup test (cond b es (e ∷ remove_entry other es)) ≡ Some v → lookup test (e ∷ es) ≡ Some v) [
    | true ↦ λ t g. rw (apart e.0 t) g
    | false ↦ λ t g. (elim (test e.0) as (λ b. cond b (Some e.1) (lookup test (remove_entry other es)) ≡ Some v → cond b (Some e.1) (lookup test es) ≡ Some v) [
      | true ↦ λ k. k
      | false ↦ λ k. lookup_removed other es v apart k
    ]) g
  ]) refl h

  pub key_passes : (es : List (K × X)) (k : K) → lookup_key test es ≡ Some k → test k ≡ true
  key_passes [] k h = absurd cc
  key_passes (e ∷ es) k h = (elim (test e.0) as (λ b. test e.0 ≡ b → cond b (Some e.0) (lookup_key test es) ≡ Some k → test k ≡ true) [
    | true ↦ λ t g. let same : e.0 ≡ k = cc in subst (λ x. test x ≡ true) same t
    | false ↦ λ t g. key_passes es k g
  ]) refl h

module _ (peer other : SocketAddr) where
  -- the key of the other one
  pub key_of : (o : Option SocketAddr) → ((k : SocketAddr) → o ≡ Some k → same_peer other k ≡ true) → same_peer other (unwrap_or o other) ≡ true
  key_of None h = laws-law.refl other
  key_of (Some k) h = h k refl

  apart : same_peer peer other ≡ false → (k : SocketAddr) → same_peer other k ≡ true → same_peer peer k ≡ false
  apart e k t = laws-law.symm peer k ∙ sym (laws-law.congr other k peer t) ∙ laws-law.symm other peer ∙ e

module _ {X : Type 0} (gone : Option SocketAddr) (peer other : SocketAddr) where
  -- one that didn't go is what it was
  in_without : (es : List (SocketAddr × X)) (v : X) → of_peer peer (without gone es) ≡ Some v → of_peer peer es ≡ Some v
  in_without es v h = by gone h
    where
      by : (o : Option SocketAddr) → of_peer peer (without o es) ≡ Some v → of_peer peer es ≡ Some v
      by None g = g
      by (Some q) g = (elim (same_peer peer q) as (λ b. same_peer peer q ≡ b → of_peer peer es ≡ Some v) [
        | true ↦ λ t. absurd (none_kept (same_peer peer) (same_peer q) es v (λ k. sym (laws-law.congr peer q k t)) g)
        | false ↦ λ e. lookup_kept (same_peer peer) (same_peer q) es v (apart peer q e) g
      ]) refl

  in_others : (es : List (SocketAddr × X)) (v : X) → same_peer peer other ≡ false → of_peer peer (others_for gone other es) ≡ Some v → of_peer peer es ≡ Some v
  in_others es v e h = (elim (is_some (of_peer other es)) as (λ b. of_peer peer (cond b (remove_entry (same_peer other) es) (without gone es)) ≡ Some v → of_peer peer es ≡ Some v) [
    | true ↦ λ g. lookup_removed (same_peer peer) (same_peer other) es v (apart peer other e) g
    | false ↦ λ g. in_without es v g
  ]) h

  in_first : (es : List (SocketAddr × X)) (x v : X) → same_peer peer other ≡ false → of_peer peer (with_first gone other x es) ≡ Some v → of_peer peer es ≡ Some v
  in_first es x v e h =
      let key = key_of peer other (lookup_key (same_peer other) es) (key_passes (same_peer other) es) in
      in_others es v e (rw (apart peer other e (unwrap_or (lookup_key (same_peer other) es) other) key) at h)

  -- or of the peer itself
  first_is : (es : List (SocketAddr × X)) (x : X) → same_peer peer other ≡ true → of_peer peer (with_first gone other x es) ≡ Some x
  first_is es x e =
      let key = key_of peer other (lookup_key (same_peer other) es) (key_passes (same_peer other) es) in
      rw (laws-law.congr peer other (unwrap_or (lookup_key (same_peer other) es) other) e ∙ key)

module _ {X : Type 0} (peer other : SocketAddr) where
  pub same_of : (es : List (SocketAddr × X)) → same_peer peer other ≡ true → of_peer other es ≡ of_peer peer es
  same_of es e = λ i. lookup (λ k. sym (laws-law.congr peer other k e) i) es

pub same_option : {X : Type 0} (o q : Option X) → ((v : X) → o ≡ Some v → q ≡ Some v) → (IsSome q → IsSome o) → o ≡ q
same_option None None h k = refl
same_option None (Some w) h k = let no_value = k refl in absurd cc
same_option (Some v) q h k = sym (h v refl)

module _ (peer : SocketAddr) (gone : Option SocketAddr) where
  -- its own
  added : (q : SocketAddr) (h : Happening) (cs : PeerHappenings) → same_peer peer q ≡ true → of_peer peer (with_happening gone cs q h) ≡ Some (happened_to peer cs ++ h ∷ [])
  added q h cs e = first_is gone peer q cs (happened_to q cs ++ h ∷ []) e ∙ ap (λ o. Some (unwrap_or o [] ++ h ∷ [])) (same_of peer q cs e)

module _ {F : Type 0} (peer : SocketAddr) where
  own_cons : (r : Reception F) (rs : List (Reception F)) → own_of peer (r ∷ rs) ≡ cond (same_peer peer r.peer) (came_in r ∷ []) [] ++ own_of peer rs
  own_cons r rs = elim (same_peer peer r.peer) as (λ b. map (λ (x : Reception F). came_in x) (cond b (r ∷ filter (λ (x : Reception F). same_peer peer x.peer) rs) (filter (λ (x : Reception F). same_peer peer x.peer) rs)) ≡ cond b (came_in r ∷ []) [] ++ own_of peer rs) [
    | true ↦ refl
    | false ↦ refl
  ]

  -- another's datagram
  theirs : (became : Became F) (r : Reception F) (cs : PeerHappenings) → same_peer peer r.peer ≡ false → (IsSome (of_peer peer cs) → IsSome (of_peer peer (happened_by became r cs)))
      → of_peer peer (happened_by became r cs) ≡ of_peer peer cs
  theirs Taken r cs e k = same_option (of_peer peer (with_happening (went_in r) cs r.peer (came_in r))) (of_peer peer cs) (λ v h. in_first (went_in r) peer r.peer cs (happened_to r.peer cs ++ came_in r ∷ []) v e h) k
  theirs (Ended x) r cs e k = same_option (of_peer peer (others_for (went_in r) r.peer cs)) (of_peer peer cs) (λ v h. in_others (went_in r) peer r.peer cs v e h) k
  theirs NoPlace r cs e k = refl
  theirs NoMemory r cs e k = refl

  -- or its own
  its : (became : Became F) (r : Reception F) (cs : PeerHappenings) → same_peer peer r.peer ≡ true → IsTaken became → of_peer peer (happened_by became r cs) ≡ Some (happened_to peer cs ++ came_in r ∷ [])
  its Taken r cs e s = added peer (went_in r) r.peer (came_in r) cs e
  its (Ended k) r cs e s = absurd s
  its NoPlace r cs e s = absurd s
  its NoMemory r cs e s = absurd s

  pub one : (r : Reception F) (cs : PeerHappenings) → (same_peer peer r.peer ≡ true → IsTaken r.became) → (IsSome (of_peer peer cs) → IsSome (of_peer peer (happened_in r cs)))
      → happened_to peer (happened_in r cs) ≡ happened_to peer cs ++ cond (same_peer peer r.peer) (came_in r ∷ []) []
  one r cs s k = (elim (same_peer peer r.peer) as (λ b. same_peer peer r.peer ≡ b → happened_to peer (happened_in r cs) ≡ happened_to peer cs ++ cond b (came_in r ∷ []) []) [
    | true ↦ λ e. ap (λ o. unwrap_or o []) (its r.became r cs e (s e))
    | false ↦ λ e. ap (λ o. unwrap_or o []) (theirs r.became r cs e k) ∙ sym (append-nil (happened_to peer cs))
  ]) refl

  pub alone : (rs : List (Reception F)) (cs : PeerHappenings) → IsNeverEvicted peer rs cs → happened_to peer (happened_after rs cs) ≡ happened_to peer cs ++ own_of peer rs
  alone [] cs g = sym (append-nil (happened_to peer cs))
  alone (r ∷ rs) cs g =
      alone rs (happened_in r cs) g.2
      ∙ ap (λ hs. hs ++ own_of peer rs) (one r cs g.0 g.1)
      ∙ append_assoc (happened_to peer cs) (cond (same_peer peer r.peer) (came_in r ∷ []) []) (own_of peer rs)
      ∙ ap (λ hs. happened_to peer cs ++ hs) (sym (own_cons r rs))

module _ {F : Type 0} (seen : F → FilesView) (made_for : F → SocketAddr → Type 0) (laws : Laws) (limits : PeerLimits) (most : ℕ) where
  pub stand_by : (became : Became F) (r : Reception F) (after : List (SocketAddr × PeerState F)) (cs : PeerHappenings) → StandBy seen limits became r after cs → StandFor seen limits after (happened_by became r cs)
  stand_by Taken r after cs s = s.0
  stand_by (Ended k) r after cs s = s.0
  stand_by NoPlace r after cs s = s.0
  stand_by NoMemory r after cs s = s.0

  pub stand_after_all : (rs : List (Reception F)) (es after : List (SocketAddr × PeerState F)) (cs : PeerHappenings) → StandFor seen limits es cs → AreRecorded seen made_for limits most rs es after → StandFor seen limits after (happened_after rs cs)
  stand_after_all [] es after cs p r = subst (λ l. StandFor seen limits l cs) (sym r) p
  stand_after_all (r ∷ rs) es after cs p a =
      let stand = stand_after seen made_for laws limits most r es a.0 cs p a.1 in
      stand_after_all rs a.0 after (happened_in r cs) (stand_by r.became r a.0 cs stand) a.2
