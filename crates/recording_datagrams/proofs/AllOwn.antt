-- The session of a peer that stays stands for all that happened to it since its first datagram.
use Rattle.std.proofs.Common.{◌≡◌, ◌≢◌, ℕ, ◌&&◌, Bool, true, false, cond, List, [], ◌∷◌, ◌++◌, Option, Some, None, IsSome, Result, Ok, Err, refl, sym, ap, ◌∙◌, subst, inl, inr, append-nil, append_assoc}
use Rattle.std.specs.Prelude.{nat_lt, unwrap_or}
use Rattle.std.proofs.lemmas.Bool.{le-ltb, lt-ltb}
use Rattle.std.specs.declared.net.socket_addr.SocketAddr.{SocketAddr}
use Rattle.recording_files.specs.Files.{FilesView}
use Rattle.recording_files.specs.Periods.{ClockView}
use Rattle.recording_files.specs.declared.file_report.FileReport.{FileReport}
use Rattle.recording_folder.specs.declared.session_files.FilesEnd.{FilesEnd}
use Rattle.recording_peers.specs.declared.peer_limits.PeerLimits.{PeerLimits}
use Rattle.recording_peers.specs.Happenings.{Happening, DatagramCame, SecondBegan}
use Rattle.recording_peers.specs.Kept.{IsSession}
use Rattle.recording_peers.specs.Runs.{IsTaken, happened_by, happened_in}
use Rattle.recording_peers.specs.Sessions.{PeerHappenings, StandFor, came_in, happened_to, went_in}
use Rattle.recording_peers.specs.Steps.{Reception, Records, RecordsBy}
use Rattle.recording_peers.specs.Table.{same_peer, of_peer, others_for, Both, Paired}
use Rattle.recording_peers.specs.declared.datagram_source.NoDatagram.{NoDatagram}
use Rattle.recording_peers.specs.declared.datagram_source.NoDatagram.TheVariants.{Tick, Failed}
use Rattle.recording_peers.specs.declared.peer_state.PeerState.{PeerState}
use Rattle.recording_peers.specs.declared.peers.Peers.{Peers}
use Rattle.recording_peers.specs.declared.outcome.Became.{Became}
use Rattle.recording_peers.specs.declared.outcome.Became.TheVariants.{Taken, Ended, NoPlace, NoMemory}
use Rattle.recording_peers.proofs.Alone.{one, same_of, same_option}
use Rattle.recording_peers.proofs.Paired.{paired_lookup}
use Rattle.recording_connections.specs.declared.shared_counts.SharedCounts.{SharedCounts}
use Rattle.recording_datagrams.specs.Taking.{Arrival, IsProcessedIf}
use Rattle.recording_datagrams.specs.Turns.{HadTurns}
use Rattle.recording_datagrams.specs.Rounds.{Round, HadTurnsIf, TakesGiven, KeepsToSeconds, IsRound, AreRounds, FromNone}
use Rattle.recording_datagrams.specs.Standing.{begun, own_datagram, own_in, own_of, HaveLast, HaveAllCame, IsHeard, StandsForAll, IsKept, StaysInRound, StaysThrough, came_among}
use Rattle.recording_datagrams.specs.declared.datagram_taker.DatagramTaker.{DatagramTaker}
use Rattle.recording_datagrams.proofs.OneStep.{SessionsStand, StandAfters, StandInTurns, heard_after, none_with_second, stand_after}
use Rattle.recording_datagrams.proofs.OwnHappenings.{AreApart, StandLess, all_with, found_none, front_of, last_by, last_same, of_peer-all, others_are, others_of, own_and, own_with, behind_turns, with_it}
use Rattle.recording_datagrams.proofs.BehindRounds.{own_steps, own_then, round_limits, round_second, taken_second}

-- ---- whether it is there, among the sessions and among what they stand for

module _ {V W : Type 0} (R : V → W → Type 0) where
  there : (o : Option V) (q : Option W) → Both R o q → IsSome o → IsSome q
  there None q b s = absurd cc
  there (Some v) None b s = absurd b
  there (Some v) (Some w) b s = refl

  there_too : (o : Option V) (q : Option W) → Both R o q → IsSome q → IsSome o
  there_too o None b s = absurd cc
  there_too None (Some w) b s = absurd b
  there_too (Some v) (Some w) b s = refl

not_there : {X : Type 0} (o : Option X) → o ≡ None → IsSome o → ⊥
not_there {X} o e s = let none : IsSome {T = X} None = subst (λ (x : Option X). IsSome x) e s in cc

-- ---- all that came

there_before : (h : Happening) (o : Option (List Happening)) → IsSome (with_it h o) → IsSome o
there_before h None s = absurd cc
there_before h (Some hs) s = refl

came_then : (hs all more : List Happening) → HaveAllCame hs all → HaveAllCame (hs ++ more) (all ++ more)
came_then hs all more h = record { before = h.before; none_came = h.none_came; are = ap (λ xs. xs ++ more) h.are ∙ append_assoc h.before hs more }

-- a second began; where there is no session it is one before the first datagram
second_then : (second : ℕ) (o : Option (List Happening)) (all : List Happening) → HaveAllCame (unwrap_or o []) all → HaveAllCame (unwrap_or (with_it (SecondBegan second) o) []) (all ++ SecondBegan second ∷ [])
second_then second None all h = record {
  before = h.before ++ SecondBegan second ∷ [];
  none_came = none_with_second h.before second h.none_came;
  are = ap (λ xs. xs ++ SecondBegan second ∷ []) (h.are ∙ append-nil h.before) ∙ sym (append-nil (h.before ++ SecondBegan second ∷ []));
}
second_then second (Some hs) all h = came_then hs all (SecondBegan second ∷ []) h

module _ {F : Type 0} (seen : F → FilesView) (peer : SocketAddr) (limits : PeerLimits) where
  abbrev Is : PeerState F → List Happening → Type 0
  Is k hs = IsSession seen k limits hs

  abbrev IsIn : List (SocketAddr × PeerState F) → Type 0
  IsIn es = IsSome (of_peer peer es)

  came_to : (es : List (SocketAddr × PeerState F)) (cs : PeerHappenings) → StandFor seen limits es cs → IsIn es → IsSome (of_peer peer cs)
  came_to es cs p s = there Is (of_peer peer es) (of_peer peer cs) (paired_lookup Is (same_peer peer) es cs p) s

  kept_in : (es : List (SocketAddr × PeerState F)) (cs : PeerHappenings) → StandFor seen limits es cs → IsSome (of_peer peer cs) → IsIn es
  kept_in es cs p s = there_too Is (of_peer peer es) (of_peer peer cs) (paired_lookup Is (same_peer peer) es cs p) s

  -- the sessions stand for the last ones of their own, and that of the peer for all of its own
  record HasAll (own : SocketAddr → List Happening) (es : List (SocketAddr × PeerState F)) : Type 0 where
    cs : PeerHappenings
    stand : StandFor seen limits es cs
    heard : Paired IsHeard es cs
    apart : AreApart cs
    last : HaveLast own cs
    all : HaveAllCame (happened_to peer cs) (own peer)

  all_same : (own all : SocketAddr → List Happening) (es after : List (SocketAddr × PeerState F)) → ((p : SocketAddr) → own p ≡ all p) → after ≡ es → HasAll own es → HasAll all after
  all_same own all es after e same s = record {
    cs = s.cs;
    stand = subst (λ (l : List (SocketAddr × PeerState F)). StandFor seen limits l s.cs) (sym same) s.stand;
    heard = subst (λ (l : List (SocketAddr × PeerState F)). Paired IsHeard l s.cs) (sym same) s.heard;
    apart = s.apart;
    last = last_same own all s.cs e s.last;
    all = subst (λ xs. HaveAllCame (happened_to peer s.cs) xs) (e peer) s.all;
  }

  module _ (own : SocketAddr → List Happening) where
    -- where others go
    without : (cs : PeerHappenings) (after : List (SocketAddr × PeerState F)) → StandLess seen limits own cs after → HaveAllCame (happened_to peer cs) (own peer) → (IsSome (of_peer peer cs) → IsIn after) → HasAll own after
    without cs after b all stays =
        let same = same_option (of_peer peer b.ds) (of_peer peer cs) (b.less.same peer) (λ k. came_to after b.ds b.stand (stays k)) in
        record { cs = b.ds; stand = b.stand; heard = b.heard; apart = b.less.apart; last = b.less.last; all = subst (λ (o : Option (List Happening)). HaveAllCame (unwrap_or o []) (own peer)) (sym same) all }

    module _ (made_for : F → SocketAddr → Type 0) (most : ℕ) (r : Reception F) (es after : List (SocketAddr × PeerState F)) (cs : PeerHappenings) where
      taken_by : (became : Became F) → StandFor seen limits after (happened_by became r cs) → AreApart cs → RecordsBy seen made_for limits became most r es after → same_peer peer r.peer ≡ true → IsIn after → IsTaken became
      taken_by Taken p a t e s = tt
      taken_by (Ended k) p a t e s =
          let none = found_none peer (others_for (went_in r) r.peer cs) (others_of peer r.peer (others_for (went_in r) r.peer cs) e (others_are (went_in r) r.peer cs a)) in
          absurd (not_there (of_peer peer (others_for (went_in r) r.peer cs)) none (came_to after (others_for (went_in r) r.peer cs) p s))
      taken_by NoPlace p a t e s =
          let none : of_peer peer es ≡ None = sym (same_of peer r.peer es e) ∙ t.nothing.begins in
          absurd (not_there (of_peer peer es) none (subst (λ (l : List (SocketAddr × PeerState F)). IsIn l) t.nothing.same s))
      taken_by NoMemory p a t e s =
          let none : of_peer peer es ≡ None = sym (same_of peer r.peer es e) ∙ t.begins in
          absurd (not_there (of_peer peer es) none (subst (λ (l : List (SocketAddr × PeerState F)). IsIn l) t.same s))

    -- after a datagram
    with_one : (made_for : F → SocketAddr → Type 0) (law : StandAfters seen made_for) (most : ℕ) (r : Reception F) (es after : List (SocketAddr × PeerState F)) → HasAll own es → Records seen made_for limits most r es after → (IsIn es → IsIn after) → (same_peer peer r.peer ≡ true → IsIn after)
        → HasAll (own_with own r.peer (came_in r)) after
    with_one made_for law most r es after s t stays its =
        let stand = stand_after seen made_for limits most r es after s.cs law s.stand t in
        let next = last_by seen limits own made_for r.became most r es after s.cs s.stand s.apart s.last t in
        let more = one peer r s.cs (λ e. taken_by made_for most r es after s.cs r.became stand s.apart t e (its e)) (λ k. came_to after (happened_in r s.cs) stand (stays (kept_in es s.cs s.stand k))) in
        record {
          cs = happened_in r s.cs;
          stand = stand;
          heard = heard_after seen made_for limits most r es after s.cs s.heard t;
          apart = next.0;
          last = next.1;
          all = subst (λ hs. HaveAllCame hs (own_with own r.peer (came_in r) peer)) (sym more) (came_then (happened_to peer s.cs) (own peer) (cond (same_peer peer r.peer) (came_in r ∷ []) []) s.all);
        }

  stands_so : (o : Option (PeerState F)) (q : Option (List Happening)) (all : List Happening) → Both Is o q → HaveAllCame (unwrap_or q []) all → StandsForAll seen limits o all
  stands_so None None all b h = ap came_among (h.are ∙ append-nil h.before) ∙ h.none_came
  stands_so None (Some hs) all b h = absurd b
  stands_so (Some k) None all b h = absurd b
  stands_so (Some k) (Some hs) all b h = (hs, h, b)

  -- ---- turns

  module _ (law : StandInTurns seen) (finishes : F → FileReport → FilesEnd → Type 0) where
    -- what is left of all, after a second began
    turned_all : (own : SocketAddr → List Happening) (second : ℕ) (is_over : Bool) (es after : List (SocketAddr × PeerState F)) (lines : List ℕ) (s : HasAll own es) → HadTurns seen finishes second is_over es after lines
        → StandLess seen limits (own_and own (SecondBegan second)) (all_with (SecondBegan second) s.cs) after × HaveAllCame (happened_to peer (all_with (SecondBegan second) s.cs)) (own_and own (SecondBegan second) peer)
        × (IsSome (of_peer peer (all_with (SecondBegan second) s.cs)) → IsIn es)
    turned_all own second is_over es after lines s t =
        let found = of_peer-all peer (SecondBegan second) s.cs in (
          behind_turns seen limits own finishes second is_over law es after s.cs lines s.stand s.heard s.apart s.last t,
          subst (λ (o : Option (List Happening)). HaveAllCame (unwrap_or o []) (own peer ++ SecondBegan second ∷ [])) (sym found) (second_then second (of_peer peer s.cs) (own peer) s.all),
          λ k. kept_in es s.cs s.stand (there_before (SecondBegan second) (of_peer peer s.cs) (subst (λ (o : Option (List Happening)). IsSome o) found k)),
        )

    turns_all : (own : SocketAddr → List Happening) (second : ℕ) (is_over : Bool) (es after : List (SocketAddr × PeerState F)) (lines : List ℕ) → HasAll own es → HadTurns seen finishes second is_over es after lines → (IsIn es → IsIn after)
        → HasAll (own_and own (SecondBegan second)) after
    turns_all own second is_over es after lines s t stays =
        let turned = turned_all own second is_over es after lines s t in
        without (own_and own (SecondBegan second)) (all_with (SecondBegan second) s.cs) after turned.0 turned.1 (λ k. stays (turned.2 k))

    kept_all : (own : SocketAddr → List Happening) (is_over : Bool) (second : ℕ) (es after : List (SocketAddr × PeerState F)) (lines : List ℕ) → HasAll own es → HadTurnsIf seen finishes is_over second es after lines → (IsIn es → IsIn after)
        → HasAll (own_then own (λ p. begun is_over second)) after
    kept_all own true second es after lines s t stays = turns_all own second true es after lines s t stays
    kept_all own false second es after lines s t stays = all_same own _ es after (λ p. sym (append-nil (own p))) t.0 s

    its_own : (from : SocketAddr) (h : Happening) {X : Type 0} → (cond (same_peer peer from) (h ∷ []) [] ≢ [] → X) → same_peer peer from ≡ true → X
    its_own from h k e = k (λ n. let none : h ∷ [] ≡ [] = rw e at n in cc)

    sent_all : (made_for : F → SocketAddr → Type 0) (datagrams : StandAfters seen made_for) (own : SocketAddr → List Happening) (may_send : Bool) (before after : Peers F) (shared then : SharedCounts) (from : SocketAddr) (m : List ℕ) (now : ℕ) (lines : List ℕ) → before.limits ≡ limits
        → HasAll own before.kept.entries → IsProcessedIf seen finishes made_for before after may_send shared then from m now lines → (IsIn before.kept.entries → IsIn after.kept.entries)
        → (cond (may_send && same_peer peer from) (DatagramCame m now ∷ []) [] ≢ [] → IsIn after.kept.entries) → HasAll (λ p. own p ++ cond (may_send && same_peer p from) (DatagramCame m now ∷ []) []) after.kept.entries
    sent_all made_for datagrams own true before after shared then from m now lines e s t stays its =
        let r : Reception F = record { peer = from; octets = m; second = now; became = t.became; gone = t.gone } in
        let records = subst (λ n. Records seen made_for n before.kept.cap r before.kept.entries after.kept.entries) e t.records in
        with_one own made_for datagrams before.kept.cap r before.kept.entries after.kept.entries s records stays (its_own from (DatagramCame m now) its)
    sent_all made_for datagrams own false before after shared then from m now lines e s t stays its =
        all_same own _ before.kept.entries after.kept.entries (λ p. sym (append-nil (own p))) (ap (λ (k : Peers F). k.kept.entries) t.1) s

-- ---- rounds

module _ {F P W : Type 0} (seen : F → FilesView) (finishes : F → FileReport → FilesEnd → Type 0) (made_for : F → SocketAddr → Type 0) (asked : P → ClockView) (laws : SessionsStand seen made_for) (peer : SocketAddr) (limits : PeerLimits) where
  taken_all : (own : SocketAddr → List Happening) (given : Result Arrival NoDatagram) (now : ℕ) (old new : DatagramTaker F P W) (lines : List ℕ) → old.peers.limits ≡ limits → HasAll seen peer limits own old.peers.kept.entries
      → TakesGiven seen finishes made_for asked given now old new lines → (IsKept peer old → IsKept peer new) → (own_datagram peer now given ≢ [] → IsKept peer new)
      → HasAll seen peer limits (own_then own (λ p. own_datagram p now given)) new.peers.kept.entries
  taken_all own (Ok a) now old new lines e s t stays its = sent_all seen peer limits laws.turns finishes made_for laws.datagrams own a.may_send old.peers new.peers old.unserved new.unserved a.peer a.octets now lines e s t.arrives.taken stays its
  taken_all own (Err Tick) now old new lines e s t stays its =
      all_same seen peer limits own _ old.peers.kept.entries new.peers.kept.entries (λ p. sym (append-nil (own p))) (ap (λ (r : DatagramTaker F P W). r.peers.kept.entries) t.0) s
  taken_all own (Err Failed) now old new lines e s t stays its =
      all_same seen peer limits own _ old.peers.kept.entries new.peers.kept.entries (λ p. sym (append-nil (own p))) (ap (λ (r : DatagramTaker F P W). r.peers.kept.entries) t.0) s

  -- those that are silent follow the others
  began_all : (own : SocketAddr → List Happening) (now : ℕ) (old new : DatagramTaker F P W) (lines : List ℕ) → HasAll seen peer limits own old.peers.kept.entries → KeepsToSeconds seen finishes now old new lines → (IsKept peer old → IsKept peer new)
      → HasAll seen peer limits (own_then own (λ p. begun (nat_lt old.second now) now)) new.peers.kept.entries
  began_all own now old new lines s g stays = elim g [
    | inl same ↦ (
        let none : nat_lt old.second now ≡ false = le-ltb old.second now same.0 in
        all_same seen peer limits own _ old.peers.kept.entries new.peers.kept.entries (λ p. rw none (sym (append-nil (own p)))) (ap (λ (r : DatagramTaker F P W). r.peers.kept.entries) same.1) s
        )
    | inr ends ↦ (
        let one : nat_lt old.second now ≡ true = lt-ltb old.second now ends.0 in
        let began = own_and own (SecondBegan now) in
        let turned = turned_all seen peer limits laws.turns finishes own now false old.peers.kept.entries ends.1.between ends.1.told s ends.1.turns in
        let silent = ends.1.silent in
        let front = front_of seen limits began new.peers.kept.entries silent.gone turned.0.ds (subst (λ (l : List (SocketAddr × PeerState F)). StandFor seen limits l turned.0.ds) silent.those turned.0.stand)
        (subst (λ (l : List (SocketAddr × PeerState F)). Paired IsHeard l turned.0.ds) silent.those turned.0.heard) turned.0.less.apart turned.0.less.last in
        let less : StandLess seen limits began (all_with (SecondBegan now) s.cs) new.peers.kept.entries = record {
          ds = front.ds;
          stand = front.stand;
          heard = front.heard;
          less = record {
            apart = front.less.apart;
            last = front.less.last;
            among = λ p h. front.less.among p (turned.0.less.among p h);
            same = λ p hs h. turned.0.less.same p hs (front.less.same p hs h);
          };
        } in
        let all = without seen peer limits began (all_with (SecondBegan now) s.cs) new.peers.kept.entries less turned.1 (λ k. stays (turned.2 k)) in
        all_same seen peer limits began _ new.peers.kept.entries new.peers.kept.entries (λ p. rw one refl) refl all
        )
  ]

  round_all : (own : SocketAddr → List Happening) (r : Round) (old new : DatagramTaker F P W) → old.peers.limits ≡ limits → HasAll seen peer limits own old.peers.kept.entries → (is : IsRound seen finishes made_for asked r old new)
      → StaysInRound seen finishes made_for asked peer r old new is → HasAll seen peer limits (own_then own (λ p. own_in p old.second r)) new.peers.kept.entries
  round_all own r old new e s is on =
      let kept = kept_all seen peer limits laws.turns finishes own r.is_over r.second old.peers.kept.entries is.kept.peers.kept.entries is.kept_lines s is.keeps.turns on.period in
      let taken = taken_all _ r.given r.second is.kept is.taken is.taken_lines (is.keeps.limits.limits ∙ e) kept is.takes on.datagram on.own in
      let began = began_all _ r.second is.taken new is.last_lines taken is.goes_on on.second in
      let at = taken_second seen finishes made_for asked r old new is in
      all_same seen peer limits _ _ new.peers.kept.entries new.peers.kept.entries
      (λ p. ap (λ n. ((own p ++ begun r.is_over r.second) ++ own_datagram p r.second r.given) ++ begun (nat_lt n r.second) r.second) at ∙ own_steps own old.second r p) refl began

  rounds_all : (own : SocketAddr → List Happening) (rs : List Round) (old new : DatagramTaker F P W) → old.peers.limits ≡ limits → HasAll seen peer limits own old.peers.kept.entries → (are : AreRounds seen finishes made_for asked rs old new)
      → StaysThrough seen finishes made_for asked peer rs old new are → HasAll seen peer limits (own_then own (λ p. own_of p old.second rs)) new.peers.kept.entries
  rounds_all own [] old new e s are on = all_same seen peer limits own _ old.peers.kept.entries new.peers.kept.entries (λ p. sym (append-nil (own p))) (ap (λ (r : DatagramTaker F P W). r.peers.kept.entries) are) s
  rounds_all own (r ∷ rs) old new e s are on =
      let now = round_second seen finishes made_for asked r old are.0 are.1 in
      let last = rounds_all (own_then own (λ p. own_in p old.second r)) rs are.0 new (round_limits seen finishes made_for asked r old are.0 are.1 ∙ e) (round_all own r old are.0 e s are.1 on.0) are.2 on.1 in
      all_same seen peer limits _ _ new.peers.kept.entries new.peers.kept.entries
      (λ p. ap (λ n. (own p ++ own_in p old.second r) ++ own_of p n rs) now ∙ append_assoc (own p) (own_in p old.second r) (own_of p r.second rs)) refl last

module _ {F P W : Type 0} (seen : F → FilesView) (finishes : F → FileReport → FilesEnd → Type 0) (made_for : F → SocketAddr → Type 0) (asked : P → ClockView) (laws : SessionsStand seen made_for) (peer : SocketAddr) where
  pub stands_for_all : (run : FromNone W seen finishes made_for asked) → StaysThrough seen finishes made_for asked peer run.rounds run.old run.new run.are
      → StandsForAll seen run.old.peers.limits (of_peer peer run.new.peers.kept.entries) (own_of peer run.old.second run.rounds)
  stands_for_all run on =
      let limits = run.old.peers.limits in
      let first : HasAll seen peer limits (λ p. []) run.old.peers.kept.entries = record {
        cs = [];
        stand = subst (λ (l : List (SocketAddr × PeerState F)). StandFor seen limits l []) (sym run.none) tt;
        heard = subst (λ (l : List (SocketAddr × PeerState F)). Paired IsHeard l []) (sym run.none) tt;
        apart = tt;
        last = tt;
        all = record { before = []; none_came = refl; are = refl };
      } in
      let s = rounds_all seen finishes made_for asked laws peer limits (λ p. []) run.rounds run.old run.new refl first run.are on in
      stands_so seen peer limits (of_peer peer run.new.peers.kept.entries) (of_peer peer s.cs) (own_of peer run.old.second run.rounds)
      (paired_lookup (λ (k : PeerState F) (hs : List Happening). IsSession seen k limits hs) (same_peer peer) run.new.peers.kept.entries s.cs s.stand) s.all
