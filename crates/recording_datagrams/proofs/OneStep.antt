-- What one datagram and one turn leave of a session.
use Rattle.std.proofs.Common.{◌≡◌, ℕ, Bool, List, [], ◌∷◌, ◌++◌, Some, Result, Ok, Err, refl, sym, ap, ◌∙◌, subst, append_assoc}
use Rattle.std.specs.declared.net.socket_addr.SocketAddr.{SocketAddr}
use Rattle.ipfix_wire.specs.declared.header.Header.{Header}
use Rattle.ipfix_message.specs.Domains.{message_header}
use Rattle.ipfix_message.specs.declared.fault.MessageFault.{MessageFault}
use Rattle.recording_files.specs.Files.{FilesView}
use Rattle.recording_files.specs.declared.record_fault.RecordFault.{RecordFault}
use Rattle.recording_peers.specs.declared.peer_limits.PeerLimits.{PeerLimits}
use Rattle.recording_peers.specs.Calls.{Takes, TakesBy, TakesTurn}
use Rattle.recording_peers.specs.Happenings.{Happening, DatagramCame, SecondBegan}
use Rattle.recording_peers.specs.Kept.{IsSession}
use Rattle.recording_peers.specs.Runs.{happened_by, happened_in}
use Rattle.recording_peers.specs.Sessions.{PeerHappenings, StandAfter, StandAfterTurn, StandBy, StandFor, StandInTurn, happened_to, with_happening, came_in, went_in}
use Rattle.recording_peers.specs.Steps.{GoesOn, Reception, Records, RecordsBy, became_by, ended_by, first_by, kept_by}
use Rattle.recording_peers.specs.Table.{Paired, others_for}
use Rattle.recording_peers.specs.declared.in_turn.InTurn.{InTurn}
use Rattle.recording_peers.specs.declared.outcome.Became.{Became}
use Rattle.recording_peers.specs.declared.outcome.Became.TheVariants.{Taken, Ended, NoPlace, NoMemory}
use Rattle.recording_peers.specs.declared.peer_state.PeerState.{PeerState}
use Rattle.recording_peers.specs.declared.turn.Turn.{Turn}
use Rattle.recording_peers.proofs.Paired.{paired_first, paired_others}
use Rattle.recording_datagrams.specs.Standing.{IsHeard, came_among}

-- ---- what the sessions of peers stand for, by the laws of theirs

abbrev pub StandAfters : {F : Type 0} → (F → FilesView) → (F → SocketAddr → Type 0) → Type 0
StandAfters {F} seen made_for = (limits : PeerLimits) (most : ℕ) (r : Reception F) (es after : List (SocketAddr × PeerState F)) (cs : PeerHappenings)
    → StandFor seen limits es cs → Records seen made_for limits most r es after → StandAfter seen limits r after cs

abbrev pub StandInTurns : {F : Type 0} → (F → FilesView) → Type 0
StandInTurns {F} seen = (limits : PeerLimits) (second : ℕ) (is_over : Bool) (es after : List (SocketAddr × PeerState F)) (cs : PeerHappenings) (t : InTurn F)
    → StandFor seen limits es cs → GoesOn seen second is_over es after t → StandAfterTurn seen limits second t after cs

pub record SessionsStand {F : Type 0} (seen : F → FilesView) (made_for : F → SocketAddr → Type 0) : Type 0 where
  pub datagrams : StandAfters seen made_for
  pub turns : StandInTurns seen

-- ---- the datagrams among what happened

pub came_among-append : (hs gs : List Happening) → came_among (hs ++ gs) ≡ came_among hs ++ came_among gs
came_among-append [] gs = refl
came_among-append (DatagramCame octets second ∷ hs) gs = ap (λ xs. (octets, second) ∷ xs) (came_among-append hs gs)
came_among-append (SecondBegan second ∷ hs) gs = came_among-append hs gs

pub none_with_second : (hs : List Happening) (second : ℕ) → came_among hs ≡ [] → came_among (hs ++ SecondBegan second ∷ []) ≡ []
none_with_second hs second none = came_among-append hs (SecondBegan second ∷ []) ∙ ap (λ xs. xs ++ []) none

-- ---- when it heard of its peer

module _ {F : Type 0} (seen : F → FilesView) where
  heard_by : (header : Result Header MessageFault) (old new : PeerState F) (m : List ℕ) (second : ℕ) (answer : Result (Unit {0}) RecordFault) → TakesBy seen header (record old { heard = second }) new m second answer → new.heard ≡ second
  heard_by (Ok h) old new m second answer t = t.heard
  heard_by (Err fault) old new m second answer t = ap (λ (k : PeerState F). k.heard) t.1

  pub heard_at : (old new : PeerState F) (m : List ℕ) (second : ℕ) (answer : Result (Unit {0}) RecordFault) → Takes seen old new m second answer → new.heard ≡ second
  heard_at old new m second answer t = heard_by (message_header m) old new m second answer t

  heard_now : (old new : PeerState F) (m : List ℕ) (second : ℕ) (answer : Result (Unit {0}) RecordFault) (hs : List Happening) → Takes seen old new m second answer → IsHeard new (hs ++ DatagramCame m second ∷ [])
  heard_now old new m second answer hs t = record {
    before = hs;
    octets = m;
    after = [];
    are = ap (λ n. hs ++ DatagramCame m n ∷ []) (sym (heard_at old new m second answer t));
    none_came = refl;
  }

  kept_heard : (answer : Result (Unit {0}) RecordFault) (r : Reception F) (new : PeerState F) (es after : List (SocketAddr × PeerState F)) (cs : PeerHappenings) → Paired IsHeard es cs → IsHeard new (happened_to r.peer cs ++ came_in r ∷ [])
      → Taken ≡ became_by answer new → after ≡ kept_by answer (went_in r) r.peer new es → Paired IsHeard after (with_happening (went_in r) cs r.peer (came_in r))
  kept_heard (Ok x) r new es after cs p h became e =
      subst (λ (l : List (SocketAddr × PeerState F)). Paired IsHeard l (with_happening (went_in r) cs r.peer (came_in r))) (sym e) (paired_first IsHeard (went_in r) r.peer es cs new (happened_to r.peer cs ++ came_in r ∷ []) p h)
  kept_heard (Err fault) r new es after cs p h became e = absurd cc

  others_heard : (answer : Result (Unit {0}) RecordFault) (k : PeerState F) (r : Reception F) (new : PeerState F) (es after : List (SocketAddr × PeerState F)) (cs : PeerHappenings) → Paired IsHeard es cs
      → Ended k ≡ became_by answer new → after ≡ kept_by answer (went_in r) r.peer new es → Paired IsHeard after (others_for (went_in r) r.peer cs)
  others_heard (Ok x) k r new es after cs p became e = absurd cc
  others_heard (Err fault) k r new es after cs p became e = subst (λ (l : List (SocketAddr × PeerState F)). Paired IsHeard l (others_for (went_in r) r.peer cs)) (sym e) (paired_others IsHeard (went_in r) r.peer es cs p)

  module _ (made_for : F → SocketAddr → Type 0) (limits : PeerLimits) (most : ℕ) (r : Reception F) (es after : List (SocketAddr × PeerState F)) (cs : PeerHappenings) where
    heard_by_became : (became : Became F) → r.became ≡ became → Paired IsHeard es cs → RecordsBy seen made_for limits became most r es after → Paired IsHeard after (happened_by became r cs)
    heard_by_became Taken is p t = kept_heard t.answer r t.new es after cs p (heard_now t.old t.new r.octets r.second t.answer (happened_to r.peer cs) t.takes) (sym is ∙ t.became) t.others
    heard_by_became (Ended k) is p t = others_heard t.answer k r t.new es after cs p (sym is ∙ t.became) t.others
    heard_by_became NoPlace is p t = subst (λ (l : List (SocketAddr × PeerState F)). Paired IsHeard l cs) (sym t.nothing.same) p
    heard_by_became NoMemory is p t = subst (λ (l : List (SocketAddr × PeerState F)). Paired IsHeard l cs) (sym t.same) p

    pub heard_after : Paired IsHeard es cs → Records seen made_for limits most r es after → Paired IsHeard after (happened_in r cs)
    heard_after p t = heard_by_became r.became refl p t

    stands_by : (became : Became F) → StandBy seen limits became r after cs → StandFor seen limits after (happened_by became r cs)
    stands_by Taken s = s.0
    stands_by (Ended k) s = s.0
    stands_by NoPlace s = s.0
    stands_by NoMemory s = s.0

    pub stand_after : StandAfters seen made_for → StandFor seen limits es cs → Records seen made_for limits most r es after → StandFor seen limits after (happened_in r cs)
    stand_after law p t = stands_by r.became (law limits most r es after cs p t)

  module _ (second : ℕ) (is_over : Bool) (old new : PeerState F) (turn : Turn) (hs : List Happening) where
    pub heard_in_turn : IsHeard old hs → TakesTurn seen old new second is_over turn → IsHeard new (hs ++ SecondBegan second ∷ [])
    heard_in_turn h t = record {
      before = h.before;
      octets = h.octets;
      after = h.after ++ SecondBegan second ∷ [];
      are = ap (λ gs. gs ++ SecondBegan second ∷ []) (h.are ∙ ap (λ n. h.before ++ DatagramCame h.octets n ∷ h.after) (sym t.follows.heard)) ∙ append_assoc h.before (DatagramCame h.octets new.heard ∷ h.after) (SecondBegan second ∷ []);
      none_came = none_with_second h.after second h.none_came;
    }

  -- by the answer
  abbrev pub TurnsTo : PeerLimits → Result (Unit {0}) RecordFault → PeerState F → List Happening → Type 0
  TurnsTo limits (Ok x) new hs = IsSession seen new limits hs
  TurnsTo limits (Err fault) new hs = Unit {0}

  -- of one peer that is kept
  turns_so : (limits : PeerLimits) (second : ℕ) (answer : Result (Unit {0}) RecordFault) (peer : SocketAddr) (new : PeerState F) (hs : List Happening) (c : SocketAddr × List Happening) → c ≡ (peer, hs)
      → StandInTurn seen limits second (ended_by answer new) (first_by answer peer new []) ((peer, hs) ∷ []) c → TurnsTo limits answer new (hs ++ SecondBegan second ∷ [])
  turns_so limits second (Ok x) peer new hs c is s = subst (λ (d : SocketAddr × List Happening). IsSession seen new limits (d.1 ++ SecondBegan second ∷ [])) is s.0.1
  turns_so limits second (Err fault) peer new hs c is s = tt

  pub turned : (law : StandInTurns seen) (limits : PeerLimits) (second : ℕ) (is_over : Bool) (peer : SocketAddr) (old new : PeerState F) (turn : Turn) (hs : List Happening) → IsSession seen old limits hs → TakesTurn seen old new second is_over turn
      → TurnsTo limits turn.answer new (hs ++ SecondBegan second ∷ [])
  turned law limits second is_over peer old new turn hs s t =
      let alone : InTurn F = record { peer = peer; refused = turn.refused; orders = turn.orders; resumed = turn.resumed; ended = ended_by turn.answer new } in
      let goes_on : GoesOn seen second is_over ((peer, old) ∷ []) (first_by turn.answer peer new []) alone =
      record { old = old; last = refl; new = new; turn = turn; takes = t; refused = refl; orders = refl; resumed = refl; ended = refl; others = refl } in
      let stand = law limits second is_over ((peer, old) ∷ []) (first_by turn.answer peer new []) ((peer, hs) ∷ []) alone ((refl, s), tt) goes_on in
      let found : Some (peer, hs) ≡ Some stand.last = stand.is in
      let is : stand.last ≡ (peer, hs) = cc in
      turns_so limits second turn.answer peer new hs stand.last is stand.stand
