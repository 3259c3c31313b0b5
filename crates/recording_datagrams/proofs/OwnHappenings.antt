-- What the sessions of peers stand for after rounds: the last ones of what happened to them.
use Rattle.std.proofs.Common.{◌≡◌, ℕ, Bool, true, false, cond, not, List, [], ◌∷◌, ◌++◌, is_some, Option, Some, None, Result, Ok, Err, refl, sym, ap, ◌∙◌, subst, append-nil, append_assoc}
use Rattle.std.specs.Prelude.{filter, unwrap_or}
use Rattle.std.specs.Map.{lookup_key, remove_entry}
use Rattle.std.specs.declared.net.socket_addr.SocketAddr.{SocketAddr}
use Rattle.std.specs.contracts.net.socket_addr.SocketAddrEq.TheImpl.Laws.{laws-law}
use Rattle.recording_files.specs.Files.{FilesView}
use Rattle.recording_files.specs.declared.file_report.FileReport.{FileReport}
use Rattle.recording_folder.specs.declared.session_files.FilesEnd.{FilesEnd}
use Rattle.recording_files.specs.declared.record_fault.RecordFault.{RecordFault}
use Rattle.recording_peers.specs.declared.peer_limits.PeerLimits.{PeerLimits}
use Rattle.recording_peers.specs.Happenings.{Happening, SecondBegan}
use Rattle.recording_peers.specs.Kept.{IsSession}
use Rattle.recording_peers.specs.Runs.{happened_by, happened_in}
use Rattle.recording_peers.specs.Sessions.{PeerHappenings, StandFor, came_in, happened_to, went_in, with_happening}
use Rattle.recording_peers.specs.Steps.{Reception, Records, RecordsBy, first_by}
use Rattle.recording_peers.specs.Table.{same_peer, of_peer, others_for, without, Both, Paired}
use Rattle.recording_peers.specs.declared.peer_state.PeerState.{PeerState}
use Rattle.recording_peers.specs.declared.outcome.Became.{Became}
use Rattle.recording_peers.specs.declared.outcome.Became.TheVariants.{Taken, Ended, NoPlace, NoMemory}
use Rattle.recording_peers.proofs.Alone.{key_of, key_passes}
use Rattle.recording_peers.proofs.Paired.{paired_lookup}
use Rattle.recording_datagrams.specs.Turns.{HadTurns}
use Rattle.recording_datagrams.specs.Standing.{AreLast, HaveLast, IsHeard}
use Rattle.recording_datagrams.proofs.OneStep.{StandAfters, StandInTurns, TurnsTo, heard_after, heard_in_turn, stand_after, turned}

-- ---- tables in which no peer stands twice

abbrev pub AreApart : PeerHappenings → Type 0
AreApart [] = Unit {0}
AreApart (c ∷ cs) = (of_peer c.0 cs ≡ None) × AreApart cs

-- none is this peer's
abbrev pub AreOthers : SocketAddr → PeerHappenings → Type 0
AreOthers peer [] = Unit {0}
AreOthers peer (c ∷ cs) = (same_peer peer c.0 ≡ false) × AreOthers peer cs

-- a peer that isn't in one isn't in the other
abbrev pub AreAmong : PeerHappenings → PeerHappenings → Type 0
AreAmong ds cs = (peer : SocketAddr) → of_peer peer cs ≡ None → of_peer peer ds ≡ None

-- a peer that is in one has the same in the other
abbrev pub HaveSame : PeerHappenings → PeerHappenings → Type 0
HaveSame ds cs = (peer : SocketAddr) (ms : List Happening) → of_peer peer ds ≡ Some ms → of_peer peer cs ≡ Some ms

among_first : (c : SocketAddr × List Happening) (ds cs : PeerHappenings) → AreAmong ds cs → AreAmong (c ∷ ds) (c ∷ cs)
among_first c ds cs k peer h = (elim (same_peer peer c.0) as (λ b. cond b (Some c.1) (of_peer peer cs) ≡ None → cond b (Some c.1) (of_peer peer ds) ≡ None) [
  | true ↦ λ g. absurd cc
  | false ↦ λ g. k peer g
]) h

among_rest : (c : SocketAddr × List Happening) (ds cs : PeerHappenings) → AreAmong ds cs → AreAmong ds (c ∷ cs)
among_rest c ds cs k peer h = (elim (same_peer peer c.0) as (λ b. cond b (Some c.1) (of_peer peer cs) ≡ None → of_peer peer ds ≡ None) [
  | true ↦ λ g. absurd cc
  | false ↦ λ g. k peer g
]) h

not_found : (peer : SocketAddr) (cs : PeerHappenings) → of_peer peer cs ≡ None → AreOthers peer cs
not_found peer [] h = tt
not_found peer (c ∷ cs) h = (elim (same_peer peer c.0) as (λ b. same_peer peer c.0 ≡ b → cond b (Some c.1) (of_peer peer cs) ≡ None → AreOthers peer (c ∷ cs)) [
  | true ↦ λ e g. absurd cc
  | false ↦ λ e g. (e, not_found peer cs g)
]) refl h

pub found_none : (peer : SocketAddr) (cs : PeerHappenings) → AreOthers peer cs → of_peer peer cs ≡ None
found_none peer [] h = refl
found_none peer (c ∷ cs) h = rw h.0 (found_none peer cs h.1)

pub others_of : (peer other : SocketAddr) (cs : PeerHappenings) → same_peer peer other ≡ true → AreOthers other cs → AreOthers peer cs
others_of peer other [] e h = tt
others_of peer other (c ∷ cs) e h = (laws-law.congr peer other c.0 e ∙ h.0, others_of peer other cs e h.1)

-- ---- a table without some

same_first : (c : SocketAddr × List Happening) (ds cs : PeerHappenings) → HaveSame ds cs → HaveSame (c ∷ ds) (c ∷ cs)
same_first c ds cs k peer ms h = (elim (same_peer peer c.0) as (λ b. cond b (Some c.1) (of_peer peer ds) ≡ Some ms → cond b (Some c.1) (of_peer peer cs) ≡ Some ms) [
  | true ↦ λ g. g
  | false ↦ λ g. k peer ms g
]) h

same_rest : (c : SocketAddr × List Happening) (ds cs : PeerHappenings) → of_peer c.0 cs ≡ None → HaveSame ds cs → HaveSame ds (c ∷ cs)
same_rest c ds cs apart k peer ms h = (elim (same_peer peer c.0) as (λ b. same_peer peer c.0 ≡ b → cond b (Some c.1) (of_peer peer cs) ≡ Some ms) [
  | true ↦ λ e. let none = found_none peer cs (others_of peer c.0 cs e (not_found c.0 cs apart)) in let some = k peer ms h in absurd cc
  | false ↦ λ e. k peer ms h
]) refl

-- the last ones of their own, of peers among others
pub record Less (own : SocketAddr → List Happening) (ds cs : PeerHappenings) : Type 0 where
  pub apart : AreApart ds
  pub last : HaveLast own ds
  pub among : AreAmong ds cs
  pub same : HaveSame ds cs

module _ (own : SocketAddr → List Happening) where
  less_first : (c : SocketAddr × List Happening) (ds cs : PeerHappenings) → AreApart (c ∷ cs) → HaveLast own (c ∷ cs) → Less own ds cs → Less own (c ∷ ds) (c ∷ cs)
  less_first c ds cs a h l = record { apart = (l.among c.0 a.0, l.apart); last = (h.0, l.last); among = among_first c ds cs l.among; same = same_first c ds cs l.same }

  less_rest : (c : SocketAddr × List Happening) (ds cs : PeerHappenings) → AreApart (c ∷ cs) → Less own ds cs → Less own ds (c ∷ cs)
  less_rest c ds cs a l = record { apart = l.apart; last = l.last; among = among_rest c ds cs l.among; same = same_rest c ds cs a.0 l.same }

  less_none : (cs : PeerHappenings) → Less own [] cs
  less_none cs = record { apart = tt; last = tt; among = λ peer h. refl; same = λ peer ms h. absurd cc }

  less_same : (cs : PeerHappenings) → AreApart cs → HaveLast own cs → Less own cs cs
  less_same cs a h = record { apart = a; last = h; among = λ peer e. e; same = λ peer ms e. e }

  less_removed : (peer : SocketAddr) (cs : PeerHappenings) → AreApart cs → HaveLast own cs → Less own (remove_entry (same_peer peer) cs) cs
  less_removed peer [] a h = less_none []
  less_removed peer (c ∷ cs) a h = elim (same_peer peer c.0) as (λ b. Less own (cond b cs (c ∷ remove_entry (same_peer peer) cs)) (c ∷ cs)) [
    | true ↦ less_rest c cs cs a (less_same cs a.1 h.1)
    | false ↦ less_first c (remove_entry (same_peer peer) cs) cs a h (less_removed peer cs a.1 h.1)
  ]

  less_filter : (gone : SocketAddr) (cs : PeerHappenings) → AreApart cs → HaveLast own cs → Less own (filter (λ c. not (same_peer gone c.0)) cs) cs
  less_filter gone [] a h = less_none []
  less_filter gone (c ∷ cs) a h = elim (same_peer gone c.0) as (λ b. Less own (cond (not b) (c ∷ filter (λ c. not (same_peer gone c.0)) cs) (filter (λ c. not (same_peer gone c.0)) cs)) (c ∷ cs)) [
    | true ↦ less_rest c (filter (λ c. not (same_peer gone c.0)) cs) cs a (less_filter gone cs a.1 h.1)
    | false ↦ less_first c (filter (λ c. not (same_peer gone c.0)) cs) cs a h (less_filter gone cs a.1 h.1)
  ]

  less_without : (gone : Option SocketAddr) (cs : PeerHappenings) → AreApart cs → HaveLast own cs → Less own (without gone cs) cs
  less_without None cs a h = less_same cs a h
  less_without (Some peer) cs a h = less_filter peer cs a h

  less_others : (gone : Option SocketAddr) (peer : SocketAddr) (cs : PeerHappenings) → AreApart cs → HaveLast own cs → Less own (others_for gone peer cs) cs
  less_others gone peer cs a h = elim (is_some (of_peer peer cs)) as (λ b. Less own (cond b (remove_entry (same_peer peer) cs) (without gone cs)) cs) [
    | true ↦ less_removed peer cs a h
    | false ↦ less_without gone cs a h
  ]

others_removed : (peer : SocketAddr) (cs : PeerHappenings) → AreApart cs → AreOthers peer (remove_entry (same_peer peer) cs)
others_removed peer [] a = tt
others_removed peer (c ∷ cs) a = (elim (same_peer peer c.0) as (λ b. same_peer peer c.0 ≡ b → AreOthers peer (cond b cs (c ∷ remove_entry (same_peer peer) cs))) [
  | true ↦ λ e. others_of peer c.0 cs e (not_found c.0 cs a.0)
  | false ↦ λ e. (e, others_removed peer cs a.1)
]) refl

others_filtered : (peer gone : SocketAddr) (cs : PeerHappenings) → AreOthers peer cs → AreOthers peer (filter (λ c. not (same_peer gone c.0)) cs)
others_filtered peer gone [] h = tt
others_filtered peer gone (c ∷ cs) h = elim (same_peer gone c.0) as (λ b. AreOthers peer (cond (not b) (c ∷ filter (λ c. not (same_peer gone c.0)) cs) (filter (λ c. not (same_peer gone c.0)) cs))) [
  | true ↦ others_filtered peer gone cs h.1
  | false ↦ (h.0, others_filtered peer gone cs h.1)
]

others_without : (peer : SocketAddr) (gone : Option SocketAddr) (cs : PeerHappenings) → AreOthers peer cs → AreOthers peer (without gone cs)
others_without peer None cs h = h
others_without peer (Some q) cs h = others_filtered peer q cs h

pub others_are : (gone : Option SocketAddr) (peer : SocketAddr) (cs : PeerHappenings) → AreApart cs → AreOthers peer (others_for gone peer cs)
others_are gone peer cs a = (elim (of_peer peer cs) as (λ o. of_peer peer cs ≡ o → AreOthers peer (cond (is_some o) (remove_entry (same_peer peer) cs) (without gone cs))) [
  | Some ms ↦ λ e. others_removed peer cs a
  | None ↦ λ e. others_without peer gone cs (not_found peer cs e)
]) refl

-- ---- one thing more happened to all

abbrev pub all_with : Happening → PeerHappenings → PeerHappenings
all_with h [] = []
all_with h (c ∷ cs) = (c.0, c.1 ++ h ∷ []) ∷ all_with h cs

abbrev pub own_and : (SocketAddr → List Happening) → Happening → SocketAddr → List Happening
own_and own h peer = own peer ++ h ∷ []

abbrev pub with_it : Happening → Option (List Happening) → Option (List Happening)
with_it h None = None
with_it h (Some hs) = Some (hs ++ h ∷ [])

pub of_peer-all : (peer : SocketAddr) (h : Happening) (cs : PeerHappenings) → of_peer peer (all_with h cs) ≡ with_it h (of_peer peer cs)
of_peer-all peer h [] = refl
of_peer-all peer h (c ∷ cs) = elim (same_peer peer c.0) as (λ b. cond b (Some (c.1 ++ h ∷ [])) (of_peer peer (all_with h cs)) ≡ with_it h (cond b (Some c.1) (of_peer peer cs))) [
  | true ↦ refl
  | false ↦ of_peer-all peer h cs
]

pub apart_all : (h : Happening) (cs : PeerHappenings) → AreApart cs → AreApart (all_with h cs)
apart_all h [] a = tt
apart_all h (c ∷ cs) a = (of_peer-all c.0 h cs ∙ ap (with_it h) a.0, apart_all h cs a.1)

pub last_all : (own : SocketAddr → List Happening) (h : Happening) (cs : PeerHappenings) → HaveLast own cs → HaveLast (own_and own h) (all_with h cs)
last_all own h [] l = tt
last_all own h (c ∷ cs) l = (record { before = l.0.before; are = ap (λ xs. xs ++ h ∷ []) l.0.are ∙ append_assoc l.0.before c.1 (h ∷ []) }, last_all own h cs l.1)

-- ---- or to one of them

-- what happened to a peer, and to whom this happened
abbrev pub own_with : (SocketAddr → List Happening) → SocketAddr → Happening → SocketAddr → List Happening
own_with own from h peer = own peer ++ cond (same_peer peer from) (h ∷ []) []

module _ (own : SocketAddr → List Happening) (from : SocketAddr) (h : Happening) where
  last_of_others : (cs : PeerHappenings) → AreOthers from cs → HaveLast own cs → HaveLast (own_with own from h) cs
  last_of_others [] o l = tt
  last_of_others (c ∷ cs) o l =
      let not_its : same_peer c.0 from ≡ false = laws-law.symm c.0 from ∙ o.0 in
      let same : own c.0 ≡ own_with own from h c.0 = rw not_its (sym (append-nil (own c.0))) in
      (record { before = l.0.before; are = sym same ∙ l.0.are }, last_of_others cs o.1 l.1)

  last_found : (cs : PeerHappenings) → HaveLast own cs → AreLast (happened_to from cs) (own (unwrap_or (lookup_key (same_peer from) cs) from))
  last_found [] l = record { before = own from; are = sym (append-nil (own from)) }
  last_found (c ∷ cs) l = elim (same_peer from c.0) as (λ b. AreLast (unwrap_or (cond b (Some c.1) (of_peer from cs)) []) (own (unwrap_or (cond b (Some c.0) (lookup_key (same_peer from) cs)) from))) [
    | true ↦ l.0
    | false ↦ last_found cs l.1
  ]

  last_pushed : (at : SocketAddr) (hs : List Happening) → same_peer from at ≡ true → AreLast hs (own at) → AreLast (hs ++ h ∷ []) (own_with own from h at)
  last_pushed at hs e l =
      let its : same_peer at from ≡ true = laws-law.symm at from ∙ e in
      record { before = l.before; are = rw its (ap (λ xs. xs ++ h ∷ []) l.are ∙ append_assoc l.before hs (h ∷ [])) }

pub last_same : (own all : SocketAddr → List Happening) (cs : PeerHappenings) → ((peer : SocketAddr) → own peer ≡ all peer) → HaveLast own cs → HaveLast all cs
last_same own all [] e l = tt
last_same own all (c ∷ cs) e l = (record { before = l.0.before; are = sym (e c.0) ∙ l.0.are }, last_same own all cs e l.1)

-- ---- after a datagram

module _ {F : Type 0} (seen : F → FilesView) (limits : PeerLimits) (own : SocketAddr → List Happening) where
  first_stands : (gone : Option SocketAddr) (from : SocketAddr) (h : Happening) (cs : PeerHappenings) → AreApart cs → HaveLast own cs → AreApart (with_happening gone cs from h) × HaveLast (own_with own from h) (with_happening gone cs from h)
  first_stands gone from h cs a l =
      let less = less_others own gone from cs a l in
      let others = others_are gone from cs a in
      let its = key_of from from (lookup_key (same_peer from) cs) (key_passes (same_peer from) cs) in
      let at = unwrap_or (lookup_key (same_peer from) cs) from in (
        (found_none at (others_for gone from cs) (others_of at from (others_for gone from cs) (laws-law.symm at from ∙ its) others), less.apart),
        (last_pushed own from h at (happened_to from cs) its (last_found own from h cs l), last_of_others own from h (others_for gone from cs) others less.last),
      )

  rest_stands : (gone : Option SocketAddr) (from : SocketAddr) (h : Happening) (cs : PeerHappenings) → AreApart cs → HaveLast own cs → AreApart (others_for gone from cs) × HaveLast (own_with own from h) (others_for gone from cs)
  rest_stands gone from h cs a l = let less = less_others own gone from cs a l in (less.apart, last_of_others own from h (others_for gone from cs) (others_are gone from cs a) less.last)

  none_of : (o : Option (PeerState F)) (q : Option (List Happening)) → Both (λ k hs. IsSession seen k limits hs) o q → o ≡ None → q ≡ None
  none_of None None b e = refl
  none_of None (Some hs) b e = absurd b
  none_of (Some k) q b e = absurd cc

  pub last_by : (made_for : F → SocketAddr → Type 0) (became : Became F) (most : ℕ) (r : Reception F) (es after : List (SocketAddr × PeerState F)) (cs : PeerHappenings) → StandFor seen limits es cs → AreApart cs → HaveLast own cs
      → RecordsBy seen made_for limits became most r es after → AreApart (happened_by became r cs) × HaveLast (own_with own r.peer (came_in r)) (happened_by became r cs)
  last_by made_for Taken most r es after cs p a l t = first_stands (went_in r) r.peer (came_in r) cs a l
  last_by made_for (Ended k) most r es after cs p a l t = rest_stands (went_in r) r.peer (came_in r) cs a l
  last_by made_for NoPlace most r es after cs p a l t =
      let none = none_of (of_peer r.peer es) (of_peer r.peer cs) (paired_lookup (λ (k : PeerState F) (hs : List Happening). IsSession seen k limits hs) (same_peer r.peer) es cs p) t.nothing.begins in
      (a, last_of_others own r.peer (came_in r) cs (not_found r.peer cs none) l)
  last_by made_for NoMemory most r es after cs p a l t =
      let none = none_of (of_peer r.peer es) (of_peer r.peer cs) (paired_lookup (λ (k : PeerState F) (hs : List Happening). IsSession seen k limits hs) (same_peer r.peer) es cs p) t.begins in
      (a, last_of_others own r.peer (came_in r) cs (not_found r.peer cs none) l)

-- the sessions of these peers stand for the last ones of their own, and each heard of its peer last as it says
pub record Stands {F : Type 0} (seen : F → FilesView) (limits : PeerLimits) (own : SocketAddr → List Happening) (es : List (SocketAddr × PeerState F)) : Type 0 where
  pub cs : PeerHappenings
  pub stand : StandFor seen limits es cs
  pub heard : Paired IsHeard es cs
  pub apart : AreApart cs
  pub last : HaveLast own cs

-- and so of those that are left of others
pub record StandLess {F : Type 0} (seen : F → FilesView) (limits : PeerLimits) (own : SocketAddr → List Happening) (cs : PeerHappenings) (after : List (SocketAddr × PeerState F)) : Type 0 where
  pub ds : PeerHappenings
  pub stand : StandFor seen limits after ds
  pub heard : Paired IsHeard after ds
  pub less : Less own ds cs

module _ {F : Type 0} (seen : F → FilesView) (limits : PeerLimits) where
  pub same_stand : (own all : SocketAddr → List Happening) (es after : List (SocketAddr × PeerState F)) → ((peer : SocketAddr) → own peer ≡ all peer) → after ≡ es → Stands seen limits own es → Stands seen limits all after
  same_stand own all es after e same s = record {
    cs = s.cs;
    stand = subst (λ (l : List (SocketAddr × PeerState F)). StandFor seen limits l s.cs) (sym same) s.stand;
    heard = subst (λ (l : List (SocketAddr × PeerState F)). Paired IsHeard l s.cs) (sym same) s.heard;
    apart = s.apart;
    last = last_same own all s.cs e s.last;
  }

  pub fewer_stand : (own : SocketAddr → List Happening) (cs : PeerHappenings) (after : List (SocketAddr × PeerState F)) → StandLess seen limits own cs after → Stands seen limits own after
  fewer_stand own cs after b = record { cs = b.ds; stand = b.stand; heard = b.heard; apart = b.less.apart; last = b.less.last }

  module _ (own : SocketAddr → List Happening) where
    pub behind_datagram : (made_for : F → SocketAddr → Type 0) (law : StandAfters seen made_for) (most : ℕ) (r : Reception F) (es after : List (SocketAddr × PeerState F)) → Stands seen limits own es → Records seen made_for limits most r es after
        → Stands seen limits (own_with own r.peer (came_in r)) after
    behind_datagram made_for law most r es after s t =
        let next = last_by seen limits own made_for r.became most r es after s.cs s.stand s.apart s.last t in
        record {
          cs = happened_in r s.cs;
          stand = stand_after seen made_for limits most r es after s.cs law s.stand t;
          heard = heard_after seen made_for limits most r es after s.cs s.heard t;
          apart = next.0;
          last = next.1;
        }

    -- after the turns of all peers
    turned_by : (answer : Result (Unit {0}) RecordFault) (peer : SocketAddr) (new : PeerState F) (others after : List (SocketAddr × PeerState F)) (c : SocketAddr × List Happening) (cs : PeerHappenings) → AreApart (c ∷ cs) → HaveLast own (c ∷ cs)
        → peer ≡ c.0 → TurnsTo seen limits answer new c.1 → IsHeard new c.1 → after ≡ first_by answer peer new others → StandLess seen limits own cs others → StandLess seen limits own (c ∷ cs) after
    turned_by (Ok x) peer new others after c cs a l same t heard e b = record {
      ds = c ∷ b.ds;
      stand = subst (λ (l : List (SocketAddr × PeerState F)). StandFor seen limits l (c ∷ b.ds)) (sym e) ((same, t), b.stand);
      heard = subst (λ (l : List (SocketAddr × PeerState F)). Paired IsHeard l (c ∷ b.ds)) (sym e) ((same, heard), b.heard);
      less = less_first own c b.ds cs a l b.less;
    }
    turned_by (Err fault) peer new others after c cs a l same t heard e b = record {
      ds = b.ds;
      stand = subst (λ (l : List (SocketAddr × PeerState F)). StandFor seen limits l b.ds) (sym e) b.stand;
      heard = subst (λ (l : List (SocketAddr × PeerState F)). Paired IsHeard l b.ds) (sym e) b.heard;
      less = less_rest own c b.ds cs a b.less;
    }

    -- those in front
    pub front_of : (after gone : List (SocketAddr × PeerState F)) (cs : PeerHappenings) → StandFor seen limits (after ++ gone) cs → Paired IsHeard (after ++ gone) cs → AreApart cs → HaveLast own cs → StandLess seen limits own cs after
    front_of [] gone cs p h a l = record { ds = []; stand = tt; heard = tt; less = less_none own cs }
    front_of (e ∷ after) gone [] p h a l = absurd p
    front_of (e ∷ after) gone (c ∷ cs) p h a l =
        let on = front_of after gone cs p.1 h.1 a.1 l.1 in
        record { ds = c ∷ on.ds; stand = (p.0, on.stand); heard = (h.0, on.heard); less = less_first own c on.ds cs a l on.less }

  module _ (own : SocketAddr → List Happening) (finishes : F → FileReport → FilesEnd → Type 0) (second : ℕ) (is_over : Bool) (law : StandInTurns seen) where
    pub behind_turns : (es after : List (SocketAddr × PeerState F)) (cs : PeerHappenings) (lines : List ℕ) → StandFor seen limits es cs → Paired IsHeard es cs → AreApart cs → HaveLast own cs → HadTurns seen finishes second is_over es after lines
        → StandLess seen limits (own_and own (SecondBegan second)) (all_with (SecondBegan second) cs) after
    behind_turns [] after [] lines p h a l t = record {
      ds = [];
      stand = subst (λ (l : List (SocketAddr × PeerState F)). StandFor seen limits l []) (sym t.0) tt;
      heard = subst (λ (l : List (SocketAddr × PeerState F)). Paired IsHeard l []) (sym t.0) tt;
      less = less_none (own_and own (SecondBegan second)) [];
    }
    behind_turns [] after (c ∷ cs) lines p h a l t = absurd p
    behind_turns (e ∷ es) after [] lines p h a l t = absurd p
    behind_turns (e ∷ es) after (c ∷ cs) lines p h a l t =
        let began = SecondBegan second in
        let on = behind_turns es t.0 cs t.1 p.1 h.1 a.1 l.1 t.3 in
        let session = turned seen law limits second is_over e.0 e.1 t.4.new t.4.turn c.1 p.0.1 t.4.takes in
        let heard = heard_in_turn seen second is_over e.1 t.4.new t.4.turn c.1 h.0.1 t.4.takes in
        turned_by (own_and own began) t.4.turn.answer e.0 t.4.new t.0 after (c.0, c.1 ++ began ∷ []) (all_with began cs)
        (apart_all began (c ∷ cs) a) (last_all own began (c ∷ cs) l) p.0.0 session heard t.4.kept on

    pub turns_stand : (es after : List (SocketAddr × PeerState F)) (lines : List ℕ) → Stands seen limits own es → HadTurns seen finishes second is_over es after lines → Stands seen limits (own_and own (SecondBegan second)) after
    turns_stand es after lines s t = fewer_stand (own_and own (SecondBegan second)) (all_with (SecondBegan second) s.cs) after (behind_turns es after s.cs lines s.stand s.heard s.apart s.last t)

  pub front_stands : (own : SocketAddr → List Happening) (es after gone : List (SocketAddr × PeerState F)) → es ≡ after ++ gone → Stands seen limits own es → Stands seen limits own after
  front_stands own es after gone e s =
      fewer_stand own s.cs after (front_of own after gone s.cs (subst (λ (l : List (SocketAddr × PeerState F)). StandFor seen limits l s.cs) e s.stand)
      (subst (λ (l : List (SocketAddr × PeerState F)). Paired IsHeard l s.cs) e s.heard) s.apart s.last)
