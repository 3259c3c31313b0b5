-- What a call of the table does, by what it finds there.
use Rattle.std.proofs.Common.{◌≡◌, ℕ, Bool, cond, is_some, List, Option, Some, None, Result, Ok, Err, refl, sym, ap, ◌∙◌, subst}
use Rattle.std.specs.Prelude.{IfOk, OnErr}
use Rattle.std.specs.BTreeMap.{BTreeMap}
use Rattle.std.specs.Map.{lookup, remove_entry, set_value}
use Rattle.std.specs.declared.net.socket_addr.SocketAddr.{SocketAddr}
use Rattle.lru.specs.LruCache.{promoted, last_entry}
use Rattle.recording_files.specs.declared.record_fault.RecordFault.{RecordFault}
use Rattle.recording_files.specs.Files.{FilesView}
use Rattle.recording_resumption.specs.declared.earlier_domain.EarlierDomain.{EarlierDomain}
use Rattle.recording_peers.specs.declared.peer_limits.PeerLimits.{PeerLimits}
use Rattle.recording_peers.specs.declared.peer_state.PeerState.{PeerState}
use Rattle.recording_peers.specs.declared.turn.Turn.{Turn}
use Rattle.recording_peers.specs.declared.outcome.Became.{Became}
use Rattle.recording_peers.specs.declared.outcome.Became.TheVariants.{Taken, Ended, NoPlace, NoMemory}
use Rattle.recording_peers.specs.Calls.{Takes, TakesTurn}
use Rattle.recording_peers.specs.Table.{same_peer, address_of, entry_of, of_peer, with_first, without_last}
use Rattle.recording_peers.specs.Steps.{Reception, Begins, BeginsWith, ComesTo, BeginsBy, PutsIn, TakesKept, TakesIn, RecordsBy, Records, GoesOn, became_by, gone_for, kept_by, ended_by, first_by}
use Rattle.recording_peers.proofs.Tables.{IsLast, written, taken_out, value_out, begun, begun_first, begun_others, last_first, last_out, last_there}

module _ {F : Type 0} (seen : F → FilesView) where
  -- a peer that is kept took a datagram
  pub took_in : (es : List (SocketAddr × PeerState F)) (r : Reception F) (old new : PeerState F) → of_peer r.peer es ≡ Some old → r.became ≡ Taken → Takes seen old new r.octets r.second (Ok tt)
      → TakesKept seen r es (set_value (same_peer r.peer) (promoted (same_peer r.peer) es) new)
  took_in es r old new h became takes = record {
    old = old;
    kept = h;
    new = new;
    answer = Ok tt;
    takes = takes;
    became = became;
    others = written r.peer None es old new h;
  }

  pub took_out : (es after : List (SocketAddr × PeerState F)) (r : Reception F) (old new ended : PeerState F) (fault : RecordFault) → of_peer r.peer es ≡ Some old → r.became ≡ Ended ended
      → Takes seen old new r.octets r.second (Err fault)
      → Some ended ≡ lookup (same_peer r.peer) (set_value (same_peer r.peer) (promoted (same_peer r.peer) es) new)
      → after ≡ remove_entry (same_peer r.peer) (set_value (same_peer r.peer) (promoted (same_peer r.peer) es) new)
      → TakesKept seen r es after
  took_out es after r old new ended fault h became takes popped left =
      let there = value_out r.peer es old new h in
      let same : ended ≡ new = cc (popped, there) in
      record {
        old = old;
        kept = h;
        new = new;
        answer = Err fault;
        takes = takes;
        became = became ∙ ap (λ k. Ended k) same;
        others = left ∙ taken_out r.peer None es old new h;
      }

  module _ (made_for : F → SocketAddr → Type 0) (limits : PeerLimits) (most : ℕ) where
    -- a session begins, and one goes for it
    pub begins_with : {E : Type 0} (peer : SocketAddr) (left : BTreeMap ℕ EarlierDomain) (answer : Result (Option (SocketAddr × PeerState F)) E) (es after : List (SocketAddr × PeerState F)) (k : PeerState F) → Begins seen made_for limits peer left k
        → IfOk answer (λ gone. PutsIn most peer k gone es after) → OnErr answer (after ≡ es) → BeginsWith seen made_for limits most peer left answer es after
    begins_with peer left (Ok went) es after k begins ok err = (k, begins, ok)
    begins_with peer left (Err e) es after k begins ok err = err

    by_became : (b : Became F) (r : Reception F) (es after : List (SocketAddr × PeerState F)) → r.became ≡ b → TakesIn seen made_for limits most r es after → RecordsBy seen made_for limits b most r es after
    by_became Taken r es after is t = t
    by_became (Ended k) r es after is t = t
    by_became NoPlace r es after is t = absurd (never t.answer t.new (sym is ∙ t.became))
      where
        never : (answer : Result (Unit {0}) RecordFault) (k : PeerState F) → NoPlace ≡ became_by answer k → ⊥
        never (Ok x) k e = cc
        never (Err fault) k e = cc
    by_became NoMemory r es after is t = absurd (never t.answer t.new (sym is ∙ t.became))
      where
        never : (answer : Result (Unit {0}) RecordFault) (k : PeerState F) → NoMemory ≡ became_by answer k → ⊥
        never (Ok x) k e = cc
        never (Err fault) k e = cc

    recorded : (r : Reception F) (es after : List (SocketAddr × PeerState F)) → TakesIn seen made_for limits most r es after → Records seen made_for limits most r es after
    recorded r es after t = by_became r.became r es after refl t

    -- none goes for a peer that is kept
    none_gone : (o : Option (PeerState F)) (old : PeerState F) (e : Option (SocketAddr × PeerState F)) → o ≡ Some old → cond (is_some o) None e ≡ None
    none_gone None old e h = absurd cc
    none_gone (Some k) old e h = refl

    pub recorded_kept : (r : Reception F) (es after : List (SocketAddr × PeerState F)) → TakesKept seen (record r { gone = None }) es after → r.gone ≡ None → Records seen made_for limits most r es after
    recorded_kept r es after t none = recorded r es after (record {
      old = t.old;
      comes_to = subst (λ o. ComesTo seen made_for limits r.peer r.octets o t.old) (sym t.kept) refl;
      new = t.new;
      answer = t.answer;
      takes = t.takes;
      became = t.became;
      went = none ∙ sym (none_gone (of_peer r.peer es) t.old (gone_for most es) t.kept);
      was_kept = subst (λ g. g ≡ entry_of (address_of g) es) (sym none) refl;
      others = subst (λ g. after ≡ kept_by t.answer (address_of g) r.peer t.new es) (sym none) t.others;
    })

    -- the session of a new peer
    same_kept : (answer : Result (Unit {0}) RecordFault) (gone : Option SocketAddr) (peer : SocketAddr) (k new : PeerState F) (es : List (SocketAddr × PeerState F)) → of_peer peer es ≡ None
        → kept_by answer None peer new (with_first gone peer k es) ≡ kept_by answer gone peer new es
    same_kept (Ok x) gone peer k new es h = begun_first peer gone es k new h
    same_kept (Err fault) gone peer k new es h = begun_others peer gone es k h

    -- one goes for it
    one_gone : (o : Option (PeerState F)) (e : Option (SocketAddr × PeerState F)) → o ≡ None → cond (is_some o) None e ≡ e
    one_gone None e h = refl
    one_gone (Some k) e h = absurd cc

    pub recorded_new : (r : Reception F) (es begins after : List (SocketAddr × PeerState F)) (k : PeerState F) → of_peer r.peer es ≡ None → BeginsBy seen made_for limits r.peer r.octets k → PutsIn most r.peer k r.gone es begins
        → TakesKept seen (record r { gone = None }) begins after → Records seen made_for limits most r es after
    recorded_new r es begins after k none fresh puts t =
        let there : of_peer r.peer begins ≡ Some k = ap (of_peer r.peer) puts.others ∙ begun r.peer (address_of r.gone) es k none in
        let kept = t.kept in
        let same : t.old ≡ k = cc (kept, there) in
        recorded r es after (record {
          old = t.old;
          comes_to = subst (λ o. ComesTo seen made_for limits r.peer r.octets o t.old) (sym none) (subst (BeginsBy seen made_for limits r.peer r.octets) (sym same) fresh);
          new = t.new;
          answer = t.answer;
          takes = t.takes;
          became = t.became;
          went = puts.went ∙ sym (one_gone (of_peer r.peer es) (gone_for most es) none);
          was_kept = puts.was_kept;
          others = t.others ∙ ap (kept_by t.answer None r.peer t.new) puts.others ∙ same_kept t.answer (address_of r.gone) r.peer k t.new es none;
        })

  -- ---- the last peer had its turn

  pub went_on : (second : ℕ) (is_over : Bool) (es after : List (SocketAddr × PeerState F)) (e : SocketAddr × PeerState F) (old new : PeerState F) (turn : Turn) (ended : Option (PeerState F))
      → last_entry es ≡ Some e → IsLast es e → Some old ≡ of_peer e.0 es → turn.answer ≡ Ok tt → TakesTurn seen old new second is_over turn
      → after ≡ set_value (same_peer e.0) (promoted (same_peer e.0) es) new → ended ≡ None
      → GoesOn seen second is_over es after (record { peer = e.0; refused = turn.refused; orders = turn.orders; resumed = turn.resumed; ended = ended })
  went_on second is_over es after e old new turn ended last l here ok takes left none =
      let there = last_there es e l in
      let same : old ≡ e.1 = cc (here, there) in
      record {
        old = old;
        last = last ∙ ap (λ k. Some (e.0, k)) (sym same);
        new = new;
        turn = turn;
        takes = takes;
        refused = refl;
        orders = refl;
        resumed = refl;
        ended = none ∙ sym (ap (λ a. ended_by a new) ok);
        others = left ∙ last_first es e new l ∙ sym (ap (λ a. first_by a e.0 new (without_last es)) ok);
      }

  pub went_out : (second : ℕ) (is_over : Bool) (es after : List (SocketAddr × PeerState F)) (e : SocketAddr × PeerState F) (old new : PeerState F) (turn : Turn) (fault : RecordFault) (ended : Option (PeerState F))
      → last_entry es ≡ Some e → IsLast es e → Some old ≡ of_peer e.0 es → turn.answer ≡ Err fault → TakesTurn seen old new second is_over turn
      → ended ≡ lookup (same_peer e.0) (set_value (same_peer e.0) (promoted (same_peer e.0) es) new)
      → after ≡ remove_entry (same_peer e.0) (set_value (same_peer e.0) (promoted (same_peer e.0) es) new)
      → GoesOn seen second is_over es after (record { peer = e.0; refused = turn.refused; orders = turn.orders; resumed = turn.resumed; ended = ended })
  went_out second is_over es after e old new turn fault ended last l here failed takes popped left =
      let there = last_there es e l in
      let same : old ≡ e.1 = cc (here, there) in
      record {
        old = old;
        last = last ∙ ap (λ k. Some (e.0, k)) (sym same);
        new = new;
        turn = turn;
        takes = takes;
        refused = refl;
        orders = refl;
        resumed = refl;
        ended = popped ∙ value_out e.0 es e.1 new there ∙ sym (ap (λ a. ended_by a new) failed);
        others = left ∙ last_out es e new l ∙ sym (ap (λ a. first_by a e.0 new (without_last es)) failed);
      }
