-- Peers stand in the order of their last datagrams, so nobody is kept that has been silent for too long.
use Rattle.std.proofs.Common.{◌≡◌, ℕ, suc, ◌-◌, ◌≤◌, ◌<◌, Bool, true, false, cond, not, List, [], ◌∷◌, ◌++◌, length, slice_get, is_some, Option, Some, None, Result, Ok, Err, sym, ap, ◌∙◌, subst, inl, inr, arith}
use Rattle.std.specs.Prelude.{IfSome, filter}
use Rattle.std.specs.Map.{remove_entry}
use Rattle.std.specs.declared.net.socket_addr.SocketAddr.{SocketAddr}
use Rattle.lru.specs.LruCache.{last_entry}
use Rattle.recording_files.specs.Files.{FilesView}
use Rattle.recording_files.specs.Periods.{ClockView}
use Rattle.recording_files.specs.declared.file_report.FileReport.{FileReport}
use Rattle.recording_folder.specs.declared.session_files.FilesEnd.{FilesEnd}
use Rattle.recording_files.specs.declared.record_fault.RecordFault.{RecordFault}
use Rattle.recording_peers.specs.declared.peer_limits.PeerLimits.{PeerLimits}
use Rattle.recording_peers.specs.Steps.{Reception, Records, RecordsBy, first_by, kept_by}
use Rattle.recording_peers.specs.Sessions.{went_in}
use Rattle.recording_peers.specs.Table.{same_peer, of_peer, others_for, without}
use Rattle.recording_peers.specs.declared.datagram_source.NoDatagram.{NoDatagram}
use Rattle.recording_peers.specs.declared.datagram_source.NoDatagram.TheVariants.{Tick, Failed}
use Rattle.recording_peers.specs.declared.peer_state.PeerState.{PeerState}
use Rattle.recording_peers.specs.declared.peers.Peers.{Peers}
use Rattle.recording_peers.specs.declared.outcome.Became.{Became}
use Rattle.recording_peers.specs.declared.outcome.Became.TheVariants.{Taken, Ended, NoPlace, NoMemory}
use Rattle.recording_connections.specs.declared.shared_counts.SharedCounts.{SharedCounts}
use Rattle.recording_datagrams.specs.Taking.{Arrival, IsProcessedIf}
use Rattle.recording_datagrams.specs.Turns.{HadTurns}
use Rattle.recording_datagrams.specs.Rounds.{Round, HadTurnsIf, TakesGiven, TellsAndEnds, IsRound, AreRounds, FromNone}
use Rattle.recording_datagrams.specs.Standing.{AreHeard}
use Rattle.recording_datagrams.specs.declared.datagram_taker.DatagramTaker.{DatagramTaker}
use Rattle.recording_datagrams.proofs.BehindRounds.{given_idle, taken_second}
use Rattle.recording_datagrams.proofs.OneStep.{heard_at}

-- the latest first, and none after a second
abbrev IsInOrder : {F : Type 0} → ℕ → List (SocketAddr × PeerState F) → Type 0
IsInOrder second [] = Unit {0}
IsInOrder second (e ∷ es) = (e.1.heard ≤ second) × IsInOrder e.1.heard es

module _ {F : Type 0} where
  later : (second now : ℕ) (es : List (SocketAddr × PeerState F)) → second ≤ now → IsInOrder second es → IsInOrder now es
  later second now [] h o = tt
  later second now (e ∷ es) h o = let was = o.0 in (omega arith, o.1)

  rest : (second : ℕ) (e : SocketAddr × PeerState F) (es : List (SocketAddr × PeerState F)) → IsInOrder second (e ∷ es) → IsInOrder second es
  rest second e es o = later e.1.heard second es o.0 o.1

  removed : (second : ℕ) (peer : SocketAddr) (es : List (SocketAddr × PeerState F)) → IsInOrder second es → IsInOrder second (remove_entry (same_peer peer) es)
  removed second peer [] o = tt
  removed second peer (e ∷ es) o = elim (same_peer peer e.0) as (λ b. IsInOrder second (cond b es (e ∷ remove_entry (same_peer peer) es))) [
    | true ↦ rest second e es o
    | false ↦ (o.0, removed e.1.heard peer es o.1)
  ]

  without_it : (second : ℕ) (gone : SocketAddr) (es : List (SocketAddr × PeerState F)) → IsInOrder second es → IsInOrder second (filter (λ e. not (same_peer gone e.0)) es)
  without_it second gone [] o = tt
  without_it second gone (e ∷ es) o = elim (same_peer gone e.0) as (λ b. IsInOrder second (cond (not b) (e ∷ filter (λ e. not (same_peer gone e.0)) es) (filter (λ e. not (same_peer gone e.0)) es))) [
    | true ↦ without_it second gone es (rest second e es o)
    | false ↦ (o.0, without_it e.1.heard gone es o.1)
  ]

  less : (second : ℕ) (gone : Option SocketAddr) (es : List (SocketAddr × PeerState F)) → IsInOrder second es → IsInOrder second (without gone es)
  less second None es o = o
  less second (Some peer) es o = without_it second peer es o

  others : (second : ℕ) (gone : Option SocketAddr) (peer : SocketAddr) (es : List (SocketAddr × PeerState F)) → IsInOrder second es → IsInOrder second (others_for gone peer es)
  others second gone peer es o = elim (is_some (of_peer peer es)) as (λ b. IsInOrder second (cond b (remove_entry (same_peer peer) es) (without gone es))) [
    | true ↦ removed second peer es o
    | false ↦ less second gone es o
  ]

  front : (second : ℕ) (after gone : List (SocketAddr × PeerState F)) → IsInOrder second (after ++ gone) → IsInOrder second after
  front second [] gone o = tt
  front second (e ∷ after) gone o = (o.0, front e.1.heard after gone o.1)

  -- where the last isn't silent nobody is
  all_heard : (second since : ℕ) (es : List (SocketAddr × PeerState F)) → IsInOrder second es → IfSome (last_entry es) (λ e. since ≤ e.1.heard) → AreHeard since es
  all_heard second since [] o h = tt
  all_heard second since (e ∷ []) o h = (h, tt)
  all_heard second since (e ∷ f ∷ es) o h =
      let less : length (e ∷ f ∷ es) - 1 ≡ suc (length (f ∷ es) - 1) = omega arith in
      let on = all_heard e.1.heard since (f ∷ es) o.1 (subst (λ n. IfSome (slice_get (e ∷ f ∷ es) n) (λ (x : SocketAddr × PeerState F). since ≤ x.1.heard)) less h) in
      let first = on.0 in let before = o.1.0 in
      (omega arith, on)

  by_answer : (answer : Result (Unit {0}) RecordFault) (now : ℕ) (gone : Option SocketAddr) (peer : SocketAddr) (k : PeerState F) (es after : List (SocketAddr × PeerState F)) → IsInOrder now es → k.heard ≡ now → after ≡ kept_by answer gone peer k es → IsInOrder now after
  by_answer (Ok x) now gone peer k es after o h e =
      subst (λ (l : List (SocketAddr × PeerState F)). IsInOrder now l) (sym e) ((omega arith, subst (λ n. IsInOrder n (others_for gone peer es)) (sym h) (others now gone peer es o)))
  by_answer (Err fault) now gone peer k es after o h e = subst (λ (l : List (SocketAddr × PeerState F)). IsInOrder now l) (sym e) (others now gone peer es o)

  turned : (answer : Result (Unit {0}) RecordFault) (second : ℕ) (e : SocketAddr × PeerState F) (new : PeerState F) (behind after : List (SocketAddr × PeerState F)) → e.1.heard ≤ second → new.heard ≡ e.1.heard → IsInOrder e.1.heard behind
      → after ≡ first_by answer e.0 new behind → IsInOrder second after
  turned (Ok x) second e new behind after h same o is =
      subst (λ (l : List (SocketAddr × PeerState F)). IsInOrder second l) (sym is) ((omega arith, subst (λ n. IsInOrder n behind) (sym same) o))
  turned (Err fault) second e new behind after h same o is = subst (λ (l : List (SocketAddr × PeerState F)). IsInOrder second l) (sym is) (later e.1.heard second behind h o)

module _ {F : Type 0} (seen : F → FilesView) (finishes : F → FileReport → FilesEnd → Type 0) where
  module _ (made_for : F → SocketAddr → Type 0) (limits : PeerLimits) (most : ℕ) (r : Reception F) (es after : List (SocketAddr × PeerState F)) where
    records_by : (became : Became F) → IsInOrder r.second es → RecordsBy seen made_for limits became most r es after → IsInOrder r.second after
    records_by NoPlace o t = subst (λ (l : List (SocketAddr × PeerState F)). IsInOrder r.second l) (sym t.nothing.same) o
    records_by NoMemory o t = subst (λ (l : List (SocketAddr × PeerState F)). IsInOrder r.second l) (sym t.same) o
    records_by Taken o t = by_answer t.answer r.second (went_in r) r.peer t.new es after o (heard_at seen t.old t.new r.octets r.second t.answer t.takes) t.others
    records_by (Ended k) o t = by_answer t.answer r.second (went_in r) r.peer t.new es after o (heard_at seen t.old t.new r.octets r.second t.answer t.takes) t.others

    records : IsInOrder r.second es → Records seen made_for limits most r es after → IsInOrder r.second after
    records o t = records_by r.became o t

  had_turns : (at : ℕ) (is_over : Bool) (second : ℕ) (es after : List (SocketAddr × PeerState F)) (lines : List ℕ) → IsInOrder second es → HadTurns seen finishes at is_over es after lines → IsInOrder second after
  had_turns at is_over second [] after lines o t = subst (λ (l : List (SocketAddr × PeerState F)). IsInOrder second l) (sym t.0) tt
  had_turns at is_over second (e ∷ es) after lines o t =
      turned t.4.turn.answer second e t.4.new t.0 after o.0 t.4.takes.follows.heard (had_turns at is_over e.1.heard es t.0 t.1 o.1 t.3) t.4.kept

  had_turns_if : (is_over : Bool) (at second : ℕ) (es after : List (SocketAddr × PeerState F)) (lines : List ℕ) → IsInOrder second es → HadTurnsIf seen finishes is_over at es after lines → IsInOrder second after
  had_turns_if true at second es after lines o t = had_turns at true second es after lines o t
  had_turns_if false at second es after lines o t = subst (λ (l : List (SocketAddr × PeerState F)). IsInOrder second l) (sym t.0) o

  takes_if : (made_for : F → SocketAddr → Type 0) (may_send : Bool) (before after : Peers F) (shared then : SharedCounts) (from : SocketAddr) (m : List ℕ) (now : ℕ) (lines : List ℕ) → IsInOrder now before.kept.entries
      → IsProcessedIf seen finishes made_for before after may_send shared then from m now lines → IsInOrder now after.kept.entries
  takes_if made_for true before after shared then from m now lines o t =
      records made_for before.limits before.kept.cap (record { peer = from; octets = m; second = now; became = t.became; gone = t.gone }) before.kept.entries after.kept.entries o t.records
  takes_if made_for false before after shared then from m now lines o t = subst (λ (k : Peers F). IsInOrder now k.kept.entries) (sym t.1) o

module _ {F P W : Type 0} (seen : F → FilesView) (finishes : F → FileReport → FilesEnd → Type 0) (made_for : F → SocketAddr → Type 0) (asked : P → ClockView) where
  takes_given : (given : Result Arrival NoDatagram) (now : ℕ) (old new : DatagramTaker F P W) (lines : List ℕ) → IsInOrder now old.peers.kept.entries → TakesGiven seen finishes made_for asked given now old new lines → IsInOrder now new.peers.kept.entries
  takes_given (Ok a) now old new lines o t = takes_if seen finishes made_for a.may_send old.peers new.peers old.unserved new.unserved a.peer a.octets now lines o t.arrives.taken
  takes_given (Err Tick) now old new lines o t = subst (λ (r : DatagramTaker F P W). IsInOrder now r.peers.kept.entries) (sym t.0) o
  takes_given (Err Failed) now old new lines o t = subst (λ (r : DatagramTaker F P W). IsInOrder now r.peers.kept.entries) (sym t.0) o

  ends_in_order : (now : ℕ) (old new : DatagramTaker F P W) (lines : List ℕ) → IsInOrder now old.peers.kept.entries → TellsAndEnds seen finishes now old new lines → IsInOrder now new.peers.kept.entries
  ends_in_order now old new lines o t =
      let turned = had_turns seen finishes now false now old.peers.kept.entries t.between t.told o t.turns in
      front now new.peers.kept.entries t.silent.gone (subst (λ (l : List (SocketAddr × PeerState F)). IsInOrder now l) t.silent.those turned)

  before_end : (r : Round) (old new : DatagramTaker F P W) → IsInOrder old.second old.peers.kept.entries → (is : IsRound seen finishes made_for asked r old new) → IsInOrder r.second is.taken.peers.kept.entries
  before_end r old new o is =
      let first = later old.second r.second old.peers.kept.entries is.forward o in
      let kept = had_turns_if seen finishes r.is_over r.second r.second old.peers.kept.entries is.kept.peers.kept.entries is.kept_lines first is.keeps.turns in
      takes_given r.given r.second is.kept is.taken is.taken_lines kept is.takes

  round_in_order : (r : Round) (old new : DatagramTaker F P W) → IsInOrder old.second old.peers.kept.entries → IsRound seen finishes made_for asked r old new → IsInOrder new.second new.peers.kept.entries
  round_in_order r old new o is = elim is.goes_on [
    | inl same ↦ subst (λ (x : DatagramTaker F P W). IsInOrder x.second x.peers.kept.entries) (sym same.1) (later r.second is.taken.second is.taken.peers.kept.entries same.0 (before_end r old new o is))
    | inr ends ↦ subst (λ n. IsInOrder n new.peers.kept.entries) (sym (ap (λ (x : DatagramTaker F P W). x.second) ends.1.others)) (ends_in_order r.second is.taken new is.last_lines (before_end r old new o is) ends.1)
  ]

  rounds_in_order : (rs : List Round) (old new : DatagramTaker F P W) → IsInOrder old.second old.peers.kept.entries → AreRounds seen finishes made_for asked rs old new → IsInOrder new.second new.peers.kept.entries
  rounds_in_order [] old new o are = subst (λ (x : DatagramTaker F P W). IsInOrder x.second x.peers.kept.entries) (sym are) o
  rounds_in_order (r ∷ rs) old new o are = rounds_in_order rs are.0 new (round_in_order r old are.0 o are.1) are.2

  pub nobody_silent : (run : FromNone W seen finishes made_for asked) (r : Round) (new : DatagramTaker F P W) → IsRound seen finishes made_for asked r run.new new → run.new.second < r.second → AreHeard (r.second - run.new.idle) new.peers.kept.entries
  nobody_silent run r new is h =
      let mid = run.new in
      let first : IsInOrder run.old.second run.old.peers.kept.entries = subst (λ (l : List (SocketAddr × PeerState F)). IsInOrder run.old.second l) (sym run.none) tt in
      let o = before_end r mid new (rounds_in_order run.rounds run.old mid first run.are) is in
      let at = taken_second seen finishes made_for asked r mid new is in
      let idle : is.taken.idle ≡ mid.idle = given_idle seen finishes made_for asked r.given r.second is.kept is.taken is.taken_lines is.takes ∙ ap (λ (x : DatagramTaker F P W). x.idle) is.keeps.others in
      elim is.goes_on [
        | inl same ↦ let early = same.0 in absurd (omega arith)
        | inr ends ↦ subst (λ n. AreHeard (r.second - n) new.peers.kept.entries) idle
            (all_heard r.second (r.second - is.taken.idle) new.peers.kept.entries (ends_in_order r.second is.taken new is.last_lines o ends.1) ends.1.silent.heard)
      ]
