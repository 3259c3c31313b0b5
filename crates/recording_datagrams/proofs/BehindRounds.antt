-- What the sessions of peers stand for after rounds.
use Rattle.std.proofs.Common.{◌≡◌, ℕ, ◌≤◌, ◌&&◌, Bool, true, false, cond, List, [], ◌∷◌, ◌++◌, Result, Ok, Err, refl, sym, ap, ◌∙◌, subst, inl, inr, arith, append-nil, append_assoc}
use Rattle.std.specs.Prelude.{nat_lt}
use Rattle.std.proofs.lemmas.Bool.{le-ltb, lt-ltb}
use Rattle.std.specs.declared.net.socket_addr.SocketAddr.{SocketAddr}
use Rattle.recording_files.specs.Files.{FilesView}
use Rattle.recording_files.specs.Periods.{ClockView}
use Rattle.recording_files.specs.declared.file_report.FileReport.{FileReport}
use Rattle.recording_folder.specs.declared.session_files.FilesEnd.{FilesEnd}
use Rattle.recording_peers.specs.declared.peer_limits.PeerLimits.{PeerLimits}
use Rattle.recording_peers.specs.Happenings.{Happening, DatagramCame}
use Rattle.recording_peers.specs.Sessions.{StandFor}
use Rattle.recording_peers.specs.Steps.{Records}
use Rattle.recording_peers.specs.Table.{same_peer, Paired}
use Rattle.recording_peers.specs.declared.datagram_source.NoDatagram.{NoDatagram}
use Rattle.recording_peers.specs.declared.datagram_source.NoDatagram.TheVariants.{Tick, Failed}
use Rattle.recording_peers.specs.declared.peer_state.PeerState.{PeerState}
use Rattle.recording_peers.specs.declared.peers.Peers.{Peers}
use Rattle.recording_connections.specs.declared.shared_counts.SharedCounts.{SharedCounts}
use Rattle.recording_datagrams.specs.Taking.{Arrival, IsProcessedIf}
use Rattle.recording_datagrams.specs.Rounds.{Round, HadTurnsIf, TakesGiven, KeepsToSeconds, IsRound, AreRounds, FromNone}
use Rattle.recording_datagrams.specs.Standing.{begun, own_datagram, own_in, own_of, IsHeard}
use Rattle.recording_datagrams.specs.declared.datagram_taker.DatagramTaker.{DatagramTaker}
use Rattle.recording_datagrams.proofs.OneStep.{SessionsStand}
use Rattle.recording_datagrams.proofs.OwnHappenings.{Stands, same_stand, behind_datagram, turns_stand, front_stands}

-- what happened to a peer, and these
abbrev pub own_then : (SocketAddr → List Happening) → (SocketAddr → List Happening) → SocketAddr → List Happening
own_then own more peer = own peer ++ more peer

-- what happened in a round, step by step
pub own_steps : (own : SocketAddr → List Happening) (was : ℕ) (r : Round) (p : SocketAddr) → ((own p ++ begun r.is_over r.second) ++ own_datagram p r.second r.given) ++ begun (nat_lt was r.second) r.second ≡ own p ++ own_in p was r
own_steps own was r p = simp append_assoc

-- ---- what stays in a round

module _ {F : Type 0} (seen : F → FilesView) (finishes : F → FileReport → FilesEnd → Type 0) (made_for : F → SocketAddr → Type 0) where
  sent_limits : (may_send : Bool) (before after : Peers F) (shared then : SharedCounts) (from : SocketAddr) (m : List ℕ) (now : ℕ) (lines : List ℕ) → IsProcessedIf seen finishes made_for before after may_send shared then from m now lines → after.limits ≡ before.limits
  sent_limits true before after shared then from m now lines t = t.limits.limits
  sent_limits false before after shared then from m now lines t = ap (λ (p : Peers F). p.limits) t.1

module _ {F P W : Type 0} (seen : F → FilesView) (finishes : F → FileReport → FilesEnd → Type 0) (made_for : F → SocketAddr → Type 0) (asked : P → ClockView) where
  pub given_second : (given : Result Arrival NoDatagram) (now : ℕ) (old new : DatagramTaker F P W) (lines : List ℕ) → TakesGiven seen finishes made_for asked given now old new lines → new.second ≡ old.second
  given_second (Ok a) now old new lines t = ap (λ (r : DatagramTaker F P W). r.second) t.others
  given_second (Err Tick) now old new lines t = ap (λ (r : DatagramTaker F P W). r.second) t.0
  given_second (Err Failed) now old new lines t = ap (λ (r : DatagramTaker F P W). r.second) t.0

  pub given_idle : (given : Result Arrival NoDatagram) (now : ℕ) (old new : DatagramTaker F P W) (lines : List ℕ) → TakesGiven seen finishes made_for asked given now old new lines → new.idle ≡ old.idle
  given_idle (Ok a) now old new lines t = ap (λ (r : DatagramTaker F P W). r.idle) t.others
  given_idle (Err Tick) now old new lines t = ap (λ (r : DatagramTaker F P W). r.idle) t.0
  given_idle (Err Failed) now old new lines t = ap (λ (r : DatagramTaker F P W). r.idle) t.0

  given_limits : (given : Result Arrival NoDatagram) (now : ℕ) (old new : DatagramTaker F P W) (lines : List ℕ) → TakesGiven seen finishes made_for asked given now old new lines → new.peers.limits ≡ old.peers.limits
  given_limits (Ok a) now old new lines t = sent_limits seen finishes made_for a.may_send old.peers new.peers old.unserved new.unserved a.peer a.octets now lines t.arrives.taken
  given_limits (Err Tick) now old new lines t = ap (λ (r : DatagramTaker F P W). r.peers.limits) t.0
  given_limits (Err Failed) now old new lines t = ap (λ (r : DatagramTaker F P W). r.peers.limits) t.0

  second_limits : (now : ℕ) (old new : DatagramTaker F P W) (lines : List ℕ) → KeepsToSeconds seen finishes now old new lines → new.peers.limits ≡ old.peers.limits
  second_limits now old new lines g = elim g [
    | inl same ↦ ap (λ (r : DatagramTaker F P W). r.peers.limits) same.1
    | inr ends ↦ ends.1.limits.limits
  ]

  pub taken_second : (r : Round) (old new : DatagramTaker F P W) → (is : IsRound seen finishes made_for asked r old new) → is.taken.second ≡ old.second
  taken_second r old new is = given_second r.given r.second is.kept is.taken is.taken_lines is.takes ∙ ap (λ (x : DatagramTaker F P W). x.second) is.keeps.others

  pub round_limits : (r : Round) (old new : DatagramTaker F P W) → IsRound seen finishes made_for asked r old new → new.peers.limits ≡ old.peers.limits
  round_limits r old new is = second_limits r.second is.taken new is.last_lines is.goes_on ∙ given_limits r.given r.second is.kept is.taken is.taken_lines is.takes ∙ is.keeps.limits.limits

  second_now : (now : ℕ) (old new : DatagramTaker F P W) (lines : List ℕ) → old.second ≤ now → KeepsToSeconds seen finishes now old new lines → new.second ≡ now
  second_now now old new lines forward g = elim g [
    | inl same ↦ (let early = same.0 in ap (λ (r : DatagramTaker F P W). r.second) same.1 ∙ omega arith)
    | inr ends ↦ ap (λ (r : DatagramTaker F P W). r.second) ends.1.others
  ]

  pub round_second : (r : Round) (old new : DatagramTaker F P W) → IsRound seen finishes made_for asked r old new → new.second ≡ r.second
  round_second r old new is = let at = taken_second r old new is in let forward = is.forward in second_now r.second is.taken new is.last_lines (omega arith) is.goes_on

-- ---- what the sessions stand for

module _ {F : Type 0} (seen : F → FilesView) (finishes : F → FileReport → FilesEnd → Type 0) (made_for : F → SocketAddr → Type 0) (laws : SessionsStand seen made_for) (limits : PeerLimits) where
  kept_stand : (own : SocketAddr → List Happening) (is_over : Bool) (second : ℕ) (es after : List (SocketAddr × PeerState F)) (lines : List ℕ) → Stands seen limits own es → HadTurnsIf seen finishes is_over second es after lines
      → Stands seen limits (own_then own (λ p. begun is_over second)) after
  kept_stand own true second es after lines s t = turns_stand seen limits own finishes second true laws.turns es after lines s t
  kept_stand own false second es after lines s t = same_stand seen limits own _ es after (λ p. sym (append-nil (own p))) t.0 s

  sent_stand : (own : SocketAddr → List Happening) (may_send : Bool) (before after : Peers F) (shared then : SharedCounts) (from : SocketAddr) (m : List ℕ) (now : ℕ) (lines : List ℕ) → before.limits ≡ limits → Stands seen limits own before.kept.entries
      → IsProcessedIf seen finishes made_for before after may_send shared then from m now lines → Stands seen limits (λ p. own p ++ cond (may_send && same_peer p from) (DatagramCame m now ∷ []) []) after.kept.entries
  sent_stand own true before after shared then from m now lines e s t =
      behind_datagram seen limits own made_for laws.datagrams before.kept.cap (record { peer = from; octets = m; second = now; became = t.became; gone = t.gone }) before.kept.entries after.kept.entries s
      (subst (λ n. Records seen made_for n before.kept.cap (record { peer = from; octets = m; second = now; became = t.became; gone = t.gone }) before.kept.entries after.kept.entries) e t.records)
  sent_stand own false before after shared then from m now lines e s t =
      same_stand seen limits own _ before.kept.entries after.kept.entries (λ p. sym (append-nil (own p))) (ap (λ (k : Peers F). k.kept.entries) t.1) s

module _ {F P W : Type 0} (seen : F → FilesView) (finishes : F → FileReport → FilesEnd → Type 0) (made_for : F → SocketAddr → Type 0) (asked : P → ClockView) (laws : SessionsStand seen made_for) (limits : PeerLimits) where
  taken_stand : (own : SocketAddr → List Happening) (given : Result Arrival NoDatagram) (now : ℕ) (old new : DatagramTaker F P W) (lines : List ℕ) → old.peers.limits ≡ limits → Stands seen limits own old.peers.kept.entries
      → TakesGiven seen finishes made_for asked given now old new lines → Stands seen limits (own_then own (λ p. own_datagram p now given)) new.peers.kept.entries
  taken_stand own (Ok a) now old new lines e s t = sent_stand seen finishes made_for laws limits own a.may_send old.peers new.peers old.unserved new.unserved a.peer a.octets now lines e s t.arrives.taken
  taken_stand own (Err Tick) now old new lines e s t =
      same_stand seen limits own _ old.peers.kept.entries new.peers.kept.entries (λ p. sym (append-nil (own p))) (ap (λ (r : DatagramTaker F P W). r.peers.kept.entries) t.0) s
  taken_stand own (Err Failed) now old new lines e s t =
      same_stand seen limits own _ old.peers.kept.entries new.peers.kept.entries (λ p. sym (append-nil (own p))) (ap (λ (r : DatagramTaker F P W). r.peers.kept.entries) t.0) s

  began_stand : (own : SocketAddr → List Happening) (now : ℕ) (old new : DatagramTaker F P W) (lines : List ℕ) → Stands seen limits own old.peers.kept.entries → KeepsToSeconds seen finishes now old new lines
      → Stands seen limits (own_then own (λ p. begun (nat_lt old.second now) now)) new.peers.kept.entries
  began_stand own now old new lines s g = elim g [
    | inl same ↦ (
        let none : nat_lt old.second now ≡ false = le-ltb old.second now same.0 in
        same_stand seen limits own _ old.peers.kept.entries new.peers.kept.entries (λ p. rw none (sym (append-nil (own p)))) (ap (λ (r : DatagramTaker F P W). r.peers.kept.entries) same.1) s
        )
    | inr ends ↦ (
        let one : nat_lt old.second now ≡ true = lt-ltb old.second now ends.0 in
        let turned = turns_stand seen limits own finishes now false laws.turns old.peers.kept.entries ends.1.between ends.1.told s ends.1.turns in
        same_stand seen limits _ _ new.peers.kept.entries new.peers.kept.entries (λ p. rw one refl) refl (front_stands seen limits _ ends.1.between new.peers.kept.entries ends.1.silent.gone ends.1.silent.those turned)
        )
  ]

  round_stands : (own : SocketAddr → List Happening) (r : Round) (old new : DatagramTaker F P W) → old.peers.limits ≡ limits → Stands seen limits own old.peers.kept.entries → IsRound seen finishes made_for asked r old new
      → Stands seen limits (own_then own (λ p. own_in p old.second r)) new.peers.kept.entries
  round_stands own r old new e s is =
      let kept = kept_stand seen finishes made_for laws limits own r.is_over r.second old.peers.kept.entries is.kept.peers.kept.entries is.kept_lines s is.keeps.turns in
      let taken = taken_stand _ r.given r.second is.kept is.taken is.taken_lines (is.keeps.limits.limits ∙ e) kept is.takes in
      let began = began_stand _ r.second is.taken new is.last_lines taken is.goes_on in
      let at = taken_second seen finishes made_for asked r old new is in
      same_stand seen limits _ _ new.peers.kept.entries new.peers.kept.entries
      (λ p. ap (λ n. ((own p ++ begun r.is_over r.second) ++ own_datagram p r.second r.given) ++ begun (nat_lt n r.second) r.second) at ∙ own_steps own old.second r p) refl began

  rounds_stand : (own : SocketAddr → List Happening) (rs : List Round) (old new : DatagramTaker F P W) → old.peers.limits ≡ limits → Stands seen limits own old.peers.kept.entries → AreRounds seen finishes made_for asked rs old new
      → Stands seen limits (own_then own (λ p. own_of p old.second rs)) new.peers.kept.entries
  rounds_stand own [] old new e s are = same_stand seen limits own _ old.peers.kept.entries new.peers.kept.entries (λ p. sym (append-nil (own p))) (ap (λ (r : DatagramTaker F P W). r.peers.kept.entries) are) s
  rounds_stand own (r ∷ rs) old new e s are =
      let now = round_second seen finishes made_for asked r old are.0 are.1 in
      let on = rounds_stand (own_then own (λ p. own_in p old.second r)) rs are.0 new (round_limits seen finishes made_for asked r old are.0 are.1 ∙ e) (round_stands own r old are.0 e s are.1) are.2 in
      same_stand seen limits _ _ new.peers.kept.entries new.peers.kept.entries
      (λ p. ap (λ n. (own p ++ own_in p old.second r) ++ own_of p n rs) now ∙ append_assoc (own p) (own_in p old.second r) (own_of p r.second rs)) refl on

module _ {F P W : Type 0} (seen : F → FilesView) (finishes : F → FileReport → FilesEnd → Type 0) (made_for : F → SocketAddr → Type 0) (asked : P → ClockView) (laws : SessionsStand seen made_for) where
  pub behind_rounds : (run : FromNone W seen finishes made_for asked) → Stands seen run.old.peers.limits (λ p. own_of p run.old.second run.rounds) run.new.peers.kept.entries
  behind_rounds run =
      let first : Stands seen run.old.peers.limits (λ p. []) run.old.peers.kept.entries = record {
        cs = [];
        stand = subst (λ (l : List (SocketAddr × PeerState F)). StandFor seen run.old.peers.limits l []) (sym run.none) tt;
        heard = subst (λ (l : List (SocketAddr × PeerState F)). Paired IsHeard l []) (sym run.none) tt;
        apart = tt;
        last = tt;
      } in
      rounds_stand seen finishes made_for asked laws run.old.peers.limits (λ p. []) run.rounds run.old run.new refl first run.are
