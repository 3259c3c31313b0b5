-- The turns of all peers, and the end of those that are silent.
use Rattle.std.proofs.Common.{◌≡◌, ℕ, ◌+◌, ◌-◌, ◌<◌, ◌≤◌, ◌⊎◌, Bool, List, [], ◌∷◌, ◌++◌, length, take, Some, Result, Ok, Err, refl, sym, ap, ◌∙◌, subst, inl, inr, arith, length-append, append-nil, append_assoc}
use Rattle.std.specs.declared.net.socket_addr.SocketAddr.{SocketAddr}
use Rattle.report_writing.specs.Lines.{LinesView}
use Rattle.lru.specs.LruCache.{last_entry}
use Rattle.lru.proofs.Pairs.{cut_end, last_of_push}
use Rattle.recording_files.specs.Files.{FilesView}
use Rattle.recording_files.specs.declared.file_report.FileReport.{FileReport}
use Rattle.recording_folder.specs.declared.session_files.FilesEnd.{FilesEnd}
use Rattle.recording_files.specs.declared.record_fault.RecordFault.{RecordFault}
use Rattle.recording_peers.specs.Calls.{TakesTurn}
use Rattle.recording_peers.specs.Steps.{GoesOn, KeepsLimits, first_by}
use Rattle.recording_peers.specs.declared.in_turn.InTurn.{InTurn}
use Rattle.recording_peers.specs.declared.peer_state.PeerState.{PeerState}
use Rattle.recording_peers.specs.declared.peers.Peers.{Peers}
use Rattle.recording_datagrams.specs.Ending.{TellsSome}
use Rattle.recording_datagrams.specs.Turns.{IsTurnTold, IsTurn, HadTurn, HadTurns, EndsOneSilent, AreSilent, EndsSilent, in_turn}

pub limits_both : {F : Type 0} {old mid new : Peers F} → KeepsLimits old mid → KeepsLimits mid new → KeepsLimits old new
limits_both h k = record { room = k.room ∙ h.room; limits = k.limits ∙ h.limits }

module _ {F : Type 0} (seen : F → FilesView) (finishes : F → FileReport → FilesEnd → Type 0) (second : ℕ) (is_over : Bool) where
  -- the last peers, as many as had their turn, stand before the others now
  pub record GoneOver (es now : List (SocketAddr × PeerState F)) (count : ℕ) (lines : List ℕ) : Type 0 where
    pub front : List (SocketAddr × PeerState F)
    pub behind : List (SocketAddr × PeerState F)
    pub kept : List (SocketAddr × PeerState F)
    pub those : es ≡ front ++ behind
    pub as_many : length behind ≡ count
    pub now_is : now ≡ kept ++ front
    pub had : HadTurns seen finishes second is_over behind kept lines

  pub gone_first : (es : List (SocketAddr × PeerState F)) → GoneOver es es 0 []
  gone_first es = record { front = es; behind = []; kept = []; those = sym (append-nil es); as_many = refl; now_is = refl; had = (refl, refl) }

  first_before : (answer : Result (Unit {0}) RecordFault) (peer : SocketAddr) (k : PeerState F) (kept front : List (SocketAddr × PeerState F))
      → first_by answer peer k (kept ++ front) ≡ first_by answer peer k kept ++ front
  first_before (Ok x) peer k kept front = refl
  first_before (Err fault) peer k kept front = refl

  -- what was told of it is told of these
  turn_told : (t : InTurn F) (es after : List (SocketAddr × PeerState F)) (lines : List ℕ) (peer : SocketAddr) (g : GoesOn seen second is_over es after t) → t.peer ≡ peer
      → IsTurnTold seen finishes t lines → IsTurnTold seen finishes (in_turn peer g.turn g.new) lines
  turn_told t es after lines peer g p told = subst (λ (x : InTurn F). IsTurnTold seen finishes x lines) same told
    where
      same : t ≡ in_turn peer g.turn g.new
      same = λ i. record { peer = p i; refused = g.refused i; orders = g.orders i; resumed = g.resumed i; ended = g.ended i }

  -- the turn of the last one
  turn_of : (kept front : List (SocketAddr × PeerState F)) (e : SocketAddr × PeerState F) (after : List (SocketAddr × PeerState F)) (own : List ℕ) → IsTurn seen finishes second is_over ((kept ++ front) ++ e ∷ []) after own
      → (k : List (SocketAddr × PeerState F)) × HadTurn seen finishes second is_over e kept k own × (after ≡ k ++ front)
  turn_of kept front e after own t =
      let g = t.goes_on in
      let ends = last_of_push (kept ++ front) e in
      let same : (t.turn.peer, g.old) ≡ e = (let found : Some (t.turn.peer, g.old) ≡ Some e = sym g.last ∙ ends.0 in cc) in
      let peer : t.turn.peer ≡ e.0 = ap (λ (p : SocketAddr × PeerState F). p.0) same in
      let others : after ≡ first_by g.turn.answer e.0 g.new (kept ++ front) =
      g.others ∙ ap (λ (l : List (SocketAddr × PeerState F)). first_by g.turn.answer t.turn.peer g.new l) ends.1 ∙ ap (λ (p : SocketAddr). first_by g.turn.answer p g.new (kept ++ front)) peer in
      let told : IsTurnTold seen finishes (in_turn e.0 g.turn g.new) own = turn_told t.turn ((kept ++ front) ++ e ∷ []) after own e.0 g peer t.is_told in (
        first_by g.turn.answer e.0 g.new kept,
        record {
          new = g.new;
          turn = g.turn;
          takes = subst (λ (k : PeerState F). TakesTurn seen k g.new second is_over g.turn) (ap (λ (p : SocketAddr × PeerState F). p.1) same) g.takes;
          kept = refl;
          is_told = told;
        },
        others ∙ first_before g.turn.answer e.0 g.new kept front,
      )

  pub gone_on : (es now after : List (SocketAddr × PeerState F)) (count : ℕ) (lines own : List ℕ) → GoneOver es now count lines → count < length es → IsTurn seen finishes second is_over now after own → GoneOver es after (count + 1) (lines ++ own)
  gone_on es now after count lines own g h t =
      let long : length es ≡ length g.front + length g.behind = ap length g.those ∙ length-append g.front g.behind in
      let many = g.as_many in
      let cut = cut_end g.front (omega arith) in
      let now_is : now ≡ (g.kept ++ cut.0) ++ cut.1 ∷ [] = g.now_is ∙ ap (λ (l : List (SocketAddr × PeerState F)). g.kept ++ l) cut.2 ∙ sym (append_assoc g.kept cut.0 (cut.1 ∷ [])) in
      let turned = turn_of g.kept cut.0 cut.1 after own (subst (λ (l : List (SocketAddr × PeerState F)). IsTurn seen finishes second is_over l after own) now_is t) in
      record {
        front = cut.0;
        behind = cut.1 ∷ g.behind;
        kept = turned.0;
        those = g.those ∙ ap (λ (l : List (SocketAddr × PeerState F)). l ++ g.behind) cut.2 ∙ append_assoc cut.0 (cut.1 ∷ []) g.behind;
        as_many = omega arith;
        now_is = turned.2;
        had = (g.kept, lines, own, g.had, turned.1, refl);
      }

  -- it wasn't empty, so one had its turn
  pub gone_later : {W A : Type 0} {out_lines : W → LinesView} {old new : W} {answer : Result (Unit {0}) A} {after : List (SocketAddr × PeerState F)}
      (es now : List (SocketAddr × PeerState F)) (count : ℕ) (lines : List ℕ) → GoneOver es now count lines → count < length es
      → (now ≡ []) ⊎ TellsSome out_lines old new answer (IsTurn seen finishes second is_over now after)
      → (t : TellsSome out_lines old new answer (IsTurn seen finishes second is_over now after)) × GoneOver es after (count + 1) (lines ++ t.lines)
  gone_later {after = after} es now count lines g h t = elim t [
    | inl none ↦ (
        let long : length es ≡ length g.front + length g.behind = ap length g.those ∙ length-append g.front g.behind in
        let many = g.as_many in
        let empty : length g.kept + length g.front ≡ 0 = sym (length-append g.kept g.front) ∙ ap length (sym g.now_is ∙ none) in
        absurd (omega arith)
        )
    | inr told ↦ (told, gone_on es now after count lines told.lines g h told.are)
  ]

  emptied : (front behind kept es now : List (SocketAddr × PeerState F)) (lines : List ℕ) → es ≡ front ++ behind → length es ≤ length behind → now ≡ kept ++ front → HadTurns seen finishes second is_over behind kept lines → HadTurns seen finishes second is_over es now lines
  emptied [] behind kept es now lines e h n t =
      subst (λ (l : List (SocketAddr × PeerState F)). HadTurns seen finishes second is_over l now lines) (sym e) (subst (λ (l : List (SocketAddr × PeerState F)). HadTurns seen finishes second is_over behind l lines) (sym (n ∙ append-nil kept)) t)
  emptied (x ∷ xs) behind kept es now lines e h n t = let long : length es ≡ length (x ∷ xs) + length behind = ap length e ∙ length-append (x ∷ xs) behind in absurd (omega arith)

  -- all had their turn
  pub gone_over : (es now : List (SocketAddr × PeerState F)) (count : ℕ) (lines : List ℕ) → GoneOver es now count lines → length es ≤ count → HadTurns seen finishes second is_over es now lines
  gone_over es now count lines g h = let many = g.as_many in emptied g.front g.behind g.kept es now lines g.those (omega arith) g.now_is g.had

module _ {F : Type 0} (seen : F → FilesView) (finishes : F → FileReport → FilesEnd → Type 0) (since : ℕ) where
  -- so many are gone
  pub record EndedBehind (es now : List (SocketAddr × PeerState F)) (count : ℕ) (lines : List ℕ) : Type 0 where
    pub gone : List (SocketAddr × PeerState F)
    pub those : es ≡ now ++ gone
    pub as_many : length gone ≡ count
    pub are_silent : AreSilent seen finishes since gone lines

  pub none_ended : (es : List (SocketAddr × PeerState F)) → EndedBehind es es 0 []
  none_ended es = record { gone = []; those = sym (append-nil es); as_many = refl; are_silent = refl }

  -- a list with its last one
  pub cut_last : (es : List (SocketAddr × PeerState F)) (e : SocketAddr × PeerState F) → last_entry es ≡ Some e → es ≡ take (length es - 1) es ++ e ∷ []
  cut_last [] e h = absurd cc
  cut_last (x ∷ xs) e h =
      let cut = cut_end (x ∷ xs) (omega arith) in
      let ends = last_of_push cut.0 cut.1 in
      let found : Some e ≡ Some cut.1 = sym h ∙ ap last_entry cut.2 ∙ ends.0 in
      let same : cut.1 ≡ e = cc in
      let rest : take (length (x ∷ xs) - 1) (x ∷ xs) ≡ cut.0 = ap (λ (l : List (SocketAddr × PeerState F)). take (length l - 1) l) cut.2 ∙ ends.1 in
      cut.2 ∙ ap (λ (l : List (SocketAddr × PeerState F)). l ++ cut.1 ∷ []) (sym rest) ∙ ap (λ (y : SocketAddr × PeerState F). take (length (x ∷ xs) - 1) (x ∷ xs) ++ y ∷ []) same

  pub one_ended : (es now after : List (SocketAddr × PeerState F)) (count : ℕ) (lines own : List ℕ) → EndedBehind es now count lines → EndsOneSilent seen finishes since now after own → EndedBehind es after (count + 1) (lines ++ own)
  one_ended es now after count lines own g s =
      let many = g.as_many in
      let now_is : now ≡ after ++ s.gone ∷ [] = cut_last now s.gone s.last ∙ ap (λ (l : List (SocketAddr × PeerState F)). l ++ s.gone ∷ []) (sym s.others) in
      record {
        gone = s.gone ∷ g.gone;
        those = g.those ∙ ap (λ (l : List (SocketAddr × PeerState F)). l ++ g.gone) now_is ∙ append_assoc after (s.gone ∷ []) g.gone;
        as_many = omega arith;
        are_silent = (lines, own, g.are_silent, s.is_silent, refl);
      }

  pub ended_all : (es now : List (SocketAddr × PeerState F)) (count : ℕ) (lines : List ℕ) → EndedBehind es now count lines → length es ≤ count → EndsSilent seen finishes since es now lines
  ended_all es [] count lines g h = record { gone = g.gone; those = g.those; heard = tt; are_silent = g.are_silent }
  ended_all es (x ∷ xs) count lines g h = let many = g.as_many in let long : length es ≡ length (x ∷ xs) + length g.gone = ap length g.those ∙ length-append (x ∷ xs) g.gone in absurd (omega arith)
