-- Rounds one after another.
use Rattle.std.proofs.Common.{◌≡◌, ℕ, ◌+◌, List, [], ◌∷◌, ◌++◌, Result, Ok, refl, sym, ap, ◌∙◌, subst, arith, length-append, append-nil, append_assoc}
use Rattle.std.specs.Result.{result_and}
use Rattle.report_writing.specs.Lines.{LinesView}
use Rattle.report_writing.specs.Writing.{Tells}
use Rattle.std.proofs.lemmas.Grind.{flat_map-append}
use Rattle.std.proofs.lemmas.List.{map-append}
use Rattle.std.specs.declared.net.socket_addr.SocketAddr.{SocketAddr}
use Rattle.recording_files.specs.Files.{FilesView}
use Rattle.recording_files.specs.Periods.{ClockView}
use Rattle.recording_files.specs.declared.file_report.FileReport.{FileReport}
use Rattle.recording_folder.specs.declared.session_files.FilesEnd.{FilesEnd}
use Rattle.recording_peers.specs.Answers.{Answer, Gives, answer_of}
use Rattle.recording_peers.specs.declared.datagram_source.Datagram.{Datagram}
use Rattle.recording_peers.specs.declared.datagram_source.NoDatagram.{NoDatagram}
use Rattle.ipfix_session.specs.Sources.{one_more}
use Rattle.recording_connections.specs.declared.shared_counts.SharedCounts.{SharedCounts}
use Rattle.recording_datagrams.specs.Rounds.{Round, one_not_received, answer_in, answers_of, lines_of, IsRound, AreRounds, TakesRound, TakesRounds}
use Rattle.recording_datagrams.specs.declared.datagram_taker.DatagramTaker.{DatagramTaker}
use Rattle.recording_datagrams.proofs.Told.{and_tells, tells_nothing}

-- ---- what the source answered

module _ {D : Type 0} (answered : D → List Answer → Type 0) where
  gives_none : (source : D) → Gives answered [] source source
  gives_none source before h = subst (λ l. answered source l) (sym (append-nil before)) h

  gives_both : (these those : List Answer) (old mid new : D) → Gives answered these old mid → Gives answered those mid new → Gives answered (these ++ those) old new
  gives_both these those old mid new g h before k = subst (λ l. answered new l) (append_assoc before these those) (h (before ++ these) (g before k))

-- what was received is that answer
pub so_answered : (received this : Result Datagram NoDatagram) (buffer : List ℕ) → received ≡ this → answer_of this buffer ≡ answer_of received buffer
so_answered received this buffer is = ap (λ (r : Result Datagram NoDatagram). answer_of r buffer) (sym is)

answers-push : (rs : List Round) (r : Round) → answers_of (rs ++ r ∷ []) ≡ answers_of rs ++ answer_in r.given ∷ []
answers-push rs r = map-append (λ (x : Round). answer_in x.given) rs (r ∷ [])

lines-push : (rs : List Round) (r : Round) → lines_of (rs ++ r ∷ []) ≡ lines_of rs ++ r.lines
lines-push rs r = flat_map-append (λ (x : Round). x.lines) rs (r ∷ []) ∙ ap (λ l. lines_of rs ++ l) (append-nil r.lines)

-- ---- what they did

module _ {F P W : Type 0} (seen : F → FilesView) (finishes : F → FileReport → FilesEnd → Type 0) (made_for : F → SocketAddr → Type 0) (asked : P → ClockView) where
  rounds-push : (rs : List Round) (r : Round) (old mid new : DatagramTaker F P W) → AreRounds seen finishes made_for asked rs old mid → IsRound seen finishes made_for asked r mid new → AreRounds seen finishes made_for asked (rs ++ r ∷ []) old new
  rounds-push [] r old mid new are is = (new, subst (λ (x : DatagramTaker F P W). IsRound seen finishes made_for asked r x new) are is, refl)
  rounds-push (q ∷ rs) r old mid new are is = (are.0, are.1, rounds-push rs r are.0 mid new are.2 is)

  pub no_rounds : {D A : Type 0} (answered : D → List Answer → Type 0) (out_lines : W → LinesView) (source : D) (old : DatagramTaker F P W) → TakesRounds seen finishes made_for asked {A = A} answered out_lines 0 source source old old (Ok tt)
  no_rounds answered out_lines source old = record { rounds = []; as_many = refl; are = refl; given = gives_none answered source; told = tells_nothing }

  pub one_more_round : {D A : Type 0} (answered : D → List Answer → Type 0) (out_lines : W → LinesView) (count : ℕ) (before between after : D) (old mid new : DatagramTaker F P W) (told answer : Result (Unit {0}) A)
      → TakesRounds seen finishes made_for asked answered out_lines count before between old mid told → TakesRound seen finishes made_for asked answered out_lines between after mid new answer
      → TakesRounds seen finishes made_for asked answered out_lines (count + 1) before after old new (result_and told answer)
  one_more_round answered out_lines count before between after old mid new told answer rs r =
      let many = rs.as_many in
      record {
        rounds = rs.rounds ++ r.round ∷ [];
        as_many = omega (arith, length-append rs.rounds (r.round ∷ []));
        are = rounds-push rs.rounds r.round old mid new rs.are r.is;
        given = subst (λ (l : List Answer). Gives answered l before after) (sym (answers-push rs.rounds r.round))
            (gives_both answered (answers_of rs.rounds) (answer_in r.round.given ∷ []) before between after rs.given r.given);
        told = subst (λ (l : List ℕ). Tells out_lines old.out new.out (result_and told answer) l) (sym (lines-push rs.rounds r.round))
            (and_tells rs.told r.told);
      }

-- a failure is counted
pub counted_so : {F P W : Type 0} (old : DatagramTaker F P W) (shared : SharedCounts) → shared.not_accepted ≡ one_more old.unserved.not_accepted → shared.sessions ≡ old.unserved.sessions → shared.refused ≡ old.unserved.refused
    → (record old { unserved = shared }) ≡ record old { unserved = one_not_received old.unserved }
counted_so old shared n s r = λ i. record old { unserved = record { sessions = s i; refused = r i; not_accepted = n i } }
