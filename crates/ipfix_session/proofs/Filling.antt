-- Filling a buffer up to a whole message.
use Rattle.std.proofs.Common.{◌≡◌, ℕ, ◌+◌, ◌<◌, ◌≤◌, ltb, List, [], ◌∷◌, ◌++◌, length, take, drop, Result, Ok, Err, refl, sym, ap, subst, ◌∙◌, append_assoc, arith, inl, inr}
use Rattle.std.specs.Prelude.{◌⊎◌, Bool, true, false, IfOk}
use Rattle.std.proofs.lemmas.List.{length-append, length-drop}
use Rattle.std.proofs.lemmas.Bool.{ltb-false, ltb-true, le-ltb, lt-ltb}
use Rattle.ipfix_wire.specs.MessageHeader.{header_at}
use Rattle.ipfix_wire.specs.declared.header.Header.{Header}
use Rattle.ipfix_wire.specs.declared.fault.WireFault.{WireFault}
use Rattle.ipfix_wire.proofs.Headers.{header_at-append, read, header_is_good}
use Rattle.ipfix_message.specs.Faults.{fault_of}
use Rattle.ipfix_message.specs.declared.fault.MessageFault.{MessageFault}
use Rattle.ipfix_wire.proofs.Choices.{chosen}
use Rattle.ipfix_session.specs.declared.stop.Stop.{Stop}
use Rattle.ipfix_session.specs.declared.stop.Stop.TheVariants.{Fault}
use Rattle.ipfix_session.specs.MessageStream.{rest_stop, message_under, next_message}
use Rattle.ipfix_session.specs.Given.{IsOpen}
use Rattle.ipfix_session.specs.Buffers.{IsRest, Moves, MovesUpTo, IsFilled, Fills}
use Rattle.ipfix_session.proofs.Cut.{Begins, found, none_at, next_stop, next_bad, begins_next, bad_goes_on, messages_stable}

-- a rest is less than a header, or less than its header says
pub record IsShort (w : List ℕ) : Type 0 where
  pub long : 16 ≤ length w
  pub header : Header
  pub is_header : header_at w ≡ read header
  pub less : length w < header.length

short_under : (w : List ℕ) (h : Result Header WireFault) (s : Stop) → header_at w ≡ h → 16 ≤ length w → message_under w h ≡ none_at s → IsOpen s → IsShort w
short_under w (Err e) s is long q is_open =
    let bad = next_bad w (fault_of e) (record { wire = e; long = long; header = is; is = refl }) in
    let same : rest_stop w ≡ Fault (fault_of e) = next_stop w (Fault (fault_of e)) bad in
    let stop : rest_stop w ≡ s = cc in
    absurd (subst IsOpen (sym stop ∙ same) is_open)
short_under w (Ok h) s is long q is_open =
    elim (chosen (ltb (length w) h.length) (none_at (rest_stop w)) (found (take h.length w) (drop h.length w)) (none_at s) q) [
      | inl t ↦ record { long = long; header = h; is_header = is; less = ltb-true (length w) h.length t.0 }
      | inr f ↦ absurd cc
    ]

pub rest_is_short : (w : List ℕ) → IsRest w → (length w < 16) ⊎ IsShort w
unfolding next_message
rest_is_short w rest =
    elim (chosen (ltb (length w) 16) (none_at (rest_stop w)) (message_under w (header_at w)) (none_at rest.stop) rest.none) [
      | inl t ↦ inl (ltb-true (length w) 16 t.0)
      | inr f ↦ inr (short_under w (header_at w) rest.stop refl (ltb-false (length w) 16 f.0) f.1 rest.is_open)
    ]

-- ---- filling a buffer

empty : (w : List ℕ) → (0 < length w → ⊥) → w ≡ []
empty [] none = refl
empty (x ∷ w) none = absurd (none (omega arith))

none_left : (size : ℕ) (old new piece left : List ℕ) → MovesUpTo size old new piece left → length new < size → left ≡ []
none_left size old new piece left up less = empty left (λ some. let e = up.enough some in omega arith)

-- less than a header
next_few : (w : List ℕ) → length w < 16 → next_message w ≡ none_at (rest_stop w)
unfolding next_message
next_few w less = rw (lt-ltb (length w) 16 less) refl

-- less than its header says
next_less : (w : List ℕ) (h : Header) → 16 ≤ length w → header_at w ≡ read h → length w < h.length → next_message w ≡ none_at (rest_stop w)
unfolding next_message
next_less w h long is less = rw (le-ltb (length w) 16 long, is, lt-ltb (length w) h.length less) refl

filled_none : (w left : List ℕ) (s : Stop) → next_message w ≡ none_at s → left ≡ [] → IsFilled (next_message w) left
filled_none w left s none e = let P : Result (List ℕ × List ℕ) Stop → Type 0 = λ r. IsFilled r left in subst P (sym none) (λ o. e)

pub fills_few : (old new piece left : List ℕ) → MovesUpTo 16 old new piece left → length new < 16 → Fills old new piece left
fills_few old new piece left up less =
    record { moves = up.moves; filled = filled_none new left (rest_stop new) (next_few new less) (none_left 16 old new piece left up less) }

pub fills_bad : (old new piece left : List ℕ) (e : WireFault) → MovesUpTo 16 old new piece left → 16 ≤ length new → header_at new ≡ Err e → Fills old new piece left
fills_bad old new piece left e up long is =
    let bad = next_bad new (fault_of e) (record { wire = e; long = long; header = is; is = refl }) in
    let P : Result (List ℕ × List ℕ) Stop → Type 0 = λ r. IsFilled r left in
    record { moves = up.moves; filled = subst P (sym bad) (λ o. absurd o) }

moves_twice : (old mid new piece left rest : List ℕ) → Moves old mid piece left → Moves mid new left rest → Moves old new piece rest
moves_twice old mid new piece left rest a b =
    record {
      moved = a.moved ++ b.moved;
      new_is = b.new_is ∙ ap (λ (w : List ℕ). w ++ b.moved) a.new_is ∙ append_assoc old a.moved b.moved;
      piece_is = a.piece_is ∙ ap (λ (w : List ℕ). a.moved ++ w) b.piece_is ∙ sym (append_assoc a.moved b.moved rest);
    }

-- the same header, however the text goes on
header_on : (w more new : List ℕ) (h : Header) → new ≡ w ++ more → 16 ≤ length w → header_at w ≡ read h → header_at new ≡ read h
header_on w more new h e long is = ap header_at e ∙ header_at-append w more long ∙ is

header_same : (h k : Header) → read h ≡ read k → h ≡ k
header_same h k e = cc

within : (old mid piece left : List ℕ) (h : Header) → IsRest old → MovesUpTo 16 old mid piece left → header_at mid ≡ read h → length mid ≤ h.length
within old mid piece left h rest up is =
    let good = header_is_good mid h is in
    elim (rest_is_short old rest) [
      | inl few ↦ omega (arith, up.at_most, good.covers)
      | inr s ↦
          let same : s.header ≡ h = header_same s.header h (sym (header_on old up.moves.moved mid s.header up.moves.new_is s.long s.is_header) ∙ is) in
          let size : s.header.length ≡ h.length = ap (λ (k : Header). k.length) same in
          omega (arith, up.at_most, s.long, s.less)
    ]

filled_by : (new rest : List ℕ) (h : Header) → 16 ≤ length new → header_at new ≡ read h → length new ≤ h.length → (length new < h.length → rest ≡ []) → (b : Bool) → ltb (length new) h.length ≡ b
    → IsFilled (next_message new) rest
filled_by new rest h long is most none true e =
    let less = ltb-true (length new) h.length e in
    filled_none new rest (rest_stop new) (next_less new h long is less) (none less)
filled_by new rest h long is most none false e =
    let room = ltb-false (length new) h.length e in
    let begins : Begins new (take h.length new) (drop h.length new) = record { header = h; long = long; is_header = is; room = room; message = refl; rest = refl } in
    let P : Result (List ℕ × List ℕ) Stop → Type 0 = λ r. IsFilled r rest in
    subst P (sym (begins_next new (take h.length new) (drop h.length new) begins))
    (empty (drop h.length new) (λ some. let n = length-drop h.length new in omega arith))

pub fills_on : (old mid new piece left rest : List ℕ) (h : Header) → IsRest old → MovesUpTo 16 old mid piece left → 16 ≤ length mid → header_at mid ≡ read h → MovesUpTo h.length mid new left rest
    → Fills old new piece rest
fills_on old mid new piece left rest h is_rest first long is second =
    let fits = within old mid piece left h is_rest first is in
    let grown : length new ≡ length mid + length second.moves.moved = ap length second.moves.new_is ∙ length-append mid second.moves.moved in
    record {
      moves = moves_twice old mid new piece left rest first.moves second.moves;
      filled = filled_by new rest h (omega arith) (header_on mid second.moves.moved new h second.moves.new_is long is) (omega (arith, second.at_most))
          (λ less. none_left h.length mid new left rest second less) (ltb (length new) h.length) refl;
    }

pub fills_result : {A E : Type 0} (now : A → List ℕ) (r : Result A E) (size : ℕ) (old mid new piece left : List ℕ) (h : Header) → IsRest old → MovesUpTo 16 old mid piece left → 16 ≤ length mid → header_at mid ≡ read h
    → size ≡ h.length → IfOk r (λ x. MovesUpTo size mid new left (now x)) → IfOk r (λ x. Fills old new piece (now x))
fills_result now (Ok x) size old mid new piece left h rest first long is e second =
    fills_on old mid new piece left (now x) h rest first long is (subst (λ (n : ℕ). MovesUpTo n mid new left (now x)) e second)
fills_result now (Err f) size old mid new piece left h rest first long is e second = tt

-- ---- a buffer and what is left of the piece

pub refilled : (old new piece left : List ℕ) → Moves old new piece left → old ++ piece ≡ new ++ left
refilled old new piece left m =
    ap (λ (w : List ℕ). old ++ w) m.piece_is ∙ sym (append_assoc old m.moved left) ∙ ap (λ (w : List ℕ). w ++ left) (sym m.new_is)

pub begins_whole : (new left m r : List ℕ) → next_message new ≡ found m r → IsFilled (next_message new) left → next_message (new ++ left) ≡ found m left
begins_whole new left m r e filled =
    let P : Result (List ℕ × List ℕ) Stop → Type 0 = λ x. IsFilled x left in
    let none : r ≡ [] = subst P e filled in
    messages_stable.same new m r left e ∙ ap (λ (w : List ℕ). found m (w ++ left)) none

pub stops_whole : (new left : List ℕ) (e : MessageFault) → next_message new ≡ none_at (Fault e) → next_message (new ++ left) ≡ none_at (Fault e)
stops_whole new left e h = bad_goes_on new left e (next_stop new (Fault e) h)
