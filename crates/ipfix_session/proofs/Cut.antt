-- Cutting a text into its messages.
use Rattle.std.proofs.Common.{◌≡◌, ℕ, ◌≤◌, ltb, List, [], ◌∷◌, ◌++◌, length, take, drop, Result, Ok, Err, refl, sym, ap, ◌∙◌, arith, inl, inr}
use Rattle.std.proofs.lemmas.List.{length-append, length-drop, length-take-le, take-append-drop, take_at, drop_at, take-append-le, drop-append-le}
use Rattle.std.proofs.lemmas.Bool.{ltb-false, le-ltb, eq-eqb}
use Rattle.ipfix_wire.specs.Numbers.{number_at}
use Rattle.ipfix_wire.specs.MessageHeader.{header_at}
use Rattle.ipfix_wire.specs.declared.header.Header.{Header}
use Rattle.ipfix_wire.specs.declared.fault.WireFault.{WireFault}
use Rattle.ipfix_wire.proofs.Parts.{Reads, Shrinks}
use Rattle.ipfix_wire.proofs.Streams.{Stable}
use Rattle.ipfix_message.specs.Faults.{fault_of}
use Rattle.ipfix_message.specs.Domains.{message_header}
use Rattle.ipfix_message.specs.declared.fault.MessageFault.{MessageFault}
use Rattle.ipfix_wire.proofs.Choices.{chosen}
use Rattle.ipfix_session.specs.declared.stop.Stop.{Stop}
use Rattle.ipfix_session.specs.declared.stop.Stop.TheVariants.{Short, Fault}
use Rattle.ipfix_session.specs.MessageStream.{IsMessage, SpellsMessage, header_stop, rest_stop, message_under, next_message}
use Rattle.ipfix_wire.proofs.Headers.{number_at-append, header_at-append, read, header_is_good, header_in, good_is_read}

abbrev pub found : List ℕ → List ℕ → Result (List ℕ × List ℕ) Stop
found m r = Ok (m, r)

abbrev pub none_at : Stop → Result (List ℕ × List ℕ) Stop
none_at s = Err s

-- a text that begins with a message
pub record Begins (w m r : List ℕ) : Type 0 where
  pub header : Header
  pub long : 16 ≤ length w
  pub is_header : header_at w ≡ read header
  pub room : header.length ≤ length w
  pub message : take header.length w ≡ m
  pub rest : drop header.length w ≡ r

abbrev pair : List ℕ → List ℕ → List ℕ × List ℕ
pair m r = (m, r)

found_is : (a b m r : List ℕ) → found a b ≡ found m r → (a ≡ m) × (b ≡ r)
found_is a b m r e =
    let p : pair a b ≡ pair m r = cc in
    (ap (λ (x : List ℕ × List ℕ). x.0) p, ap (λ (x : List ℕ × List ℕ). x.1) p)

begins_under : (w m r : List ℕ) (h : Result Header WireFault) → header_at w ≡ h → 16 ≤ length w → message_under w h ≡ found m r → Begins w m r
begins_under w m r (Err e) is long q = absurd cc
begins_under w m r (Ok h) is long q =
    elim (chosen (ltb (length w) h.length) (none_at (rest_stop w)) (found (take h.length w) (drop h.length w)) (found m r) q) [
      | inl t ↦ absurd cc
      | inr f ↦
          let e = found_is (take h.length w) (drop h.length w) m r f.1 in
          record { header = h; long = long; is_header = is; room = ltb-false (length w) h.length f.0; message = e.0; rest = e.1 }
    ]

pub next_begins : (w m r : List ℕ) → next_message w ≡ found m r → Begins w m r
unfolding next_message
next_begins w m r e =
    elim (chosen (ltb (length w) 16) (none_at (rest_stop w)) (message_under w (header_at w)) (found m r) e) [
      | inl t ↦ absurd cc
      | inr f ↦ begins_under w m r (header_at w) refl (ltb-false (length w) 16 f.0) f.1
    ]

pub begins_next : (w m r : List ℕ) → Begins w m r → next_message w ≡ found m r
unfolding next_message
begins_next w m r b =
    rw (le-ltb (length w) 16 b.long, b.is_header, le-ltb (length w) b.header.length b.room, b.message, b.rest) refl

-- where a text begins with no message it stops
stop_under : (w : List ℕ) (h : Result Header WireFault) (s : Stop) → message_under w h ≡ none_at s → rest_stop w ≡ s
stop_under w (Err e) s q = cc
stop_under w (Ok h) s q =
    elim (chosen (ltb (length w) h.length) (none_at (rest_stop w)) (found (take h.length w) (drop h.length w)) (none_at s) q) [
      | inl t ↦ cc
      | inr f ↦ absurd cc
    ]

pub next_stop : (w : List ℕ) (s : Stop) → next_message w ≡ none_at s → rest_stop w ≡ s
unfolding next_message
next_stop w s e =
    elim (chosen (ltb (length w) 16) (none_at (rest_stop w)) (message_under w (header_at w)) (none_at s) e) [
      | inl t ↦ cc
      | inr f ↦ stop_under w (header_at w) s f.1
    ]

-- ---- what is read is the one way to cut

pub messages_shrink : Shrinks next_message
messages_shrink = record {
  less = λ w m r e.
      let b = next_begins w m r e in
      let good = header_is_good w b.header b.is_header in
      omega (arith, b.room, good.covers, ap length b.rest, length-drop b.header.length w);
}

message_is : (w m r : List ℕ) → Begins w m r → IsMessage m
message_is w m r b =
    let good = header_is_good w b.header b.is_header in
    let size : length m ≡ b.header.length = ap length (sym b.message) ∙ length-take-le b.header.length w b.room in
    let whole : m ++ r ≡ w = ap (λ (x : List ℕ). x ++ r) (sym b.message) ∙ ap (λ (y : List ℕ). take b.header.length w ++ y) (sym b.rest) ∙ take-append-drop b.header.length w in
    let enough : 16 ≤ length m = omega (arith, good.covers, size) in
    record {
      header = enough;
      version = sym (number_at-append 0 2 m r (omega arith)) ∙ ap (number_at 0 2) whole ∙ good.version;
      own_length = sym (number_at-append 2 2 m r (omega arith)) ∙ ap (number_at 2 2) whole ∙ good.size ∙ sym size;
    }

is_message_begins : (m r : List ℕ) → IsMessage m → Begins (m ++ r) m r
is_message_begins m r is =
    let long = length-append m r in
    let enough = is.header in
    let size : number_at 2 2 (m ++ r) ≡ length m = number_at-append 2 2 m r (omega arith) ∙ is.own_length in
    let version : number_at 0 2 (m ++ r) ≡ 10 = number_at-append 0 2 m r (omega arith) ∙ is.version in
    record {
      header = header_in (m ++ r);
      long = omega arith;
      is_header = good_is_read (m ++ r) version (omega (arith, size, enough));
      room = omega (arith, size, long);
      message = take_at m r (number_at 2 2 (m ++ r)) (sym size);
      rest = drop_at m r (number_at 2 2 (m ++ r)) (sym size);
    }

pub messages_read : Reads SpellsMessage next_message
messages_read = record {
  found = λ w m r fits e.
      let b = next_begins w m r e in
      record { text = m; whole = sym (take-append-drop b.header.length w) ∙ ap (λ (x : List ℕ). x ++ drop b.header.length w) b.message ∙ ap (λ (y : List ℕ). m ++ y) b.rest; is = (refl, message_is w m r b) };
  only = λ m u r spelled. ap (λ (x : List ℕ). next_message (x ++ r)) spelled.0 ∙ begins_next (m ++ r) m r (is_message_begins m r spelled.1);
}

-- the header that a text begins with is that of its first message
pub header_of_first : (w : List ℕ) (h : Header) → 16 ≤ length w → header_at w ≡ read h → h.length ≤ length w → message_header (take h.length w) ≡ Ok h
unfolding message_header
header_of_first w h long is room =
    let m = take h.length w in
    let r = drop h.length w in
    let message = message_is w m r (record { header = h; long = long; is_header = is; room = room; message = refl; rest = refl }) in
    let size : length m ≡ h.length = length-take-le h.length w room in
    let here : header_at m ≡ read h = sym (header_at-append m r message.header) ∙ ap header_at (take-append-drop h.length w) ∙ is in
    rw (le-ltb (length m) 16 message.header, here, eq-eqb h.length (length m) (sym size)) refl

-- ---- a text that goes on

pub messages_stable : Stable next_message
messages_stable = record {
  same = λ w m r y e.
      let b = next_begins w m r e in
      let long = length-append w y in
      begins_next (w ++ y) m (r ++ y) (record {
        header = b.header;
        long = omega (arith, b.long, long);
        is_header = header_at-append w y b.long ∙ b.is_header;
        room = omega (arith, b.room, long);
        message = take-append-le b.header.length w y b.room ∙ b.message;
        rest = drop-append-le b.header.length w y b.room ∙ ap (λ (x : List ℕ). x ++ y) b.rest;
      });
}

-- a whole header that is bad
pub record Bad (w : List ℕ) (e : MessageFault) : Type 0 where
  pub wire : WireFault
  pub long : 16 ≤ length w
  pub header : header_at w ≡ Err wire
  pub is : fault_of wire ≡ e

bad_under : (w : List ℕ) (h : Result Header WireFault) (e : MessageFault) → header_at w ≡ h → 16 ≤ length w → header_stop h ≡ Fault e → Bad w e
bad_under w (Err wire) e is long q = record { wire = wire; long = long; header = is; is = cc }
bad_under w (Ok h) e is long q = absurd cc

bad_rest : (w : List ℕ) (e : MessageFault) → rest_stop w ≡ Fault e → Bad w e
bad_rest [] e q = absurd cc
bad_rest (b ∷ w) e q =
    elim (chosen (ltb (length (b ∷ w)) 16) Short (header_stop (header_at (b ∷ w))) (Fault e) q) [
      | inl t ↦ absurd cc
      | inr f ↦ bad_under (b ∷ w) (header_at (b ∷ w)) e refl (ltb-false (length (b ∷ w)) 16 f.0) f.1
    ]

rest_bad : (w : List ℕ) (e : MessageFault) → Bad w e → rest_stop w ≡ Fault e
rest_bad [] e bad = absurd (omega (arith, bad.long))
rest_bad (b ∷ w) e bad = rw (le-ltb (length (b ∷ w)) 16 bad.long, bad.header, bad.is) refl

pub next_bad : (w : List ℕ) (e : MessageFault) → Bad w e → next_message w ≡ none_at (Fault e)
unfolding next_message
next_bad w e bad = rw (le-ltb (length w) 16 bad.long, bad.header) (ap none_at (rest_bad w e bad))

-- a rest with a fault has it however the text goes on
pub bad_goes_on : (w y : List ℕ) (e : MessageFault) → rest_stop w ≡ Fault e → next_message (w ++ y) ≡ none_at (Fault e)
bad_goes_on w y e q =
    let bad = bad_rest w e q in
    next_bad (w ++ y) e (record { wire = bad.wire; long = omega (arith, bad.long, length-append w y); header = header_at-append w y bad.long ∙ bad.header; is = bad.is })
