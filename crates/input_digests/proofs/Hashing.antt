-- What a source gave while it was hashed, read by read.
use Rattle.std.proofs.Common.{◌≡◌, ℕ, zero, suc, ◌+◌, ◌<◌, ◌≤◌, List, [], ◌∷◌, ◌++◌, length, take, refl, ap, ◌∙◌, arith, inl, inr}
use Rattle.std.specs.Prelude.{◌⊎◌, ◌||◌, ◌==◌, All, Bool, true, false, Option, Result, Ok, Err, OnOk, is_err, max}
use Rattle.std.specs.declared.alloc.AllocError.{AllocError}
use Rattle.std.specs.Io.KnownBytes.{Consumes, Keeps}
use Rattle.std.proofs.KnownBytes.{Consumes-trans, Consumes-kept}
use Rattle.std.proofs.lemmas.List.{length-append}
use Rattle.std.proofs.lemmas.List.Elements.{All-append}
use Rattle.ipfix_wire.specs.InTurn.{Parts}
use Rattle.ipfix_wire.proofs.Parts.{cases_read, parts_of-next, parts_of-none}
use Rattle.ipfix_wire.proofs.Streams.{parts_of-append}
use Rattle.ipfix_session.specs.MessageCounts.{CounterView}
use Rattle.ipfix_session.specs.MessageCounts as counts
use Rattle.ipfix_session.specs.MessageStream.{cut, next_message}
use Rattle.ipfix_session.specs.Sources.{SourceView, IsRead, tells_end}
use Rattle.ipfix_session.specs.WholeMessages.{whole_octets}
use Rattle.ipfix_session.proofs.Cut.{messages_shrink, messages_stable}
use Rattle.ipfix_session.proofs.Driving.{told_end}
use Rattle.input_digests.specs.declared.front_digest.FrontDigest.{FrontDigest}
use Rattle.input_digests.specs.FrontDigests.{HasRead}
use Rattle.input_digests.specs.HashedTexts.{HasHashed}

-- what follows the whole messages of a text is no longer than it
rest_fits : (fuel : ℕ) (w : List ℕ) → length w < fuel → length (cut w).rest ≤ length w
rest_fits zero w enough = absurd (omega (arith, enough))
rest_fits (suc fuel) w enough =
    elim (cases_read (next_message w)) [
      | inl found ↦
          let less = messages_shrink.less w found.0.0 found.0.1 found.1 in
          let is = ap (λ (p : Parts (List ℕ)). length p.rest) (parts_of-next next_message messages_shrink w found.0.0 found.0.1 found.1) in
          let later = rest_fits fuel found.0.1 (omega (arith, less, enough)) in
          omega (arith, is, later, less)
      | inr stop ↦ omega (arith, ap (λ (p : Parts (List ℕ)). length p.rest) (parts_of-none next_message w stop.0 stop.1))
    ]

rest-le : (w : List ℕ) → length (cut w).rest ≤ length w
rest-le w = rest_fits (length w + 1) w (omega arith)

-- a text that goes on has no fewer whole messages
whole_on : (text piece : List ℕ) → whole_octets text ≤ whole_octets (text ++ piece)
whole_on text piece =
    let rest = (cut text).rest ++ piece in
    let is = ap (λ (p : Parts (List ℕ)). length p.rest) (parts_of-append next_message messages_shrink messages_stable (length text) text piece (omega arith)) in
    omega (arith, is, rest-le text, rest-le rest, length-append text piece, length-append (cut text).rest piece)

-- ---- reads

or_true : (a b : Bool) → a ≡ true → (a || b) ≡ true
or_true a b is = ap (λ (x : Bool). x || b) is

or_false : (a : Bool) → (a || false) ≡ a
or_false true = refl
or_false false = refl

neither : (a b : Bool) → (a || b) ≡ false → (a ≡ false) × (b ≡ false)
neither true b none = absurd cc
neither false b none = (refl, none)

has_room : (buffer : List ℕ) → false ≡ (length buffer == 0) → 0 < length buffer
has_room [] room = absurd cc
has_room (b ∷ bs) room = omega arith

-- a read that gave nothing, with room for some, shows the end
pub shows_end : (now after : Bool) (count : ℕ) (buffer : List ℕ) → after ≡ (now || tells_end (Ok count) buffer) → count ≤ 0 → false ≡ (length buffer == 0) → after ≡ true
shows_end now after count buffer is none room = told_end now after count buffer is (omega (arith, none)) (has_room buffer room)

-- a read that gave nothing
pub hashed_kept : (digest : FrontDigest) (messages : CounterView) (start : Option (List ℕ)) (now after : SourceView) → HasHashed digest messages start now → Keeps now.text after.text → after.ended ≡ (now.ended || false)
    → HasHashed digest messages start after
hashed_kept digest messages start now after h kept end =
    record {
      gave = h.gave;
      octets = h.octets;
      given = Consumes-kept start now.text after.text h.gave h.given kept;
      counted = h.counted;
      sure = h.sure;
      read = h.read;
      settled = by_end h.settled;
    }
  where
    by_end : (h.sure ≡ 0) ⊎ ((now.ended ≡ true) × (h.sure ≤ whole_octets h.gave)) → (h.sure ≡ 0) ⊎ ((after.ended ≡ true) × (h.sure ≤ whole_octets h.gave))
    by_end (inl none) = inl none
    by_end (inr some) = inr (end ∙ or_false now.ended ∙ some.0, some.1)

-- a read that gave a piece
pub hashed_on : (digest later : FrontDigest) (messages counted : CounterView) (start : Option (List ℕ)) (now after : SourceView) (piece : List ℕ) → HasHashed digest messages start now → Consumes now.text after.text piece
    → (now.ended ≡ true → after.ended ≡ true) → All (λ octet. octet < 256) piece
    → ((text : List ℕ) → counts.HasRead messages text → counts.HasRead counted (text ++ piece))
    → ((sure : ℕ) (text : List ℕ) → HasRead digest sure text → HasRead later sure (text ++ piece)) → HasHashed later counted start after
hashed_on digest later messages counted start now after piece h moved ended octets counts_on on =
    record {
      gave = h.gave ++ piece;
      octets = All-append (λ (octet : ℕ). octet < 256) h.gave piece h.octets octets;
      given = Consumes-trans start now.text after.text h.gave piece h.given moved;
      counted = counts_on h.gave h.counted;
      sure = h.sure;
      read = on h.sure h.gave h.read;
      settled = by_end h.settled;
    }
  where
    by_end : (h.sure ≡ 0) ⊎ ((now.ended ≡ true) × (h.sure ≤ whole_octets h.gave)) → (h.sure ≡ 0) ⊎ ((after.ended ≡ true) × (h.sure ≤ whole_octets (h.gave ++ piece)))
    by_end (inl none) = inl none
    by_end (inr some) = inr (ended some.0, omega (arith, some.1, whole_on h.gave piece))

-- the same unless memory was refused, by the source's read
pub read_on : (lost : Bool) (digest later : FrontDigest) (refused : Bool) (read : Result (Unit {0}) AllocError) (messages counted : CounterView) (start : Option (List ℕ)) (now after : SourceView) (count : ℕ) (buffer : List ℕ)
    → (lost ≡ false → HasHashed digest messages start now) → IsRead now (Ok count) after buffer → All (λ octet. octet < 256) (take count buffer)
    → ((text : List ℕ) → counts.HasRead messages text → counts.HasRead counted (text ++ take count buffer))
    → OnOk read ((sure : ℕ) (text : List ℕ) → HasRead digest sure text → HasRead later sure (text ++ take count buffer)) → refused ≡ is_err read
    → (lost || refused) ≡ false → HasHashed later counted start after
read_on lost digest later refused (Err e) messages counted start now after count buffer h r octets counts_on on is none = let kept = (neither lost refused none).1 in absurd cc
read_on lost digest later refused (Ok u) messages counted start now after count buffer h r octets counts_on on is none =
    hashed_on digest later messages counted start now after (take count buffer) (h (neither lost refused none).0) r.moved (λ ended. r.end ∙ or_true now.ended (tells_end (Ok count) buffer) ended) octets counts_on on

-- after its end the whole messages are known to count
pub hashed_all : (digest later : FrontDigest) (messages : CounterView) (start : Option (List ℕ)) (now : SourceView) (octets : ℕ) → HasHashed digest messages start now → now.ended ≡ true → octets ≡ messages.octets
    → ((sure : ℕ) (text : List ℕ) → HasRead digest sure text → HasRead later (max sure octets) text) → HasHashed later messages start now
hashed_all digest later messages start now octets h ended is settles =
    record {
      gave = h.gave;
      octets = h.octets;
      given = h.given;
      counted = h.counted;
      sure = max h.sure octets;
      read = settles h.sure h.gave h.read;
      settled = inr (ended, at_most h.settled);
    }
  where
    at_most : (h.sure ≡ 0) ⊎ ((now.ended ≡ true) × (h.sure ≤ whole_octets h.gave)) → max h.sure octets ≤ whole_octets h.gave
    at_most (inl none) = omega (arith, none, is, h.counted.counts.octets_are)
    at_most (inr some) = omega (arith, some.1, is, h.counted.counts.octets_are)
