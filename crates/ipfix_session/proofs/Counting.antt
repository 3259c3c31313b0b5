-- Counting the messages of a text that is read in pieces.
use Rattle.std.proofs.Common.{◌≡◌, ℕ, ◌+◌, ◌<◌, List, [], ◌∷◌, ◌++◌, length, sym, ap, subst, ◌∙◌, append_assoc, arith, inl, inr}
use Rattle.std.proofs.lemmas.List.{length-append, append-nil, take_all, drop_all}
use Rattle.ipfix_wire.specs.InTurn.{Parts}
use Rattle.ipfix_wire.specs.declared.header.TheConstants.{HEADER_LENGTH}
use Rattle.ipfix_wire.proofs.Headers.{header_at-append, read}
use Rattle.ipfix_wire.proofs.Parts.{cons, nothing, cases_read, parts_of-next, parts_of-none}
use Rattle.ipfix_wire.proofs.Streams.{join, parts_of-append}
use Rattle.ipfix_session.specs.MessageStream.{cut, next_message}
use Rattle.ipfix_session.specs.Ledger.{capped}
use Rattle.ipfix_session.proofs.Cut.{Begins, next_begins, begins_next, messages_shrink, messages_stable}
use Rattle.ipfix_session.specs.MessageCounts.{whole_messages, PlaceView, within_header, within_message, at_fault, IsWithinHeader, IsWithinMessage, IsAtFault, EndsAt, CounterView, CountsWhole, HasRead}
use Rattle.ipfix_session.specs.WholeMessages.{whole_octets}
use Rattle.ipfix_session.proofs.WholeTexts.{rest-le}
use Rattle.ipfix_session.specs.CounterPlaces.{ReadsOn}

-- what follows the whole messages of a text that goes on
abbrev pub going_on : List ℕ → List ℕ → List ℕ
going_on text part = (cut text).rest ++ part

cut-append : (text part : List ℕ) → cut (text ++ part) ≡ join (cut text).items (cut (going_on text part))
cut-append text part = parts_of-append next_message messages_shrink messages_stable (length text) text part (omega arith)

-- ---- octets that no message begins

abbrev NoneBegins : List ℕ → Type 0
NoneBegins w = (m r : List ℕ) → Begins w m r → ⊥

cut-none : (w : List ℕ) → NoneBegins w → cut w ≡ nothing w
cut-none w none =
    elim (cases_read (next_message w)) [
      | inl found ↦ absurd (none found.0.0 found.0.1 (next_begins w found.0.0 found.0.1 found.1))
      | inr stop ↦ parts_of-none next_message w stop.0 stop.1
    ]

few_begin_none : (w : List ℕ) → length w < 16 → NoneBegins w
few_begin_none w few = λ m r b. omega (arith, b.long)

within_begins_none : (size left : ℕ) (w : List ℕ) → IsWithinMessage size left w → 0 < left → NoneBegins w
within_begins_none size left w within more = λ m r b.
    let same : read within.header ≡ read b.header = sym within.is_header ∙ b.is_header in
    let size : within.header.length ≡ b.header.length = cc in
    omega (arith, within.length_is, b.room)

faulty_begins_none : (w : List ℕ) → IsAtFault w → NoneBegins w
faulty_begins_none w faulty = λ m r b. let e = sym faulty.is_fault ∙ b.is_header in absurd cc

-- they are read, and the counts stay
reads_none : (c : CounterView) (text part : List ℕ) → CountsWhole c.messages c.octets text → NoneBegins (going_on text part) → EndsAt c.place (going_on text part) → HasRead c (text ++ part)
reads_none c text part counts none place =
    let is : cut (text ++ part) ≡ join (cut text).items (nothing (going_on text part)) = cut-append text part ∙ ap (join (cut text).items) (cut-none (going_on text part) none) in
    let same : whole_messages (text ++ part) ≡ whole_messages text = ap (λ (p : Parts (List ℕ)). length p.items) is ∙ ap length (append-nil (cut text).items) in
    let octets : whole_octets (text ++ part) ≡ whole_octets text =
    omega (arith, ap (λ (p : Parts (List ℕ)). length p.rest) is, length-append text part, length-append (cut text).rest part) in
    record {
      counts = record { messages_are = counts.messages_are ∙ ap capped (sym same); octets_are = counts.octets_are ∙ ap capped (sym octets) };
      place = subst (λ (p : Parts (List ℕ)). EndsAt c.place p.rest) (sym is) place;
    }

-- ---- the last octets of a message

cut-one : (size : ℕ) (w : List ℕ) → IsWithinMessage size 0 w → cut w ≡ cons w (nothing [])
cut-one size w within =
    let begins : Begins w w [] = record {
      header = within.header;
      long = within.long;
      is_header = within.is_header;
      room = omega (arith, within.length_is);
      message = take_all within.header.length w (omega (arith, within.length_is));
      rest = drop_all within.header.length w (omega (arith, within.length_is));
    } in
    parts_of-next next_message messages_shrink w w [] (begins_next w w [] begins)
    ∙ ap (cons w) (cut-none [] (few_begin_none [] (omega arith)))

pub reads_one : (messages octets : ℕ) (new : CounterView) (size : ℕ) (text part : List ℕ) → CountsWhole messages octets text → new.messages ≡ capped (messages + 1) → new.octets ≡ capped (octets + size)
    → IsWithinMessage size 0 (going_on text part) → EndsAt new.place [] → HasRead new (text ++ part)
reads_one messages octets new size text part counts next grown within place =
    let w = going_on text part in
    let is : cut (text ++ part) ≡ join (cut text).items (cons w (nothing [])) = cut-append text part ∙ ap (join (cut text).items) (cut-one size w within) in
    let more : whole_messages (text ++ part) ≡ length ((cut text).items ++ w ∷ []) = ap (λ (p : Parts (List ℕ)). length p.items) is in
    let behind : whole_octets (text ++ part) ≡ whole_octets text + size = omega (
      arith,
      ap (λ (p : Parts (List ℕ)). length p.rest) is,
      length-append text part,
      length-append (cut text).rest part,
      rest-le text,
      within.size_is,
      within.length_is,
    ) in
    record {
      counts = record { messages_are = omega (arith, counts.messages_are, next, more, length-append (cut text).items (w ∷ [])); octets_are = omega (arith, counts.octets_are, grown, behind) };
      place = subst (λ (p : Parts (List ℕ)). EndsAt new.place p.rest) (sym is) place;
    }

-- ---- the place after a part

-- no octet of a header
pub none_begun : (begun : List ℕ) → begun ≡ [] → IsWithinHeader begun []
none_begun begun none = record { octets = sym none; short = omega (arith, ap length none) }

-- octets of a message that has more
pub reads_within : (c : CounterView) (size due : ℕ) (text part : List ℕ) → CountsWhole c.messages c.octets text → c.place ≡ within_message size due → 0 < due
    → IsWithinMessage size due (going_on text part) → HasRead c (text ++ part)
reads_within c size due text part counts at more within =
    reads_none c text part counts (within_begins_none size due (going_on text part) within more)
    (subst (λ (p : PlaceView). EndsAt p (going_on text part)) (sym at) within)

-- a header that no message has
pub reads_faulty : (c : CounterView) (text part : List ℕ) → CountsWhole c.messages c.octets text → c.place ≡ at_fault → IsAtFault (going_on text part) → HasRead c (text ++ part)
reads_faulty c text part counts at faulty =
    reads_none c text part counts (faulty_begins_none (going_on text part) faulty)
    (subst (λ (p : PlaceView). EndsAt p (going_on text part)) (sym at) faulty)

-- ---- from each place

pub goes_on_header : (c : CounterView) (begun more text part : List ℕ) → c.place ≡ within_header begun → more ≡ begun ++ part → length more < HEADER_LENGTH → HasRead c text
    → HasRead (record c { place = within_header more }) (text ++ part)
goes_on_header c begun more text part at grown few has =
    let begins : EndsAt (within_header begun) (cut text).rest = subst (λ (p : PlaceView). EndsAt p (cut text).rest) at has.place in
    let is : going_on text part ≡ more = ap (λ (w : List ℕ). w ++ part) begins.octets ∙ sym grown in
    reads_none (record c { place = within_header more }) text part has.counts
    (few_begin_none (going_on text part) (omega (arith, few, ap length is))) (record { octets = is; short = few })

within_on : (size before left : ℕ) (w part : List ℕ) → IsWithinMessage size before w → before ≡ length part + left → IsWithinMessage size left (w ++ part)
within_on size before left w part within is =
    record {
      header = within.header;
      long = omega (arith, within.long, length-append w part);
      is_header = header_at-append w part within.long ∙ within.is_header;
      size_is = within.size_is;
      length_is = omega (arith, within.length_is, is, length-append w part);
    }

pub goes_on_within : (c : CounterView) (size due left : ℕ) (text part : List ℕ) → c.place ≡ within_message size due → due ≡ length part + left → HasRead c text → IsWithinMessage size left (going_on text part)
goes_on_within c size due left text part at is has =
    let within : EndsAt (within_message size due) (cut text).rest = subst (λ (p : PlaceView). EndsAt p (cut text).rest) at has.place in
    within_on size due left (cut text).rest part within is

pub goes_on_faulty : (c : CounterView) (text part : List ℕ) → c.place ≡ at_fault → HasRead c text → HasRead c (text ++ part)
goes_on_faulty c text part at has =
    let faulty : EndsAt at_fault (cut text).rest = subst (λ (p : PlaceView). EndsAt p (cut text).rest) at has.place in
    reads_faulty c text part has.counts at (record {
      fault = faulty.fault;
      long = omega (arith, faulty.long, length-append (cut text).rest part);
      is_fault = header_at-append (cut text).rest part faulty.long ∙ faulty.is_fault;
    })

pub reads_nothing : (c : CounterView) → c.messages ≡ 0 → c.octets ≡ 0 → EndsAt c.place [] → HasRead c []
reads_nothing c messages octets place =
    let is = cut-none [] (few_begin_none [] (omega arith)) in
    record {
      counts = record { messages_are = omega (arith, messages, ap (λ (p : Parts (List ℕ)). length p.items) is); octets_are = omega (arith, octets) };
      place = subst (λ (p : Parts (List ℕ)). EndsAt c.place p.rest) (sym is) place;
    }

-- after a header that no message has, nothing more is counted
pub counts_all : (c : CounterView) (text more : List ℕ) → c.place ≡ at_fault → HasRead c text → c.octets ≡ capped (whole_octets (text ++ more))
counts_all c text more at has = (goes_on_faulty c text more at has).counts.octets_are

-- ---- a text that is read part by part

pub reading_on : (old new : CounterView) (piece part left : List ℕ) → piece ≡ part ++ left → ((t : List ℕ) → HasRead old t → HasRead new (t ++ part)) → ReadsOn old new piece left
reading_on old new piece part left is reads = λ text reading.
    record {
      front = reading.front ++ part;
      has_read = reads reading.front reading.has_read;
      whole = append_assoc reading.front part left ∙ ap (λ (w : List ℕ). reading.front ++ w) (sym is) ∙ reading.whole;
    }
