-- The sets of a message: what is read is what is spelled.
use Rattle.std.proofs.Common.{◌≡◌, ℕ, ◌+◌, ◌-◌, ◌^◌, ◌<◌, ◌≤◌, false, eqb, List, [], ◌∷◌, ◌++◌, length, take, drop, Some, Result, Ok, Err, refl, sym, ap, subst, ◌∙◌, append_assoc, arith}
use Rattle.std.specs.Prelude.{IfErr}
use Rattle.std.proofs.lemmas.Bool.{le-ltb, lt-ltb}
use Rattle.std.proofs.lemmas.List.{length-append, length-drop, length-take, take-append-drop, take_at, drop_at}
use Rattle.byteorder.specs.Endian.{big_number}
use Rattle.ipfix_wire.specs.Numbers.{number_at, IsOctets}
use Rattle.ipfix_wire.specs.SetHeader.{set_octets, set_at}
use Rattle.ipfix_wire.specs.declared.set.SetSpan.{SetSpan}
use Rattle.ipfix_wire.specs.declared.fault.WireFault.{WireFault}
use Rattle.ipfix_wire.specs.declared.fault.WireFault.TheVariants as wire
use Rattle.ipfix_wire.specs.InTurn.{Parts}
use Rattle.ipfix_wire.proofs.Octets.{IsOctets-drop, set_spelled}
use Rattle.ipfix_wire.proofs.Parts.{Shrinks, Reads, Spelled}
use Rattle.ipfix_wire.proofs.Longest.{longest_from, longest_only}
use Rattle.ipfix_message.specs.declared.fault.MessageFault.{MessageFault}
use Rattle.ipfix_message.specs.Faults.{fault_of}
use Rattle.ipfix_message.specs.Sets.{AreSetsOf, Set, SpellsSet, cut_set, next_set, sets_of, fault_after_sets}
use Rattle.ipfix_wire.proofs.Choices.{different}
use Rattle.ipfix_wire.proofs.SetHeaders.{span_err, span, span_err_is, span_not_both, SetAt, by_tests, set_at-ok, set_at-again}
use Rattle.ipfix_message.proofs.Reading.{ok_is, not_both, fault_is}

-- ---- the next set

-- by what the header says
next_set-cases : {A : Type 0} (w : List ℕ) (x : Set) (r : List ℕ) → next_set w ≡ Ok (x, r)
    → ((s : SetSpan) → SetAt w s → record { id = s.id; body = take s.body (drop 4 w) } ≡ x → drop s.body (drop 4 w) ≡ r → A) → A
unfolding next_set
next_set-cases {A} w x r h found = by_cases (set_at w) refl h
  where
    by_cases : (o : Result SetSpan WireFault) → set_at w ≡ o → cut_set w o ≡ Ok (x, r) → A
    by_cases (Err e) is g = absurd (not_both (x, r) (fault_of e) (sym g))
    by_cases (Ok s) is g =
        let whole = ok_is (record { id = s.id; body = take s.body (drop 4 w) }, drop s.body (drop 4 w)) (x, r) g in
        found s (set_at-ok w s is) (ap (λ (p : Set × List ℕ). p.0) whole) (ap (λ (p : Set × List ℕ). p.1) whole)

pub next_set-less : (w : List ℕ) (x : Set) (r : List ℕ) → next_set w ≡ Ok (x, r) → length x.body + length r + 4 ≤ length w
next_set-less w x r h =
    next_set-cases w x r h (λ s at same rest.
    let front : take s.body (drop 4 w) ≡ x.body = ap (λ (y : Set). y.body) same in
    omega (arith, at.room, ap length rest, ap length front, length-drop s.body (drop 4 w), length-drop 4 w, length-take s.body (drop 4 w)))

next_set-takes : (w : List ℕ) (x : Set) (r : List ℕ) → next_set w ≡ Ok (x, r) → length r < length w
next_set-takes w x r h = let less = next_set-less w x r h in omega (arith, less)

pub sets_shrink : Shrinks next_set
sets_shrink = record { less = next_set-takes }

spelled_by : (w : List ℕ) (s : SetSpan) → IsOctets w → SetAt w s → Spelled SpellsSet w (record { id = s.id; body = take s.body (drop 4 w) }) (drop s.body (drop 4 w))
spelled_by w s fits at =
    let body = take s.body (drop 4 w) in
    let rest = drop s.body (drop 4 w) in
    let two = IsOctets-drop 2 w fits in
    let len : length body ≡ s.body = omega (arith, at.body, at.size, at.whole, at.room, length-take s.body (drop 4 w), length-drop 4 w) in
    let head : take 4 w ≡ set_octets s.id (length body) = set_spelled w s.id (number_at 2 2 w) fits at.room (sym at.id) refl at.size ∙ ap (set_octets s.id) (at.body ∙ sym len) in
    let whole : w ≡ (take 4 w ++ body) ++ rest = sym (take-append-drop 4 w) ∙ ap (λ (t : List ℕ). take 4 w ++ t) (sym (take-append-drop s.body (drop 4 w))) ∙ sym (append_assoc (take 4 w) body rest) in
    let id : s.id < 2 ^ 16 = omega (arith, at.id, fits 0, fits 1) in
    let size : 4 + length body < 2 ^ 16 = omega (arith, len, at.body, at.size, two 0, two 1) in
    record { text = take 4 w ++ body; whole = whole; is = record { id = id; size = size; octets = ap (λ (t : List ℕ). t ++ body) head } }

next_set-found : (w : List ℕ) (x : Set) (r : List ℕ) → IsOctets w → next_set w ≡ Ok (x, r) → Spelled SpellsSet w x r
next_set-found w x r fits h =
    next_set-cases w x r h (λ s at same rest.
    subst (λ (y : Set). Spelled SpellsSet w y r) same (subst (λ (y : List ℕ). Spelled SpellsSet w (record { id = s.id; body = take s.body (drop 4 w) }) y) rest (spelled_by w s fits at)))

pub next_set-only : (s : Set) (u r : List ℕ) → SpellsSet s u → next_set (u ++ r) ≡ Ok (s, r)
unfolding next_set
next_set-only s u r spelled =
    let n = length s.body in
    let x = s.body ++ r in
    let regrouped : u ++ r ≡ set_octets s.id n ++ x = ap (λ (t : List ℕ). t ++ r) spelled.octets ∙ append_assoc (set_octets s.id n) s.body r in
    let header = set_at-again s.id n x spelled.id spelled.size (omega (arith, length-append s.body r)) in
    let back : drop 4 (set_octets s.id n ++ x) ≡ x = drop_at (set_octets s.id n) x 4 refl in
    ap next_set regrouped ∙ ap (cut_set (set_octets s.id n ++ x)) header ∙ rw (back, take_at s.body r n refl, drop_at s.body r n refl) refl

pub sets_read : Reads SpellsSet next_set
sets_read = record { found = next_set-found; only = next_set-only }

-- ---- all sets

pub sets_of-found : (w : List ℕ) → IsOctets w → AreSetsOf (sets_of w) w
sets_of-found w fits = longest_from SpellsSet next_set sets_read sets_shrink w fits

pub sets_of-only : (w : List ℕ) (sets : Parts Set) → IsOctets w → AreSetsOf sets w → sets_of w ≡ sets
sets_of-only w sets fits longest = longest_only SpellsSet next_set sets_read sets_shrink sets.items sets.rest w fits longest

-- where no set can be read, the fault is that of what is left
pub next_set-fault : (w : List ℕ) (f : MessageFault) → 0 < length w → next_set w ≡ Err f → fault_after_sets w ≡ Some f
unfolding next_set
next_set-fault w f some h = by_cases (set_at w) refl h
  where
    no : eqb (length w) 0 ≡ false
    no = different (length w) 0 (λ e. omega (arith, e, some))

    by_cases : (o : Result SetSpan WireFault) → set_at w ≡ o → cut_set w o ≡ Err f → fault_after_sets w ≡ Some f
    by_cases (Ok s) is g = absurd (not_both (record { id = s.id; body = take s.body (drop 4 w) }, drop s.body (drop 4 w)) f g)
    by_cases (Err e) is g =
        by_tests w (span_err e) is
        (λ short same. rw (no, lt-ltb (length w) 4 short) (ap (λ (x : MessageFault). Some x) (ap fault_of (span_err_is wire.SetHeader e same) ∙ fault_is (fault_of e) f g)))
        (λ long same. rw (no, le-ltb (length w) 4 long) (ap (λ (x : MessageFault). Some x) (ap fault_of (span_err_is wire.SetLength e same) ∙ fault_is (fault_of e) f g)))
        (λ room size whole same. absurd (span_not_both (span (big_number 2 w) (number_at 2 2 w - 4)) e same))

pub next_set-left : (w : List ℕ) → 0 < length w → IfErr (next_set w) (λ f. fault_after_sets w ≡ Some f)
next_set-left w some = by_cases (next_set w) refl
  where
    by_cases : (read : Result (Set × List ℕ) MessageFault) → next_set w ≡ read → IfErr read (λ f. fault_after_sets w ≡ Some f)
    by_cases (Ok x) here = tt
    by_cases (Err f) here = next_set-fault w f some here

-- nothing holds no set
pub next_set-nil : (w : List ℕ) → length w ≡ 0 → (f : MessageFault) × (next_set w ≡ Err f)
unfolding next_set
next_set-nil [] none = (fault_of wire.SetHeader, refl)
next_set-nil (b ∷ w) none = absurd (omega (arith, none))
