-- The header of a whole message.
use Rattle.std.proofs.Common.{◌≡◌, ℕ, ◌^◌, ◌<◌, ◌≤◌, cond, eqb, ltb, List, ◌++◌, length, take, drop, Result, Ok, Err, refl, sym, ap, subst, ◌∙◌, arith, inl, inr}
use Rattle.std.proofs.lemmas.Bool.{eqb-true, eq-eqb, ltb-false, le-ltb}
use Rattle.std.proofs.lemmas.List.{take-append-drop, drop_at}
use Rattle.ipfix_wire.specs.Numbers.{number_at, IsOctets}
use Rattle.ipfix_wire.specs.MessageHeader.{header_octets, header_at, IsHeader}
use Rattle.ipfix_wire.specs.declared.header.Header.{Header}
use Rattle.ipfix_wire.specs.declared.fault.WireFault.{WireFault}
use Rattle.ipfix_wire.proofs.Choices.{chosen}
use Rattle.ipfix_wire.proofs.Headers.{read, Good, header_in, header_is_good, good_is_read}
use Rattle.ipfix_wire.proofs.Octets.{IsOctets-drop, header_spelled}
use Rattle.ipfix_wire.proofs.Written.{header_again}
use Rattle.ipfix_message.specs.declared.fault.MessageFault.TheVariants.{MessageLength}
use Rattle.ipfix_message.specs.Faults.{fault_of}
use Rattle.ipfix_message.specs.Outcome.{◌>>=◌}
use Rattle.ipfix_message.specs.Domains.{of_wire, message_header}
use Rattle.ipfix_message.proofs.Reading.{ok_is, not_both}

-- the octets are this header, whose length is theirs, and others
pub record Headed (h : Header) (m : List ℕ) : Type 0 where
  pub octets : m ≡ header_octets h ++ drop 16 m
  pub header : IsHeader h
  pub whole : h.length ≡ length m

wire_ok_is : (a b : Header) → read a ≡ read b → a ≡ b
wire_ok_is a b e = cc

spelled : (m : List ℕ) (h : Header) → IsOctets m → 16 ≤ length m → Good m h → header_in m ≡ h → h.length ≡ length m → Headed h m
spelled m h fits long good is whole =
    let two = IsOctets-drop 2 m fits in
    let four = IsOctets-drop 4 m fits in
    let eight = IsOctets-drop 8 m fits in
    let twelve = IsOctets-drop 12 m fits in
    let size : number_at 2 2 m < 2 ^ 16 = omega (arith, two 0, two 1) in
    let time : number_at 4 4 m < 2 ^ 32 = omega (arith, four 0, four 1, four 2, four 3) in
    let sequence : number_at 8 4 m < 2 ^ 32 = omega (arith, eight 0, eight 1, eight 2, eight 3) in
    let domain : number_at 12 4 m < 2 ^ 32 = omega (arith, twelve 0, twelve 1, twelve 2, twelve 3) in
    let covers : 16 ≤ number_at 2 2 m = omega (arith, good.covers, good.size) in
    let is_header : IsHeader (header_in m) = record { length = size; covers = covers; export_time = time; sequence = sequence; domain = domain } in
    let front : take 16 m ≡ header_octets (header_in m) = header_spelled m _ _ _ _ fits long (sym good.version) refl refl refl refl in
    subst (λ (k : Header). Headed k m) is (record {
      octets = sym (take-append-drop 16 m) ∙ ap (λ (t : List ℕ). t ++ drop 16 m) front;
      header = is_header;
      whole = good.size ∙ whole;
    })

of_length : (m : List ℕ) (h : Header) (r : Result Header WireFault) → IsOctets m → 16 ≤ length m → header_at m ≡ r → (of_wire r >>= λ k. cond (eqb k.length (length m)) (Ok k) (Err MessageLength)) ≡ Ok h → Headed h m
of_length m h (Err e) fits long is done = absurd (not_both h (fault_of e) (sym done))
of_length m h (Ok k) fits long is done =
    elim (chosen (eqb k.length (length m)) (Ok k) (Err MessageLength) (Ok h) done) [
      | inl t ↦
          let good = header_is_good m k is in
          let version : number_at 0 2 m ≡ 10 = good.version in
          let covers : 16 ≤ number_at 2 2 m = omega (arith, good.covers, good.size) in
          let same : header_in m ≡ k = wire_ok_is (header_in m) k (sym (good_is_read m version covers) ∙ is) in
          subst (λ (x : Header). Headed x m) (ok_is k h t.1) (spelled m k fits long good same (eqb-true k.length (length m) t.0))
      | inr f ↦ absurd (not_both h MessageLength (sym f.1))
    ]

pub header-found : (m : List ℕ) (h : Header) → IsOctets m → message_header m ≡ Ok h → Headed h m
unfolding message_header
header-found m h fits done =
    elim (chosen (ltb (length m) 16) (Err MessageLength) (of_wire (header_at m) >>= λ k. cond (eqb k.length (length m)) (Ok k) (Err MessageLength)) (Ok h) done) [
      | inl t ↦ absurd (not_both h MessageLength (sym t.1))
      | inr f ↦ of_length m h (header_at m) fits (ltb-false (length m) 16 f.0) refl f.1
    ]

pub header-only : (m text : List ℕ) (h : Header) → m ≡ header_octets h ++ text → IsHeader h → h.length ≡ length m → (message_header m ≡ Ok h) × (drop 16 m ≡ text)
unfolding message_header
header-only m text h is fits whole =
    let long : 16 ≤ length m = omega (arith, fits.covers, whole) in
    let again : header_at m ≡ Ok h = ap header_at is ∙ header_again h text fits.covers fits.length fits.export_time fits.sequence fits.domain in
    (rw (le-ltb (length m) 16 long, again, eq-eqb h.length (length m) whole) refl, ap (drop 16) is ∙ drop_at (header_octets h) text 16 refl)
