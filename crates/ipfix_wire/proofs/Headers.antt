-- Headers in texts that go on.
use Rattle.std.proofs.Common.{◌≡◌, ℕ, zero, suc, ◌+◌, ◌≤◌, Bool, true, false, not, cond, ltb, eqb, List, ◌++◌, length, get_or, drop, Result, Ok, Err, refl, ap, ◌∙◌, arith}
use Rattle.std.proofs.lemmas.Bool.{ltb-false, eqb-true, not-false, le-ltb}
use Rattle.std.proofs.lemmas.List.{get_or_append_left, length-drop, drop-append-le}
use Rattle.byteorder.specs.Endian.{big_from, big_number}
use Rattle.ipfix_wire.specs.Numbers.{number_at}
use Rattle.ipfix_wire.specs.MessageHeader.{header_at}
use Rattle.ipfix_wire.specs.declared.header.Header.{Header}
use Rattle.ipfix_wire.specs.declared.fault.WireFault.{WireFault}
use Rattle.ipfix_wire.specs.declared.fault.WireFault.TheVariants.{Version, MessageLength}

big_from-append : (n i : ℕ) (xs ys : List ℕ) → i + n ≤ length xs → big_from i n (xs ++ ys) ≡ big_from i n xs
big_from-append zero i xs ys room = refl
big_from-append (suc n) i xs ys room =
    let first : get_or (xs ++ ys) i 0 ≡ get_or xs i 0 = get_or_append_left xs ys 0 i (omega arith) in
    let others = big_from-append n (suc i) xs ys (omega arith) in
    rw (first, others) refl

-- a number that lies within a text is the same where the text goes on
pub number_at-append : (i n : ℕ) (w y : List ℕ) → i + n ≤ length w → number_at i n (w ++ y) ≡ number_at i n w
number_at-append i n w y room =
    ap (big_number n) (drop-append-le i w y (omega arith)) ∙ big_from-append n 0 (drop i w) y (omega (arith, length-drop i w))

-- a header as what its numbers make it
abbrev header_of : ℕ → ℕ → ℕ → ℕ → ℕ → Result Header WireFault
header_of version size time sequence domain =
    cond (not (eqb version 10)) (Err Version)
    (cond (ltb size 16) (Err MessageLength) (Ok (record { length = size; export_time = time; sequence = sequence; domain = domain })))

header_of-same : (a b c d e a' b' c' d' e' : ℕ) → a ≡ a' → b ≡ b' → c ≡ c' → d ≡ d' → e ≡ e' → header_of a b c d e ≡ header_of a' b' c' d' e'
header_of-same a b c d e a' b' c' d' e' p q r s t = rw (p, q, r, s, t) refl

pub header_at-append : (w y : List ℕ) → 16 ≤ length w → header_at (w ++ y) ≡ header_at w
header_at-append w y long =
    header_of-same _ _ _ _ _ _ _ _ _ _
    (number_at-append 0 2 w y (omega arith)) (number_at-append 2 2 w y (omega arith)) (number_at-append 4 4 w y (omega arith))
    (number_at-append 8 4 w y (omega arith)) (number_at-append 12 4 w y (omega arith))

-- a header that is read
pub record Good (w : List ℕ) (h : Header) : Type 0 where
  pub version : number_at 0 2 w ≡ 10
  pub covers : 16 ≤ h.length
  pub size : number_at 2 2 w ≡ h.length

abbrev pub read : Header → Result Header WireFault
read h = Ok h

good_of : (v l x s d : ℕ) (h : Header) → header_of v l x s d ≡ read h → (v ≡ 10) × (16 ≤ h.length) × (l ≡ h.length)
good_of v l x s d h e = by_tests (not (eqb v 10)) (ltb l 16) refl refl e
  where
    by_tests : (a b : Bool) → not (eqb v 10) ≡ a → ltb l 16 ≡ b → cond a (Err Version) (cond b (Err MessageLength) (read (record { length = l; export_time = x; sequence = s; domain = d }))) ≡ read h
        → (v ≡ 10) × (16 ≤ h.length) × (l ≡ h.length)
    by_tests true b p q e = absurd cc
    by_tests false true p q e = absurd cc
    by_tests false false p q e =
        let same : l ≡ h.length = cc in
        (eqb-true v 10 (not-false (eqb v 10) p), omega (arith, ltb-false l 16 q, same), same)

pub header_is_good : (w : List ℕ) (h : Header) → header_at w ≡ read h → Good w h
header_is_good w h e =
    let all = good_of (number_at 0 2 w) (number_at 2 2 w) (number_at 4 4 w) (number_at 8 4 w) (number_at 12 4 w) h e in
    record { version = all.0; covers = all.1; size = all.2 }

-- the header of a text of version 10 and a length from 16 on
abbrev pub header_in : List ℕ → Header
header_in w = record { length = number_at 2 2 w; export_time = number_at 4 4 w; sequence = number_at 8 4 w; domain = number_at 12 4 w }

pub good_is_read : (w : List ℕ) → number_at 0 2 w ≡ 10 → 16 ≤ number_at 2 2 w → header_at w ≡ read (header_in w)
good_is_read w version covers = by_tests (number_at 0 2 w) (number_at 2 2 w) version (le-ltb (number_at 2 2 w) 16 covers)
  where
    by_tests : (v l : ℕ) → v ≡ 10 → ltb l 16 ≡ false → header_of v l (number_at 4 4 w) (number_at 8 4 w) (number_at 12 4 w) ≡ read (record { length = l; export_time = number_at 4 4 w; sequence = number_at 8 4 w; domain = number_at 12 4 w })
    by_tests v l p q = rw (p, q) refl
