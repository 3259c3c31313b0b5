-- Octets that were read as numbers are the octets of those numbers.
use Rattle.std.proofs.Common.{◌≡◌, ℕ, ◌+◌, ◌-◌, ◌≤◌, List, ◌++◌, length, take, drop, replicate, refl, sym, ap, subst, ◌∙◌, arith, inl, inr}
use Rattle.std.proofs.Math.Seq.{take-add}
use Rattle.std.proofs.lemmas.List.{length-take, length-drop, get_or-take, get_or-drop, get_or_past, drop-drop, take_at, drop_at}
use Rattle.std.proofs.lemmas.Bool.{cases_lt}
use Rattle.std.proofs.lemmas.Nat.{be_bytes_2, be_bytes_4}
use Rattle.byteorder.specs.Endian.{big_bytes, big_number}
use Rattle.ipfix_wire.specs.declared.header.Header.{Header}
use Rattle.ipfix_wire.specs.Numbers.{number_at, IsOctets}
use Rattle.ipfix_wire.specs.MessageHeader.{header_octets, IsHeader}
use Rattle.ipfix_wire.specs.SetHeader.{set_octets}
use borrow.Rule.Slice.PartMut.{put_mid}

pub IsOctets-drop : (n : ℕ) (bytes : List ℕ) → IsOctets bytes → IsOctets (drop n bytes)
IsOctets-drop n bytes h i = rw get_or-drop (h (n + i))

pub IsOctets-take : (n : ℕ) (bytes : List ℕ) → IsOctets bytes → IsOctets (take n bytes)
IsOctets-take n bytes h i =
    elim (cases_lt i n) [
      | inl lt ↦ rw (get_or-take n bytes i 0 lt) (h i)
      | inr le ↦ rw (get_or_past (take n bytes) i 0 (omega (arith, length-take n bytes))) (omega arith)
    ]

-- of octets in two parts each part is octets
pub IsOctets-front : (u v : List ℕ) → IsOctets (u ++ v) → IsOctets u
IsOctets-front u v h = subst IsOctets (take_at u v (length u) refl) (IsOctets-take (length u) (u ++ v) h)

pub IsOctets-rest : (u v : List ℕ) → IsOctets (u ++ v) → IsOctets v
IsOctets-rest u v h = subst IsOctets (drop_at u v (length u) refl) (IsOctets-drop (length u) (u ++ v) h)

-- two octets that read as n are the octets of n
pub octets_2 : (xs : List ℕ) (n : ℕ) → IsOctets xs → 2 ≤ length xs → n ≡ big_number 2 xs → take 2 xs ≡ big_bytes 2 n
octets_2 xs n h len e =
    let a = get_or-take 2 xs 0 0 (omega arith) in
    let b = get_or-take 2 xs 1 0 (omega arith) in
    sym (be_bytes_2 (take 2 xs) n (omega (arith, length-take 2 xs)) (IsOctets-take 2 xs h) (omega (arith, a, b, e)))

pub octets_4 : (xs : List ℕ) (n : ℕ) → IsOctets xs → 4 ≤ length xs → n ≡ big_number 4 xs → take 4 xs ≡ big_bytes 4 n
octets_4 xs n h len e =
    let a = get_or-take 4 xs 0 0 (omega arith) in
    let b = get_or-take 4 xs 1 0 (omega arith) in
    let c = get_or-take 4 xs 2 0 (omega arith) in
    let d = get_or-take 4 xs 3 0 (omega arith) in
    sym (be_bytes_4 (take 4 xs) n (omega (arith, length-take 4 xs)) (IsOctets-take 4 xs h) (omega (arith, a, b, c, d, e)))

-- the two octets at place i
pub octets_2_at : (i : ℕ) (xs : List ℕ) (n : ℕ) → IsOctets xs → i + 2 ≤ length xs → n ≡ big_number 2 (drop i xs) → take 2 (drop i xs) ≡ big_bytes 2 n
octets_2_at i xs n h len e = octets_2 (drop i xs) n (IsOctets-drop i xs h) (omega (arith, length-drop i xs)) e

pub octets_4_at : (i : ℕ) (xs : List ℕ) (n : ℕ) → IsOctets xs → i + 4 ≤ length xs → n ≡ big_number 4 (drop i xs) → take 4 (drop i xs) ≡ big_bytes 4 n
octets_4_at i xs n h len e = octets_4 (drop i xs) n (IsOctets-drop i xs h) (omega (arith, length-drop i xs)) e

-- the first n + m octets from place i, in two parts
part : (n m i : ℕ) (xs a b : List ℕ) → take n (drop i xs) ≡ a → take m (drop (i + n) xs) ≡ b → take (n + m) (drop i xs) ≡ a ++ b
part n m i xs a b p q = take-add n m (drop i xs) ∙ ap (λ (t : List ℕ). take n (drop i xs) ++ take m t) (drop-drop n i xs) ∙ ap (λ (t : List ℕ). t ++ take m (drop (i + n) xs)) p ∙ ap (λ (t : List ℕ). a ++ t) q

pub set_spelled : (xs : List ℕ) (id n : ℕ) → IsOctets xs → 4 ≤ length xs → id ≡ big_number 2 xs → n ≡ big_number 2 (drop 2 xs) → 4 ≤ n → take 4 xs ≡ set_octets id (n - 4)
set_spelled xs id n h len e f le =
    let k : n ≡ 4 + (n - 4) = omega arith in
    part 2 2 0 xs (big_bytes 2 id) (big_bytes 2 n) (octets_2 xs id h (omega arith) e) (octets_2_at 2 xs n h (omega arith) f)
    ∙ ap (λ (t : ℕ). big_bytes 2 id ++ big_bytes 2 t) k

pub header_spelled : (xs : List ℕ) (a b c d : ℕ) → IsOctets xs → 16 ≤ length xs → 10 ≡ big_number 2 xs → a ≡ big_number 2 (drop 2 xs)
    → b ≡ big_number 4 (drop 4 xs) → c ≡ big_number 4 (drop 8 xs) → d ≡ big_number 4 (drop 12 xs)
    → take 16 xs ≡ big_bytes 2 10 ++ (big_bytes 2 a ++ (big_bytes 4 b ++ (big_bytes 4 c ++ big_bytes 4 d)))
header_spelled xs a b c d h len v ea eb ec ed =
    part 2 14 0 xs (big_bytes 2 10) _ (octets_2 xs 10 h (omega arith) v)
    (part 2 12 2 xs (big_bytes 2 a) _ (octets_2_at 2 xs a h (omega arith) ea)
    (part 4 8 4 xs (big_bytes 4 b) _ (octets_4_at 4 xs b h (omega arith) eb)
    (part 4 4 8 xs (big_bytes 4 c) (big_bytes 4 d) (octets_4_at 8 xs c h (omega arith) ec) (octets_4_at 12 xs d h (omega arith) ed))))

pub short_spec_spelled : (xs : List ℕ) (a b : ℕ) → IsOctets xs → 4 ≤ length xs → a ≡ big_number 2 xs → b ≡ big_number 2 (drop 2 xs)
    → take 4 xs ≡ big_bytes 2 a ++ big_bytes 2 b
short_spec_spelled xs a b h len ea eb = part 2 2 0 xs (big_bytes 2 a) (big_bytes 2 b) (octets_2 xs a h (omega arith) ea) (octets_2_at 2 xs b h (omega arith) eb)

pub long_spec_spelled : (xs : List ℕ) (a b c : ℕ) → IsOctets xs → 8 ≤ length xs → a ≡ big_number 2 xs → b ≡ big_number 2 (drop 2 xs) → c ≡ big_number 4 (drop 4 xs)
    → take 8 xs ≡ big_bytes 2 a ++ (big_bytes 2 b ++ big_bytes 4 c)
long_spec_spelled xs a b c h len ea eb ec =
    part 2 6 0 xs (big_bytes 2 a) _ (octets_2 xs a h (omega arith) ea)
    (part 2 4 2 xs (big_bytes 2 b) (big_bytes 4 c) (octets_2_at 2 xs b h (omega arith) eb) (octets_4_at 4 xs c h (omega arith) ec))

abbrev pub Read : Header → Header → Type 0
Read x h = x ≡ h

-- a header that was written is read again, whatever follows it
pub header_again : (h : Header) (rest xs : List ℕ) (a b c d : ℕ) → IsHeader h → xs ≡ header_octets h ++ rest
    → a ≡ number_at 2 2 xs → b ≡ number_at 4 4 xs → c ≡ number_at 8 4 xs → d ≡ number_at 12 4 xs
    → Read (record { length = a; export_time = b; sequence = c; domain = d }) h
header_again h rest xs a b c d fits e ea eb ec ed =
    let fa : a ≡ h.length = ea ∙ rw e (omega (arith, fits.length)) in
    let fb : b ≡ h.export_time = eb ∙ rw e (omega (arith, fits.export_time)) in
    let fc : c ≡ h.sequence = ec ∙ rw e (omega (arith, fits.sequence)) in
    let fd : d ≡ h.domain = ed ∙ rw e (omega (arith, fits.domain)) in
    rw (fa, fb, fc, fd) refl

-- what five writes, each into the rest of what the one before left, leave in sixteen octets
pub header_written : (l x s d : ℕ) (p q r t u : List ℕ) → p ≡ big_bytes 2 10 ++ drop 2 (replicate 16 0) → q ≡ big_bytes 2 l ++ drop 2 (take 14 (drop 2 p))
    → r ≡ big_bytes 4 x ++ drop 4 (take 12 (drop 4 (put_mid 2 14 p q)))
    → t ≡ big_bytes 4 s ++ drop 4 (take 8 (drop 8 (put_mid 4 12 (put_mid 2 14 p q) r)))
    → u ≡ big_bytes 4 d ++ drop 4 (take 4 (drop 12 (put_mid 8 8 (put_mid 4 12 (put_mid 2 14 p q) r) t)))
    → put_mid 12 4 (put_mid 8 8 (put_mid 4 12 (put_mid 2 14 p q) r) t) u ≡ big_bytes 2 10 ++ (big_bytes 2 l ++ (big_bytes 4 x ++ (big_bytes 4 s ++ big_bytes 4 d)))
header_written l x s d p q r t u ep eq er et eu = rw (eu, et, er, eq, ep) refl
