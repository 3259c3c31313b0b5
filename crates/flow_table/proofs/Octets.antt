-- Octets are in the order of the numbers that they spell.
use Rattle.std.proofs.Common.{◌≡◌, ℕ, zero, suc, ◌+◌, ◌*◌, ◌<◌, ◌≤◌, ◌&&◌, ltb, eqb, true, lt-ltb, Bool, List, [], ◌∷◌, length, take, drop, get_or, refl, sym, ap, ◌∙◌, arith}
use Rattle.std.specs.Cmp.{ranks}
use Rattle.std.specs.Cmp.Lexicographic.{slice_cmp}
use Rattle.std.specs.Int.{from_be_bytes, to_be_bytes, w64}
use Rattle.std.specs.List.{list_all}
use Rattle.std.specs.Ordering.{nat_cmp, ordering_then, MatchOrdering}
use Rattle.std.specs.declared.cmp.Ordering.{Ordering}
use Rattle.std.specs.declared.cmp.Ordering.TheVariants.{Less, Equal, Greater}
use Rattle.std.proofs.lemmas.Bool.{and_parts, eqb-true, ltb-true}
use Rattle.std.proofs.lemmas.Nat.{be_bytes_8}
use Rattle.flow_table.specs.Words.{are_octets, spelled}

-- two numbers lie in one way
pub one_rank : (x y : ℕ) (r s : Ordering) → MatchOrdering r (x < y) (x ≡ y) (y < x) → MatchOrdering s (x < y) (x ≡ y) (y < x) → r ≡ s
one_rank x y Less Less h k = refl
one_rank x y Less Equal h k = let l : x < y = h in let e : x ≡ y = k in absurd (omega arith)
one_rank x y Less Greater h k = let l : x < y = h in let g : y < x = k in absurd (omega arith)
one_rank x y Equal Less h k = let e : x ≡ y = h in let l : x < y = k in absurd (omega arith)
one_rank x y Equal Equal h k = refl
one_rank x y Equal Greater h k = let e : x ≡ y = h in let g : y < x = k in absurd (omega arith)
one_rank x y Greater Less h k = let g : y < x = h in let l : x < y = k in absurd (omega arith)
one_rank x y Greater Equal h k = let g : y < x = h in let e : x ≡ y = k in absurd (omega arith)
one_rank x y Greater Greater h k = refl

-- with an octet more after each
octet_rank : (m n x y : ℕ) (r s : Ordering) → x < 256 → y < 256 → MatchOrdering r (m < n) (m ≡ n) (n < m) → MatchOrdering s (x < y) (x ≡ y) (y < x)
    → MatchOrdering (ordering_then r s) (m * 256 + x < n * 256 + y) (m * 256 + x ≡ n * 256 + y) (n * 256 + y < m * 256 + x)
octet_rank m n x y Less s p q h k = let l : m < n = h in omega arith
octet_rank m n x y Greater s p q h k = let g : n < m = h in omega arith
octet_rank m n x y Equal Less p q h k = let e : m ≡ n = h in let l : x < y = k in omega arith
octet_rank m n x y Equal Equal p q h k = let e : m ≡ n = h in let f : x ≡ y = k in omega arith
octet_rank m n x y Equal Greater p q h k = let e : m ≡ n = h in let g : y < x = k in omega arith

octet_more : (m n x y : ℕ) → x < 256 → y < 256 → nat_cmp (m * 256 + x) (n * 256 + y) ≡ ordering_then (nat_cmp m n) (nat_cmp x y)
octet_more m n x y p q = one_rank (m * 256 + x) (n * 256 + y) _ _ (ranks (m * 256 + x) (n * 256 + y)) (octet_rank m n x y (nat_cmp m n) (nat_cmp x y) p q (ranks m n) (ranks x y))

pub then_then : (a b c : Ordering) → ordering_then (ordering_then a b) c ≡ ordering_then a (ordering_then b c)
then_then Less b c = refl
then_then Equal b c = refl
then_then Greater b c = refl

pub then_equal : (a : Ordering) → a ≡ ordering_then a Equal
then_equal Less = refl
then_equal Equal = refl
then_equal Greater = refl

-- each is below 256
abbrev pub Octets : List ℕ → Type 0
Octets [] = Unit {0}
Octets (x ∷ xs) = (x < 256) × Octets xs

pub are_small : (xs : List ℕ) → list_all (λ x. ltb x 256) xs ≡ true → Octets xs
are_small [] h = tt
are_small (x ∷ xs) h =
    let both = and_parts (ltb x 256) (list_all (λ y. ltb y 256) xs) h in
    (ltb-true x 256 both.0, are_small xs both.1)

pub octets_of : (n : ℕ) (xs : List ℕ) → are_octets n xs ≡ true → (length xs ≡ n) × Octets xs
octets_of n xs h =
    let both = and_parts (eqb (length xs) n) (list_all (λ x. ltb x 256) xs) h in
    (eqb-true (length xs) n both.0, are_small xs both.1)

spelled_rank : (m n : ℕ) (xs ys : List ℕ) → length xs ≡ length ys → Octets xs → Octets ys → nat_cmp (spelled m xs) (spelled n ys) ≡ ordering_then (nat_cmp m n) (slice_cmp nat_cmp xs ys)
spelled_rank m n [] [] l p q = then_equal (nat_cmp m n)
spelled_rank m n [] (y ∷ ys) l p q = absurd (omega arith)
spelled_rank m n (x ∷ xs) [] l p q = absurd (omega arith)
spelled_rank m n (x ∷ xs) (y ∷ ys) l p q =
    spelled_rank (m * 256 + x) (n * 256 + y) xs ys (omega arith) p.1 q.1
    ∙ ap (λ (o : Ordering). ordering_then o (slice_cmp nat_cmp xs ys)) (octet_more m n x y p.0 q.0)
    ∙ then_then (nat_cmp m n) (nat_cmp x y) (slice_cmp nat_cmp xs ys)

pub octets_rank : (xs ys : List ℕ) → length xs ≡ length ys → Octets xs → Octets ys → nat_cmp (spelled 0 xs) (spelled 0 ys) ≡ slice_cmp nat_cmp xs ys
octets_rank xs ys l p q = spelled_rank 0 0 xs ys l p q

-- the first ones, and then the others
pub parts_rank : (n : ℕ) (xs ys : List ℕ) → n ≤ length xs → n ≤ length ys → slice_cmp nat_cmp xs ys ≡ ordering_then (slice_cmp nat_cmp (take n xs) (take n ys)) (slice_cmp nat_cmp (drop n xs) (drop n ys))
parts_rank zero xs ys p q = refl
parts_rank (suc n) [] ys p q = absurd (omega arith)
parts_rank (suc n) (x ∷ xs) [] p q = absurd (omega arith)
parts_rank (suc n) (x ∷ xs) (y ∷ ys) p q =
    ap (λ (o : Ordering). ordering_then (nat_cmp x y) o) (parts_rank n xs ys (omega arith) (omega arith))
    ∙ sym (then_then (nat_cmp x y) (slice_cmp nat_cmp (take n xs) (take n ys)) (slice_cmp nat_cmp (drop n xs) (drop n ys)))

pub take_octets : (n : ℕ) (xs : List ℕ) → Octets xs → Octets (take n xs)
take_octets zero xs h = tt
take_octets (suc n) [] h = tt
take_octets (suc n) (x ∷ xs) h = (h.0, take_octets n xs h.1)

pub drop_octets : (n : ℕ) (xs : List ℕ) → Octets xs → Octets (drop n xs)
drop_octets zero xs h = h
drop_octets (suc n) [] h = tt
drop_octets (suc n) (x ∷ xs) h = drop_octets n xs h.1

-- ---- eight octets

pub octet_at : (xs : List ℕ) (i : ℕ) → Octets xs → get_or xs i 0 < 256
octet_at [] i h = omega arith
octet_at (x ∷ xs) zero h = h.0
octet_at (x ∷ xs) (suc i) h = octet_at xs i h.1

eight_spell : (a b c d e f g h : ℕ) → from_be_bytes w64 (a ∷ b ∷ c ∷ d ∷ e ∷ f ∷ g ∷ h ∷ []) ≡ spelled 0 (a ∷ b ∷ c ∷ d ∷ e ∷ f ∷ g ∷ h ∷ [])
eight_spell a b c d e f g h = omega arith

eight_same : (xs : List ℕ) → length xs ≡ 8 → spelled 0 xs ≡ from_be_bytes w64 xs
eight_same [] l = absurd (omega arith)
eight_same (a ∷ []) l = absurd (omega arith)
eight_same (a ∷ b ∷ []) l = absurd (omega arith)
eight_same (a ∷ b ∷ c ∷ []) l = absurd (omega arith)
eight_same (a ∷ b ∷ c ∷ d ∷ []) l = absurd (omega arith)
eight_same (a ∷ b ∷ c ∷ d ∷ e ∷ []) l = absurd (omega arith)
eight_same (a ∷ b ∷ c ∷ d ∷ e ∷ f ∷ []) l = absurd (omega arith)
eight_same (a ∷ b ∷ c ∷ d ∷ e ∷ f ∷ g ∷ []) l = absurd (omega arith)
eight_same (a ∷ b ∷ c ∷ d ∷ e ∷ f ∷ g ∷ h ∷ []) l = sym (eight_spell a b c d e f g h)
eight_same (a ∷ b ∷ c ∷ d ∷ e ∷ f ∷ g ∷ h ∷ i ∷ xs) l = absurd (omega arith)

pub eight_back : (xs : List ℕ) → length xs ≡ 8 → Octets xs → to_be_bytes w64 (spelled 0 xs) ≡ xs
eight_back xs l h = be_bytes_8 xs (spelled 0 xs) l (λ i. octet_at xs i h) (eight_same xs l)

-- numbers below 256 pass
pub octets_pass : (xs : List ℕ) → ((i : ℕ) → get_or xs i 0 < 256) → list_all (λ x. ltb x 256) xs ≡ true
octets_pass [] h = refl
octets_pass (x ∷ xs) h = ap (λ (t : Bool). t && list_all (λ y. ltb y 256) xs) (lt-ltb x 256 (h 0)) ∙ octets_pass xs (λ i. h (suc i))
