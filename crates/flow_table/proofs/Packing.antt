-- Words where two short ones share one: they compare as the words, and tell them.
use Rattle.std.proofs.Common.{◌≡◌, ℕ, suc, ◌+◌, ◌*◌, ◌/◌, ◌%◌, ◌^◌, ◌<◌, Bool, true, false, List, [], ◌∷◌, ◌++◌, length, drop, refl, ap, ◌∙◌, arith}
use Rattle.std.specs.Cmp.{ranks}
use Rattle.std.specs.Ordering.{nat_cmp, ordering_then, MatchOrdering}
use Rattle.std.specs.declared.cmp.Ordering.{Ordering}
use Rattle.std.specs.declared.cmp.Ordering.TheVariants.{Less, Equal, Greater}
use Rattle.flow_rows.specs.Rows.{words_cmp}
use Rattle.flow_table.specs.Words.{pack, unpack}
use Rattle.flow_table.proofs.Octets.{one_rank, then_then}

-- a word for each, and short ones are below 2^32
abbrev pub AreBeside : List Bool → List ℕ → Type 0
AreBeside [] [] = Unit {0}
AreBeside [] (w ∷ ws) = ⊥
AreBeside (f ∷ fs) [] = ⊥
AreBeside (f ∷ fs) (w ∷ ws) = (f ≡ true → w < 2 ^ 32) × AreBeside fs ws

pub beside_long : (fs : List Bool) (ws : List ℕ) → AreBeside fs ws → length ws ≡ length fs
beside_long [] [] h = refl
beside_long [] (w ∷ ws) h = absurd h
beside_long (f ∷ fs) [] h = absurd h
beside_long (f ∷ fs) (w ∷ ws) h = let l = beside_long fs ws h.1 in omega arith

pub beside_more : (fs gs : List Bool) (ws vs : List ℕ) → AreBeside fs ws → AreBeside gs vs → AreBeside (fs ++ gs) (ws ++ vs)
beside_more [] gs [] vs h k = k
beside_more [] gs (w ∷ ws) vs h k = absurd h
beside_more (f ∷ fs) gs [] vs h k = absurd h
beside_more (f ∷ fs) gs (w ∷ ws) vs h k = (h.0, beside_more fs gs ws vs h.1 k)

pub pack_long : (fs : List Bool) (ws vs : List ℕ) → length (pack fs ws) ≡ length (pack fs vs)
pack_long [] ws vs = refl
pack_long (false ∷ fs) ws vs = ap suc (pack_long fs (drop 1 ws) (drop 1 vs))
pack_long (true ∷ []) ws vs = refl
pack_long (true ∷ false ∷ fs) ws vs = ap suc (pack_long (false ∷ fs) (drop 1 ws) (drop 1 vs))
pack_long (true ∷ true ∷ fs) ws vs = ap suc (pack_long fs (drop 2 ws) (drop 2 vs))

-- ---- order

half_rank : (m n x y : ℕ) (r s : Ordering) → x < 2 ^ 32 → y < 2 ^ 32 → MatchOrdering r (m < n) (m ≡ n) (n < m) → MatchOrdering s (x < y) (x ≡ y) (y < x)
    → MatchOrdering (ordering_then r s) (m * 2 ^ 32 + x < n * 2 ^ 32 + y) (m * 2 ^ 32 + x ≡ n * 2 ^ 32 + y) (n * 2 ^ 32 + y < m * 2 ^ 32 + x)
half_rank m n x y Less s p q h k = let l : m < n = h in omega arith
half_rank m n x y Greater s p q h k = let g : n < m = h in omega arith
half_rank m n x y Equal Less p q h k = let e : m ≡ n = h in let l : x < y = k in omega arith
half_rank m n x y Equal Equal p q h k = let e : m ≡ n = h in let f : x ≡ y = k in omega arith
half_rank m n x y Equal Greater p q h k = let e : m ≡ n = h in let g : y < x = k in omega arith

halves_rank : (m n x y : ℕ) → x < 2 ^ 32 → y < 2 ^ 32 → nat_cmp (m * 2 ^ 32 + x) (n * 2 ^ 32 + y) ≡ ordering_then (nat_cmp m n) (nat_cmp x y)
halves_rank m n x y p q = one_rank (m * 2 ^ 32 + x) (n * 2 ^ 32 + y) _ _ (ranks (m * 2 ^ 32 + x) (n * 2 ^ 32 + y)) (half_rank m n x y (nat_cmp m n) (nat_cmp x y) p q (ranks m n) (ranks x y))

pub pack_rank : (fs : List Bool) (ws vs : List ℕ) → AreBeside fs ws → AreBeside fs vs → (r s : List ℕ) → words_cmp (pack fs ws ++ r) (pack fs vs ++ s) ≡ words_cmp (ws ++ r) (vs ++ s)
pack_rank [] [] [] h k r s = refl
pack_rank [] (w ∷ ws) vs h k r s = absurd h
pack_rank [] [] (v ∷ vs) h k r s = absurd k
pack_rank (f ∷ fs) [] vs h k r s = absurd h
pack_rank (f ∷ fs) (w ∷ ws) [] h k r s = absurd k
pack_rank (false ∷ fs) (w ∷ ws) (v ∷ vs) h k r s = ap (ordering_then (nat_cmp w v)) (pack_rank fs ws vs h.1 k.1 r s)
pack_rank (true ∷ []) (w ∷ ws) (v ∷ vs) h k r s = ap (ordering_then (nat_cmp w v)) (pack_rank [] ws vs h.1 k.1 r s)
pack_rank (true ∷ false ∷ fs) (w ∷ ws) (v ∷ vs) h k r s = ap (ordering_then (nat_cmp w v)) (pack_rank (false ∷ fs) ws vs h.1 k.1 r s)
pack_rank (true ∷ true ∷ fs) (w ∷ []) vs h k r s = absurd h.1
pack_rank (true ∷ true ∷ fs) (w ∷ x ∷ ws) (v ∷ []) h k r s = absurd k.1
pack_rank (true ∷ true ∷ fs) (w ∷ x ∷ ws) (v ∷ y ∷ vs) h k r s =
    ap (λ (o : Ordering). ordering_then o (words_cmp (pack fs ws ++ r) (pack fs vs ++ s))) (halves_rank w v x y (h.1.0 refl) (k.1.0 refl))
    ∙ then_then (nat_cmp w v) (nat_cmp x y) (words_cmp (pack fs ws ++ r) (pack fs vs ++ s))
    ∙ ap (λ (o : Ordering). ordering_then (nat_cmp w v) (ordering_then (nat_cmp x y) o)) (pack_rank fs ws vs h.1.1 k.1.1 r s)

-- ---- back

first_half : (m x : ℕ) → x < 2 ^ 32 → (m * 2 ^ 32 + x) / 2 ^ 32 ≡ m
first_half m x l = omega arith

second_half : (m x : ℕ) → x < 2 ^ 32 → (m * 2 ^ 32 + x) % 2 ^ 32 ≡ x
second_half m x l = omega arith

two_more : (a b m x : ℕ) (us vs : List ℕ) → a ≡ m → b ≡ x → us ≡ vs → a ∷ b ∷ us ≡ m ∷ x ∷ vs
two_more a b m x us vs e f g = cc

pub pack_back : (fs : List Bool) (ws r : List ℕ) → AreBeside fs ws → unpack fs (pack fs ws ++ r) ≡ ws
pack_back [] [] r h = refl
pack_back [] (w ∷ ws) r h = absurd h
pack_back (f ∷ fs) [] r h = absurd h
pack_back (false ∷ fs) (w ∷ ws) r h = ap (λ (vs : List ℕ). w ∷ vs) (pack_back fs ws r h.1)
pack_back (true ∷ []) (w ∷ ws) r h = ap (λ (vs : List ℕ). w ∷ vs) (pack_back [] ws r h.1)
pack_back (true ∷ false ∷ fs) (w ∷ ws) r h = ap (λ (vs : List ℕ). w ∷ vs) (pack_back (false ∷ fs) ws r h.1)
pack_back (true ∷ true ∷ fs) (w ∷ []) r h = absurd h.1
pack_back (true ∷ true ∷ fs) (w ∷ x ∷ ws) r h =
    two_more ((w * 2 ^ 32 + x) / 2 ^ 32) ((w * 2 ^ 32 + x) % 2 ^ 32) w x (unpack fs (pack fs ws ++ r)) ws (first_half w x (h.1.0 refl)) (second_half w x (h.1.0 refl)) (pack_back fs ws r h.1.1)
