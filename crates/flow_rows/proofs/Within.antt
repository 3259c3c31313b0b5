-- A row's numbers are within the totals of its key.
use Rattle.std.proofs.Common.{◌≡◌, ℕ, ◌+◌, ◌<◌, ◌≤◌, ◌^◌, List, length, get_or, drop, sym, ap, subst, arith}
use Rattle.std.specs.Ordering.{is_eq}
use Rattle.std.specs.declared.cmp.Ordering.TheVariants.{Equal}
use Rattle.std.proofs.lemmas.Cmp.{nat_list_cmp_total, tied_itself}
use Rattle.std.proofs.lemmas.List.Sums.{get_or-le-sum_by, sum_by-drop_more, sum_by-take-drop}
use Rattle.flow_rows.proofs.Additive.{get_or-added, keys_same}
use Rattle.flow_rows.proofs.Found.{part_same}
use Rattle.flow_rows.specs.Rows.{Row, Small, part, row_sum, total_at, words_cmp}

pub part_own : (x : Row) (i : ℕ) → part x.key i x ≡ get_or x.numbers i 0
part_own x i = part_same x.key i x (ap is_eq (tied_itself nat_list_cmp_total x.key))

-- at an equal key
pub part_tied : (q : List ℕ) (i : ℕ) (x : Row) → words_cmp q x.key ≡ Equal → part q i x ≡ get_or x.numbers i 0
part_tied q i x e = subst (λ (k : List ℕ). part k i x ≡ get_or x.numbers i 0) (sym (keys_same q x.key e)) (part_own x i)

pub within : (xs : List Row) (n : ℕ) (x : Row) (i : ℕ) → x ≡ get_or xs n x → n < length xs → get_or x.numbers i 0 ≤ total_at xs x.key i
within xs n x i e l =
    let h : part x.key i (get_or xs n x) ≤ total_at xs x.key i = get_or-le-sum_by (part x.key i) xs n x l in
    omega (arith, part_own x i, ap (part x.key i) e)

pub total_left : (xs : List Row) (i : ℕ) (next : Row) (q : List ℕ) (k : ℕ) → i < length xs → next ≡ get_or xs i next → total_at (drop i xs) q k ≡ part q k next + total_at (drop (i + 1) xs) q k
total_left xs i next q k l n = omega (arith, sum_by-drop_more (part q k) xs i next l, ap (part q k) n)

pub total_drop : (xs : List Row) (i : ℕ) (q : List ℕ) (k : ℕ) → total_at (drop i xs) q k ≤ total_at xs q k
total_drop xs i q k = omega (arith, sum_by-take-drop (part q k) xs i)

pub fold_starts : (xs : List Row) (first : Row) (k : ℕ) → 0 < length xs → first ≡ get_or xs 0 first → get_or first.numbers k 0 + total_at (drop 1 xs) first.key k ≤ total_at xs first.key k
fold_starts xs first k l e = omega (arith, total_left xs 0 first first.key k l e, part_own first k)

pub fold_small : (xs : List Row) (last next : Row) (i k : ℕ) → i < length xs → next ≡ get_or xs i next → words_cmp last.key next.key ≡ Equal → Small (total_at xs) → get_or last.numbers k 0 + total_at (drop i xs) last.key k ≤ total_at xs last.key k → get_or last.numbers k 0 + get_or next.numbers k 0 < 2 ^ 64
fold_small xs last next i k l n e small h = omega (arith, total_left xs i next last.key k l n, part_tied last.key k next e, small last.key k)

pub small_equal : (xs : List Row) (last last2 next : Row) (i k : ℕ) → i < length xs → next ≡ get_or xs i next → words_cmp last.key next.key ≡ Equal → last2 ≡ row_sum last next → get_or last.numbers k 0 + total_at (drop i xs) last.key k ≤ total_at xs last.key k → get_or last2.numbers k 0 + total_at (drop (i + 1) xs) last2.key k ≤ total_at xs last2.key k
small_equal xs last last2 next i k l n e s h =
    subst (λ (z : Row). get_or z.numbers k 0 + total_at (drop (i + 1) xs) z.key k ≤ total_at xs z.key k) (sym s)
    (omega (arith, get_or-added last.numbers next.numbers k, total_left xs i next last.key k l n, part_tied last.key k next e))

pub small_other : (xs : List Row) (last2 next : Row) (i k : ℕ) → i < length xs → next ≡ get_or xs i next → last2 ≡ next → get_or last2.numbers k 0 + total_at (drop (i + 1) xs) last2.key k ≤ total_at xs last2.key k
small_other xs last2 next i k l n s =
    subst (λ (z : Row). get_or z.numbers k 0 + total_at (drop (i + 1) xs) z.key k ≤ total_at xs z.key k) (sym s)
    (omega (arith, total_left xs i next next.key k l n, part_own next k, total_drop xs i next.key k))
