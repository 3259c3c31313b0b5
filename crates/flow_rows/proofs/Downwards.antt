-- Two runs merged from their greatest keys down: what is left of each, and after it what came of both.
use Rattle.std.proofs.Common.{◌≡◌, ℕ, ◌+◌, ◌-◌, ◌<◌, ◌≤◌, ◌^◌, ◌++◌, ◌⊎◌, List, [], ◌∷◌, length, get_or, drop, set, take, refl, sym, ap, ◌∙◌, subst, append_assoc, append-nil, inl, inr, arith}
use borrow.Rule.Slice.PartMut.{put_mid}
use Rattle.std.specs.declared.cmp.Ordering.{Ordering}
use Rattle.std.specs.declared.cmp.Ordering.TheVariants.{Less, Equal}
use Rattle.std.proofs.lemmas.List.{drop-set, get_or_default, length-drop, length-set, length-take-le, take-set-le, take_more}
use Rattle.std.proofs.lemmas.Slice.{drop-put_mid, take-put_mid}
use Rattle.std.proofs.lemmas.List.Sums.{sum_by-append, sum_by-cons}
use Rattle.flow_rows.proofs.Additive.{keys_same, part_adds}
use Rattle.flow_rows.proofs.Counting.{run_behind, run_between, run_in_place, sum_counted}
use Rattle.flow_rows.proofs.Within.{part_own, part_tied}
use Rattle.flow_rows.specs.Rows.{Row, IsRun, part, row_sum, total_at, words_cmp}

-- the last of the first i rows
pub record IsLast (xs : List Row) (i : ℕ) (x : Row) : Type 0 where
  pub some : 0 < i
  pub within : i ≤ length xs
  pub at : x ≡ get_or xs (i - 1) x

last_same : (xs : List Row) (i : ℕ) (x y : Row) → IsLast xs i x → IsLast xs i y → x ≡ y
last_same xs i x y l m = l.at ∙ get_or_default xs (i - 1) x y (omega (arith, l.some, l.within)) ∙ sym m.at

-- how the last rows compare, wherever they were read
pub compared : (xs ys : List Row) (i j : ℕ) (x x2 y y2 : Row) (r : Ordering) → IsLast xs i x → IsLast xs i x2 → IsLast ys j y → IsLast ys j y2 → r ≡ words_cmp (get_or xs (i - 1) x).key y.key → (s : Ordering) → r ≡ s → words_cmp x2.key y2.key ≡ s
compared xs ys i j x x2 y y2 r l l2 m m2 e s is =
    ap (λ (w : Row). words_cmp w.key y2.key) (last_same xs i x2 x l2 l ∙ l.at) ∙ ap (λ (w : Row). words_cmp (get_or xs (i - 1) x).key w.key) (last_same ys j y2 y m2 m) ∙ sym e ∙ is

pub moved : (xs ys : List Row) (i : ℕ) (x : Row) → IsLast xs i x → take i xs ++ ys ≡ take (i - 1) xs ++ x ∷ ys
moved xs ys i x l =
    let next : i - 1 + 1 ≡ i = omega (arith, l.some) in
    let all : take i xs ≡ take (i - 1) xs ++ x ∷ [] =
    ap (λ (n : ℕ). take n xs) (sym next) ∙ take_more xs (i - 1) x (omega (arith, l.some, l.within)) ∙ ap (λ (y : Row). take (i - 1) xs ++ y ∷ []) (sym l.at) in
    ap (λ (zs : List Row). zs ++ ys) all ∙ append_assoc (take (i - 1) xs) (x ∷ []) ys

pub moved_total : (xs : List Row) (i : ℕ) (x : Row) (q : List ℕ) (k : ℕ) → IsLast xs i x → total_at (take i xs) q k ≡ total_at (take (i - 1) xs) q k + part q k x
moved_total xs i x q k l =
    omega (arith, sum_by-append (part q k) (take i xs) [], ap (λ (zs : List Row). total_at zs q k) (moved xs [] i x l), sum_by-append (part q k) (take (i - 1) xs) (x ∷ []), sum_by-cons (part q k) x [])

pub less_step : (xs ys zs : List Row) (i j : ℕ) (x y : Row) → IsLast xs i x → IsLast ys j y → words_cmp x.key y.key ≡ Less → IsRun (take i xs ++ zs) → IsRun (take j ys ++ zs) → IsRun (take i xs ++ y ∷ zs) × IsRun (take (j - 1) ys ++ y ∷ zs)
less_step xs ys zs i j x y l m less a b =
    let newer : IsRun (take (j - 1) ys ++ y ∷ zs) = subst IsRun (moved ys zs j y m) b in (
      subst IsRun (sym (moved xs (y ∷ zs) i x l)) (run_between (take (i - 1) xs) x y zs less (run_behind (take (j - 1) ys) (y ∷ zs) newer) (subst IsRun (moved xs zs i x l) a)),
      newer,
    )

pub equal_step : (xs ys zs : List Row) (i j : ℕ) (x y : Row) → IsLast xs i x → IsLast ys j y → words_cmp x.key y.key ≡ Equal → IsRun (take i xs ++ zs) → IsRun (take j ys ++ zs) → IsRun (take (i - 1) xs ++ row_sum x y ∷ zs) × IsRun (take (j - 1) ys ++ row_sum x y ∷ zs)
equal_step xs ys zs i j x y l m same a b =
    let older : IsRun (take (i - 1) xs ++ x ∷ zs) = subst IsRun (moved xs zs i x l) a in
    let counted = sum_counted x y zs (run_behind (take (i - 1) xs) (x ∷ zs) older) in (
      run_in_place (take (i - 1) xs) x (row_sum x y) zs refl counted older,
      run_in_place (take (j - 1) ys) y (row_sum x y) zs (sym (keys_same x.key y.key same)) counted (subst IsRun (moved ys zs j y m) b),
    )

-- the first i rows and the first j of the newer run are left, and what came of the others stands from a place on
pub record Merging (rows newer : List Row) (total : List ℕ → ℕ → ℕ) (long i j place : ℕ) : Type 0 where
  pub in_newer : j ≤ length newer
  pub room : i + j ≤ place
  pub same_length : length rows ≡ long
  pub within : place ≤ long
  pub totals : (q : List ℕ) (k : ℕ) → total_at (take i rows) q k + total_at (take j newer) q k + total_at (drop place rows) q k ≡ total q k
  pub older_run : IsRun (take i rows ++ drop place rows)
  pub newer_run : IsRun (take j newer ++ drop place rows)

-- the last rows that are left, as they were read
pub older_last : (rows newer : List Row) (total : List ℕ → ℕ → ℕ) (long i j place : ℕ) (x : Row) → Merging rows newer total long i j place → 0 < i → x ≡ get_or rows (i - 1) x → IsLast rows i x
older_last rows newer total long i j place x h some at = record { some = some; within = omega (arith, h.room, h.within, h.same_length); at = at }

pub newer_last : (rows newer : List Row) (total : List ℕ → ℕ → ℕ) (long i j place : ℕ) (y : Row) → Merging rows newer total long i j place → 0 < j → y ≡ get_or newer (j - 1) y → IsLast newer j y
newer_last rows newer total long i j place y h some at = record { some = some; within = h.in_newer; at = at }

-- a row is put down, and so many are left
pub put_down : (rows newer : List Row) (total : List ℕ → ℕ → ℕ) (long i j place : ℕ) (z : Row) (i2 j2 : ℕ) → Merging rows newer total long i j place → 0 < i + j → i2 ≤ i → j2 ≤ j → i2 + j2 < i + j
    → ((q : List ℕ) (k : ℕ) → total_at (take i2 rows) q k + total_at (take j2 newer) q k + part q k z ≡ total_at (take i rows) q k + total_at (take j newer) q k)
    → IsRun (take i2 rows ++ z ∷ drop place rows) × IsRun (take j2 newer ++ z ∷ drop place rows)
    → Merging (set rows (place - 1) z) newer total long i2 j2 (place - 1)
put_down rows newer total long i j place z i2 j2 m some less_i less_j fewer sums runs =
    let next : place - 1 + 1 ≡ place = omega (arith, m.room) in
    let left : take i2 (set rows (place - 1) z) ≡ take i2 rows = take-set-le i2 rows (place - 1) z (omega (arith, m.room)) in
    let made : drop (place - 1) (set rows (place - 1) z) ≡ z ∷ drop place rows =
    drop-set rows (place - 1) z (omega (arith, m.room, m.within, m.same_length)) ∙ ap (λ (n : ℕ). z ∷ drop n rows) next in
    record {
      in_newer = omega (arith, m.in_newer);
      room = omega (arith, m.room);
      same_length = length-set rows (place - 1) z ∙ m.same_length;
      within = omega (arith, m.within);
      totals = λ q k. omega (arith, ap (λ (t : List Row). total_at t q k) left, ap (λ (t : List Row). total_at t q k) made, sum_by-cons (part q k) z (drop place rows), sums q k, m.totals q k);
      older_run = subst IsRun (sym (ap (λ (t : List Row). t ++ drop (place - 1) (set rows (place - 1) z)) left ∙ ap (λ (t : List Row). take i2 rows ++ t) made)) runs.0;
      newer_run = subst IsRun (sym (ap (λ (t : List Row). take j2 newer ++ t) made)) runs.1;
    }

-- the last row of the older run, or of the newer, or both as one, is put down
pub put_newer : (rows newer : List Row) (total : List ℕ → ℕ → ℕ) (long i j place : ℕ) (x y : Row) → IsLast rows i x → IsLast newer j y → words_cmp x.key y.key ≡ Less → Merging rows newer total long i j place → Merging (set rows (place - 1) y) newer total long i (j - 1) (place - 1)
put_newer rows newer total long i j place x y l m less h =
    put_down rows newer total long i j place y i (j - 1) h (omega (arith, l.some)) (omega arith) (omega arith) (omega (arith, m.some))
    (λ q k. omega (arith, moved_total newer j y q k m))
    (less_step rows newer (drop place rows) i j x y l m less h.older_run h.newer_run)

pub put_older : (rows newer : List Row) (total : List ℕ → ℕ → ℕ) (long i j place : ℕ) (x y : Row) → IsLast rows i x → IsLast newer j y → words_cmp y.key x.key ≡ Less → Merging rows newer total long i j place → Merging (set rows (place - 1) x) newer total long (i - 1) j (place - 1)
put_older rows newer total long i j place x y l m less h =
    let runs = less_step newer rows (drop place rows) j i y x m l less h.newer_run h.older_run in
    put_down rows newer total long i j place x (i - 1) j h (omega (arith, l.some)) (omega arith) (omega arith) (omega (arith, l.some)) (λ q k. omega (arith, moved_total rows i x q k l)) (runs.1, runs.0)

pub put_both : (rows newer : List Row) (total : List ℕ → ℕ → ℕ) (long i j place : ℕ) (x y z : Row) → IsLast rows i x → IsLast newer j y → words_cmp x.key y.key ≡ Equal → z ≡ row_sum x y → Merging rows newer total long i j place → Merging (set rows (place - 1) z) newer total long (i - 1) (j - 1) (place - 1)
put_both rows newer total long i j place x y z l m same e h =
    subst (λ (w : Row). Merging (set rows (place - 1) w) newer total long (i - 1) (j - 1) (place - 1)) (sym e)
    (put_down rows newer total long i j place (row_sum x y) (i - 1) (j - 1) h (omega (arith, l.some)) (omega arith) (omega arith) (omega (arith, l.some))
    (λ q k. omega (arith, moved_total rows i x q k l, moved_total newer j y q k m, (part_adds q k).at x y same))
    (equal_step rows newer (drop place rows) i j x y l m same h.older_run h.newer_run))

-- the numbers of two rows of one key can be added up
pub small_both : (rows newer : List Row) (total : List ℕ → ℕ → ℕ) (long i j place : ℕ) (x y : Row) → IsLast rows i x → IsLast newer j y → words_cmp x.key y.key ≡ Equal → Merging rows newer total long i j place → ((q : List ℕ) (k : ℕ) → total q k < 2 ^ 64) → (k : ℕ) → get_or x.numbers k 0 + get_or y.numbers k 0 < 2 ^ 64
small_both rows newer total long i j place x y l m same h small k =
    omega (arith, moved_total rows i x x.key k l, part_own x k, moved_total newer j y x.key k m, part_tied x.key k y same, h.totals x.key k, small x.key k)

-- what is left of one run, when nothing is left of the other
pub all_down : (rows newer out : List Row) (total : List ℕ → ℕ → ℕ) (long i j place : ℕ) → Merging rows newer total long i j place → (i ≡ 0) ⊎ (j ≡ 0) → out ≡ (take i rows ++ take j newer) ++ drop place rows → IsRun out
all_down rows newer out total long i j place h (inl e) o =
    subst IsRun (sym (o ∙ ap (λ (n : ℕ). (take n rows ++ take j newer) ++ drop place rows) e)) h.newer_run
all_down rows newer out total long i j place h (inr e) o =
    subst IsRun (sym (o ∙ ap (λ (n : ℕ). (take i rows ++ take n newer) ++ drop place rows) e ∙ ap (λ (t : List Row). t ++ drop place rows) (append-nil (take i rows)))) h.older_run

pub total_down : (rows newer out : List Row) (total : List ℕ → ℕ → ℕ) (long i j place : ℕ) → Merging rows newer total long i j place → out ≡ (take i rows ++ take j newer) ++ drop place rows → (q : List ℕ) (k : ℕ) → total_at out q k ≡ total q k
total_down rows newer out total long i j place h o q k =
    omega (arith, ap (λ (t : List Row). total_at t q k) o, sum_by-append (part q k) (take i rows ++ take j newer) (drop place rows), sum_by-append (part q k) (take i rows) (take j newer), h.totals q k)

both_same : (xs ys us vs : List Row) → xs ≡ us → ys ≡ vs → xs ++ ys ≡ us ++ vs
both_same xs ys us vs p q = cc

-- what is left of the newer run is copied after what is left of the older
pub all_laid : (rows newer part : List Row) (total : List ℕ → ℕ → ℕ) (long i j place : ℕ) → Merging rows newer total long i j place → length part ≡ length (take (i + j - i) (drop i rows)) → part ≡ take j newer
    → take (i + j) (put_mid i (i + j - i) rows part) ++ drop place (put_mid i (i + j - i) rows part) ≡ (take i rows ++ take j newer) ++ drop place rows
all_laid rows newer part total long i j place h l e =
    let room : i ≤ length rows = omega (arith, h.room, h.within, h.same_length) in
    let whole : length part ≡ i + j - i = l ∙ length-take-le (i + j - i) (drop i rows) (omega (arith, length-drop i rows, h.room, h.within, h.same_length)) in
    both_same (take (i + j) (put_mid i (i + j - i) rows part)) (drop place (put_mid i (i + j - i) rows part)) (take i rows ++ take j newer) (drop place rows)
    (take-put_mid i (i + j - i) rows part (i + j) (omega (arith, whole)) room ∙ ap (λ (t : List Row). take i rows ++ t) e)
    (drop-put_mid i (i + j - i) rows part place (omega (arith, h.room)) room whole)
