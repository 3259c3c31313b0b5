-- One step of a walk over the rows of all tables: at the first place a session is left out, or the walk goes on after it.
use Rattle.std.proofs.Common.{◌≡◌, ℕ, zero, suc, ◌+◌, ◌^◌, ◌<◌, ◌≤◌, Bool, List, [], ◌∷◌, ◌++◌, length, map, set, All, Option, None, Some, refl, sym, ap, ap₂, ◌∙◌, subst, inl, inr, arith, append_assoc}
use Rattle.std.specs.Prelude.{slice_index_or, if◌then◌else◌}
use Rattle.std.specs.declared.cmp.Ordering.TheVariants.{Less}
use Rattle.std.proofs.lemmas.List.Elements.{All-nil, All-cons, All-head, All-tail, All-set}
use Rattle.std.proofs.lemmas.List.{append-nil}
use Rattle.std.proofs.lemmas.List.Sums.{sum_by-cons, sum_by-set}
use Rattle.flow_table.specs.AddedUp.{place}
use Rattle.flow_table.specs.SameTables.{RowValue}
use Rattle.flow_table.specs.Tables.{place_cmp}
use Rattle.largest_sessions.specs.LeftOut.{Place, Numbers, together, own, FitAt, IsFirstTooLarge, IsLargest, GoesNext, without, AreLeftOut}
use Rattle.largest_sessions.specs.SessionNumbers.{by_rows}
use Rattle.largest_sessions.specs.Walks.{Rows, first_number, first_numbers, StartsAt, StartsWith, IsNotBefore, StartsFirst, IsFirstOf, HasMost, after_place, Ascend, list_of, rows_left, Continues, Walked}
use Rattle.largest_sessions.proofs.LeftAlike.{Agree, left_out-agree}
use Rattle.largest_sessions.proofs.PlaceOrder.{place_tells, same_or_other}
use Rattle.largest_sessions.proofs.Rests.{none_ascend, none_before, all_at_first, after-other, after-none, after-ascend}
use Rattle.largest_sessions.proofs.FirstRows.{no_rows, none_before_first, own_start}

-- ---- the rows of all sessions

pub together-first : (all : List Rows) (p : Place) (n : ℕ) → All Ascend all → All (IsNotBefore p) all → together (map by_rows all) p n ≡ first_numbers all p n
together-first [] p n ascend first = refl
together-first (rows ∷ others) p n ascend first =
    ap₂ (λ (a b : ℕ). a + b) (all_at_first rows p n (All-head Ascend rows others ascend) (All-head (IsNotBefore p) rows others first))
    (together-first others p n (All-tail Ascend rows others ascend) (All-tail (IsNotBefore p) rows others first))
    ∙ sym (sum_by-cons (λ (r : Rows). first_number r p n) rows others)

together-before : (all : List Rows) (p q : Place) (n : ℕ) → All Ascend all → All (IsNotBefore p) all → place_cmp q p ≡ Less → together (map by_rows all) q n ≡ 0
together-before [] p q n ascend first less = refl
together-before (rows ∷ others) p q n ascend first less =
    ap₂ (λ (a b : ℕ). a + b) (none_before rows p q n (All-head Ascend rows others ascend) (All-head (IsNotBefore p) rows others first) less)
    (together-before others p q n (All-tail Ascend rows others ascend) (All-tail (IsNotBefore p) rows others first) less)

together-after : (all : List Rows) (p : Place) (n : ℕ) → All Ascend all → All (IsNotBefore p) all → together (map by_rows (map (after_place p) all)) p n ≡ 0
together-after [] p n ascend first = refl
together-after (rows ∷ others) p n ascend first =
    ap₂ (λ (a b : ℕ). a + b) (after-none rows p n (All-head Ascend rows others ascend) (All-head (IsNotBefore p) rows others first))
    (together-after others p n (All-tail Ascend rows others ascend) (All-tail (IsNotBefore p) rows others first))

pub together-none : (all : List Rows) (p : Place) (n : ℕ) → All (λ rows. rows ≡ []) all → together (map by_rows all) p n ≡ 0
together-none [] p n none = refl
together-none (rows ∷ others) p n none =
    ap₂ (λ (a b : ℕ). a + b) (ap (λ (r : Rows). by_rows r p n) (All-head (λ r. r ≡ []) rows others none)) (together-none others p n (All-tail (λ r. r ≡ []) rows others none))

after-agree : (count : ℕ) (all : List Rows) (p : Place) → Agree count (λ q. q ≡ p) (map by_rows all) (map by_rows (map (after_place p) all))
after-agree count [] p = tt
after-agree count (rows ∷ others) p = (λ q other n counted. after-other rows p q n other, after-agree count others p)

pub all-after-ascend : (all : List Rows) (p : Place) → All Ascend all → All Ascend (map (after_place p) all)
all-after-ascend [] p ascend = All-nil Ascend
all-after-ascend (rows ∷ others) p ascend =
    All-cons Ascend (after_place p rows) (map (after_place p) others) (after-ascend rows p (All-head Ascend rows others ascend)) (all-after-ascend others p (All-tail Ascend rows others ascend))

-- ---- on after a place

pub goes_on : (count : ℕ) (all : List Rows) (p : Place) → All Ascend all → All (IsNotBefore p) all → ((n : ℕ) → n < count → first_numbers all p n < 2 ^ 64)
    → (more : List ℕ) → AreLeftOut count (map by_rows (map (after_place p) all)) more → AreLeftOut count (map by_rows all) more
goes_on count all p ascend first fits more left =
    left_out-agree count (λ q. q ≡ p) (same_or_other p) (map by_rows all) (map by_rows (map (after_place p) all)) (after-agree count all p) here gone more left
  where
    here : (q : Place) → q ≡ p → FitAt count (map by_rows all) q
    here q same n counted = subst (λ (r : Place). together (map by_rows all) r n < 2 ^ 64) (sym same) (subst (λ (a : ℕ). a < 2 ^ 64) (sym (together-first all p n ascend first)) (fits n counted))

    gone : (q : Place) → q ≡ p → FitAt count (map by_rows (map (after_place p) all)) q
    gone q same n counted =
        subst (λ (r : Place). together (map by_rows (map (after_place p) all)) r n < 2 ^ 64) (sym same) (subst (λ (a : ℕ). a < 2 ^ 64) (sym (together-after all p n ascend first)) (omega arith))

-- ---- a session is left out

without-rows : (all : List Rows) (i : ℕ) → map by_rows (set all i []) ≡ without i (map by_rows all)
without-rows [] i = refl
without-rows (rows ∷ others) zero = refl
without-rows (rows ∷ others) (suc i) = ap (λ (fs : List Numbers). by_rows rows ∷ fs) (without-rows others i)

own-first : (all : List Rows) (i : ℕ) (p : Place) (n : ℕ) → All Ascend all → All (IsNotBefore p) all → own (map by_rows all) i p n ≡ first_number (slice_index_or all i []) p n
own-first [] i p n ascend first = refl
own-first (rows ∷ others) zero p n ascend first = all_at_first rows p n (All-head Ascend rows others ascend) (All-head (IsNotBefore p) rows others first)
own-first (rows ∷ others) (suc i) p n ascend first = own-first others i p n (All-tail Ascend rows others ascend) (All-tail (IsNotBefore p) rows others first)

length-rows : (all : List Rows) → length (map by_rows all) ≡ length all
length-rows [] = refl
length-rows (rows ∷ others) = ap suc (length-rows others)

pub goes_next : (count : ℕ) (all : List Rows) (p : Place) (n i : ℕ) → All Ascend all → All (IsNotBefore p) all → n < count → 2 ^ 64 ≤ first_numbers all p n → ((m : ℕ) → m < n → first_numbers all p m < 2 ^ 64) → HasMost all (length all) p n i
    → GoesNext count (map by_rows all) i
goes_next count all p n i ascend first counted large small most =
    record { place = p; number = n; too_large = too_large; largest = largest }
  where
    same : (j : ℕ) → own (map by_rows all) j p n ≡ first_number (slice_index_or all j []) p n
    same j = own-first all j p n ascend first

    too_large : IsFirstTooLarge count (map by_rows all) p n
    too_large = record {
      counted = counted;
      large = subst (λ (a : ℕ). 2 ^ 64 ≤ a) (sym (together-first all p n ascend first)) large;
      row = λ q less m in_row. subst (λ (a : ℕ). a < 2 ^ 64) (sym (together-before all p q m ascend first less)) (omega arith);
      number = λ m less. subst (λ (a : ℕ). a < 2 ^ 64) (sym (together-first all p m ascend first)) (small m less);
    }

    largest : IsLargest (map by_rows all) p n i
    largest = record {
      inside = omega (arith, length-rows all, most.inside);
      most = λ j inside. omega (arith, same j, same i, most.most j (omega (arith, length-rows all)));
      first = λ j less. omega (arith, same j, same i, most.first j less);
    }

pub goes_without : (count : ℕ) (all : List Rows) (p : Place) (n i : ℕ) → All Ascend all → All (IsNotBefore p) all → n < count → 2 ^ 64 ≤ first_numbers all p n → ((m : ℕ) → m < n → first_numbers all p m < 2 ^ 64) → HasMost all (length all) p n i
    → (more : List ℕ) → AreLeftOut count (map by_rows (set all i [])) more → AreLeftOut count (map by_rows all) (i ∷ more)
goes_without count all p n i ascend first counted large small most more left =
    (goes_next count all p n i ascend first counted large small most, subst (λ (fs : List Numbers). AreLeftOut count fs more) (without-rows all i) left)

-- ---- there are fewer rows

none_at_all : (all : List Rows) (p : Place) (n : ℕ) → ((j : ℕ) → j < length all → first_number (slice_index_or all j []) p n ≤ 0) → first_numbers all p n ≡ 0
none_at_all [] p n none = refl
none_at_all (rows ∷ others) p n none =
    omega (arith, sum_by-cons (λ (r : Rows). first_number r p n) rows others, none 0 (omega arith), none_at_all others p n (λ j inside. none (suc j) (omega arith)))

some_row : (rows : Rows) (p : Place) (n : ℕ) → 0 < first_number rows p n → 0 < length rows
some_row [] p n some = absurd (omega arith)
some_row (row ∷ rows) p n some = omega arith

has_row : (all : List Rows) (p : Place) (n i : ℕ) → HasMost all (length all) p n i → 2 ^ 64 ≤ first_numbers all p n → 0 < length (slice_index_or all i [])
has_row all p n i most large = some_row (slice_index_or all i []) p n (positive (first_number (slice_index_or all i []) p n) (λ none. empty (first_numbers all p n) large
    (none_at_all all p n (λ j inside. omega (arith, none, most.most j inside)))))
  where
    positive : (k : ℕ) → (k ≡ 0 → ⊥) → 0 < k
    positive zero other = absurd (other refl)
    positive (suc k) other = omega arith

    empty : (k : ℕ) → 2 ^ 64 ≤ k → k ≡ 0 → ⊥
    empty k large none = omega arith

fewer_without : (all : List Rows) (i : ℕ) → i < length all → 0 < length (slice_index_or all i []) → rows_left (set all i []) < rows_left all
fewer_without all i inside some = omega (arith, sum_by-set (length {A = RowValue}) all i [] [] inside)

abbrev LeftOf : Rows → RowValue → Bool → Rows
LeftOf rows row b = if b then rows else row ∷ rows

not_more : (rows : Rows) (p : Place) → length (after_place p rows) ≤ length rows
not_more [] p = omega arith
not_more (row ∷ rows) p = elim (place_tells p (place row)) [
  | inl same ↦ subst (λ (b : Bool). length (LeftOf rows row b) ≤ length (row ∷ rows)) (sym same.0) (omega arith)
  | inr other ↦ subst (λ (b : Bool). length (LeftOf rows row b) ≤ length (row ∷ rows)) (sym other.0) (omega arith)
]

one_less : (rows : Rows) (p : Place) → StartsAt p rows → length (after_place p rows) < length rows
one_less [] p starts = absurd starts
one_less (row ∷ rows) p starts = elim (place_tells p (place row)) [
  | inl same ↦ subst (λ (b : Bool). length (LeftOf rows row b) < length (row ∷ rows)) (sym same.0) (omega arith)
  | inr other ↦ absurd (other.1 (sym starts))
]

all_not_more : (all : List Rows) (p : Place) → rows_left (map (after_place p) all) ≤ rows_left all
all_not_more [] p = omega arith
all_not_more (rows ∷ others) p =
    omega (arith, sum_by-cons (length {A = RowValue}) rows others, sum_by-cons (length {A = RowValue}) (after_place p rows) (map (after_place p) others), not_more rows p, all_not_more others p)

fewer_after : (all : List Rows) (p : Place) (i : ℕ) → StartsAt p (slice_index_or all i []) → rows_left (map (after_place p) all) < rows_left all
fewer_after [] p i starts = absurd starts
fewer_after (rows ∷ others) p zero starts =
    omega (arith, sum_by-cons (length {A = RowValue}) rows others, sum_by-cons (length {A = RowValue}) (after_place p rows) (map (after_place p) others), one_less rows p starts, all_not_more others p)
fewer_after (rows ∷ others) p (suc i) starts =
    omega (arith, sum_by-cons (length {A = RowValue}) rows others, sum_by-cons (length {A = RowValue}) (after_place p rows) (map (after_place p) others), not_more rows p, fewer_after others p i starts)

-- ---- a step

pub step_goes : (count : ℕ) (all after : List Rows) (row : RowValue) (first n i : ℕ) → All Ascend all → StartsFirst all (length all) first → StartsWith row (slice_index_or all first [])
    → n < count → 2 ^ 64 ≤ first_numbers all (place row) n → ((m : ℕ) → m < n → first_numbers all (place row) m < 2 ^ 64) → HasMost all (length all) (place row) n i → after ≡ set all i [] → Continues count all after (Some i)
step_goes count all after row first n i ascend is_first starts counted large small most is = subst (λ (rest : List Rows). Continues count all rest (Some i)) (sym is) (record {
  ascend = All-set Ascend all i [] none_ascend ascend;
  fewer = fewer_without all i most.inside (has_row all (place row) n i most large);
  more = goes_without count all (place row) n i ascend (none_before_first all first row is_first starts) counted large small most;
})

pub step_on : (count : ℕ) (all after : List Rows) (row : RowValue) (first : ℕ) → All Ascend all → StartsFirst all (length all) first → StartsWith row (slice_index_or all first [])
    → ((m : ℕ) → m < count → first_numbers all (place row) m < 2 ^ 64) → after ≡ map (after_place (place row)) all → Continues count all after None
step_on count all after row first ascend is_first starts fits is = subst (λ (rest : List Rows). Continues count all rest None) (sym is) (record {
  ascend = all-after-ascend all (place row) ascend;
  fewer = fewer_after all (place row) first (own_start row (slice_index_or all first []) starts);
  more = goes_on count all (place row) ascend (none_before_first all first row is_first starts) fits;
})

-- ---- from the first step to the last

pub walked_begins : (count : ℕ) (all : List Rows) → All Ascend all → Walked count all all []
walked_begins count all ascend = record { ascend = ascend; more = λ rest left. left }

pub walked_on : (count : ℕ) (begins all after : List Rows) (out more : List ℕ) (went : Option ℕ) → Walked count begins all out → Continues count all after went → more ≡ out ++ list_of went → Walked count begins after more
walked_on count begins all after out more went walked on is = subst (Walked count begins after) (sym is) (record {
  ascend = on.ascend;
  more = λ rest left. subst (AreLeftOut count (map by_rows begins)) (sym (append_assoc out (list_of went) rest)) (walked.more (list_of went ++ rest) (on.more rest left));
})

pub walked_ends : (count : ℕ) (begins all : List Rows) (out : List ℕ) → Walked count begins all out → IsFirstOf all (length all) None → AreLeftOut count (map by_rows begins) out
walked_ends count begins all out walked none =
    subst (AreLeftOut count (map by_rows begins)) (append-nil out) (walked.more [] (λ p n counted. subst (λ (a : ℕ). a < 2 ^ 64) (sym (together-none all p n (no_rows all none))) (omega arith)))
