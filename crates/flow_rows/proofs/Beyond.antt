-- A run, and the rows of another one that are above all of it.
use Rattle.std.proofs.Common.{◌≡◌, ℕ, suc, ◌+◌, ◌-◌, ◌<◌, ◌≤◌, ◌++◌, List, [], ◌∷◌, length, get_or, drop, take, refl, sym, ap, ◌∙◌, subst, append-nil, arith}
use Rattle.std.specs.List.{AllWithin}
use Rattle.std.specs.declared.cmp.Ordering.TheVariants.{Less, Equal, Greater}
use Rattle.std.proofs.Math.Seq.{drop-append-add}
use Rattle.std.proofs.lemmas.Cmp.{nat_list_cmp_total}
use Rattle.std.proofs.lemmas.List.{drop_more, get_or-drop, length-drop, length-take-le, take-append-drop}
use Rattle.std.proofs.lemmas.List.Elements.{All-append}
use Rattle.std.proofs.lemmas.List.Sums.{sum_by-take-drop}
use Rattle.flow_rows.proofs.Additive.{keys_same}
use Rattle.flow_rows.proofs.Ascending.{ascends_behind, turned}
use Rattle.flow_rows.proofs.Counting.{run_behind}
use Rattle.flow_rows.proofs.Downwards.{IsLast, Merging, moved}
use Rattle.flow_rows.specs.Rows.{Row, Above, Ascends, IsRun, part, total_at, words_cmp}

above_far : (k : List ℕ) (x : Row) (ys : List Row) → words_cmp k x.key ≡ Less → Above x.key ys → Above k ys
above_far k x [] l a = tt
above_far k x (y ∷ ys) l a = (nat_list_cmp_total.trans k x.key y.key l a.0, above_far k x ys l a.1)

above_joined : (k : List ℕ) (xs : List Row) (x : Row) (ys : List Row) → Above k (xs ++ x ∷ []) → Above x.key ys → Above k (xs ++ x ∷ ys)
above_joined k [] x ys a b = (a.0, above_far k x ys a.0 b)
above_joined k (z ∷ xs) x ys a b = (a.0, above_joined k xs x ys a.1 b)

ascends_joined : (xs : List Row) (x : Row) (ys : List Row) → Ascends (xs ++ x ∷ []) → Above x.key ys → Ascends ys → Ascends (xs ++ x ∷ ys)
ascends_joined [] x ys a b s = (b, s)
ascends_joined (z ∷ xs) x ys a b s = (above_joined z.key xs x ys a.0 b, ascends_joined xs x ys a.1 b s)

run_joined : (xs ys : List Row) (i : ℕ) (x : Row) → IsLast xs i x → IsRun (take i xs) → Above x.key ys → IsRun ys → IsRun (take i xs ++ ys)
unfolding IsRun
run_joined xs ys i x l a b s =
    let front : Ascends (take (i - 1) xs ++ x ∷ []) = subst Ascends (sym (append-nil (take i xs)) ∙ moved xs [] i x l) a.0 in
    (subst Ascends (sym (moved xs ys i x l)) (ascends_joined (take (i - 1) xs) x ys front b s.0), All-append (λ (y : Row). 0 < get_or y.numbers 0 0) (take i xs) ys a.1 s.1)

run_from : (ys : List Row) (p : ℕ) → IsRun ys → IsRun (drop p ys)
run_from ys p r = run_behind (take p ys) (drop p ys) (subst IsRun (sym (take-append-drop p ys)) r)

-- ---- where a search for the last row of the one comes out in the other

above_each : (q : List ℕ) (ys : List Row) → ((n : ℕ) (d : Row) → n < length ys → words_cmp (get_or ys n d).key q ≡ Greater) → Above q ys
above_each q [] h = tt
above_each q (y ∷ ys) h = (turned y.key q (h 0 y (omega arith)), above_each q ys (λ n d l. h (suc n) d (omega arith)))

above_within : (q : List ℕ) (ys : List Row) (p : ℕ) → AllWithin (λ (y : Row). words_cmp y.key q ≡ Greater) ys p (length ys) → Above q (drop p ys)
above_within q ys p a =
    above_each q (drop p ys)
    (λ n d l. subst (λ (y : Row). words_cmp y.key q ≡ Greater) (sym (get_or-drop p ys n d)) (a (p + n) d (omega arith) (omega (arith, length-drop p ys))))

above_next : (q : List ℕ) (ys : List Row) (p : ℕ) (d : Row) → p < length ys → words_cmp (get_or ys p d).key q ≡ Equal → Ascends ys → Above q (drop (p + 1) ys)
above_next q ys p d l e a =
    let rest : Ascends (get_or ys p d ∷ drop (p + 1) ys) = subst Ascends (drop_more ys p d l) (ascends_behind (take p ys) (drop p ys) (subst Ascends (sym (take-append-drop p ys)) a)) in
    subst (λ (k : List ℕ). Above k (drop (p + 1) ys)) (keys_same (get_or ys p d).key q e) rest.0

pub joined_at : (xs ys : List Row) (i p : ℕ) (x : Row) → IsLast xs i x → IsRun (take i xs) → IsRun ys → AllWithin (λ (y : Row). words_cmp y.key x.key ≡ Greater) ys p (length ys) → IsRun (take i xs ++ drop p ys)
joined_at xs ys i p x l a b w = run_joined xs (drop p ys) i x l a (above_within x.key ys p w) (run_from ys p b)

pub joined_after : (xs ys : List Row) (i p : ℕ) (x d : Row) → IsLast xs i x → IsRun (take i xs) → IsRun ys → Ascends ys → p < length ys → words_cmp (get_or ys p d).key x.key ≡ Equal → IsRun (take i xs ++ drop (p + 1) ys)
joined_after xs ys i p x d l a b s h e = run_joined xs (drop (p + 1) ys) i x l a (above_next x.key ys p d h e s) (run_from ys (p + 1) b)

pub last_of : (xs : List Row) (i : ℕ) (x : Row) → 0 < i → i ≤ length xs → x ≡ get_or xs (i - 1) x → IsLast xs i x
last_of xs i x p l e = record { some = p; within = l; at = e }

-- ---- a merge of which the upper part is done

pub merging_from : (rows newer : List Row) (older p : ℕ) → length rows ≡ older + length newer → drop older rows ≡ newer → p ≤ length newer → IsRun newer → IsRun (take older rows ++ drop p newer) → Merging rows newer (λ q k. total_at (take older rows) q k + total_at newer q k) (length rows) older p (older + p)
merging_from rows newer older p room e l n r =
    let first : length (take older rows) ≡ older = length-take-le older rows (omega arith) in
    let whole : rows ≡ take older rows ++ newer = sym (take-append-drop older rows) ∙ ap (λ (t : List Row). take older rows ++ t) e in
    let tail : drop (older + p) rows ≡ drop p newer =
    ap (λ (m : ℕ). drop (m + p) rows) (sym first) ∙ ap (λ (t : List Row). drop (length (take older rows) + p) t) whole ∙ drop-append-add (take older rows) newer p in
    record {
      in_newer = l;
      room = omega arith;
      same_length = refl;
      within = omega arith;
      totals = λ q k. omega (arith, ap (λ (t : List Row). total_at t q k) tail, sum_by-take-drop (part q k) newer p);
      older_run = subst (λ (t : List Row). IsRun (take older rows ++ t)) (sym tail) r;
      newer_run = subst IsRun (sym (ap (λ (t : List Row). take p newer ++ t) tail ∙ take-append-drop p newer)) n;
    }
