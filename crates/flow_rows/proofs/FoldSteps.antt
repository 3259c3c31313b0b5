-- One step of a fold, at a place of a list.
use Rattle.std.proofs.Common.{◌≡◌, ℕ, ◌+◌, ◌<◌, ◌++◌, ◌⊎◌, List, [], ◌∷◌, length, get_or, drop, sym, ap, ◌∙◌, append_assoc, inl, inr}
use Rattle.std.proofs.lemmas.List.{drop_more}
use Rattle.std.specs.declared.cmp.Ordering.{Ordering}
use Rattle.std.specs.declared.cmp.Ordering.TheVariants.{Less, Equal, Greater}
use Rattle.flow_rows.specs.Rows.{Row, row_sum, words_cmp}
use Rattle.flow_rows.specs.Folded.{by_order, folded, folded_onto}

split_at : (xs : List Row) (i : ℕ) (next : Row) → i < length xs → next ≡ get_or xs i next → drop i xs ≡ next ∷ drop (i + 1) xs
split_at xs i next l e = drop_more xs i next l ∙ ap (λ (n : Row). n ∷ drop (i + 1) xs) (sym e)

onto_by : (x y : Row) (ys : List Row) (r : Ordering) → words_cmp x.key y.key ≡ r → folded_onto x (y ∷ ys) ≡ by_order r (x ∷ folded_onto y ys) (folded_onto (row_sum x y) ys) (x ∷ folded_onto y ys)
onto_by x y ys r e = ap (λ (o : Ordering). by_order o (x ∷ folded_onto y ys) (folded_onto (row_sum x y) ys) (x ∷ folded_onto y ys)) e

onto_other : (x y : Row) (ys : List Row) → (words_cmp x.key y.key ≡ Less) ⊎ (words_cmp x.key y.key ≡ Greater) → folded_onto x (y ∷ ys) ≡ x ∷ folded_onto y ys
onto_other x y ys (inl e) = onto_by x y ys Less e
onto_other x y ys (inr e) = onto_by x y ys Greater e

pub fold_begins : (os xs : List Row) (first : Row) → os ≡ [] → 0 < length xs → first ≡ get_or xs 0 first → os ++ folded_onto first (drop 1 xs) ≡ folded xs
fold_begins os xs first o l e = ap (λ (t : List Row). t ++ folded_onto first (drop 1 xs)) o ∙ sym (ap folded (split_at xs 0 first l e))

pub fold_equal : (os os2 xs all : List Row) (last last2 next : Row) (i : ℕ) → i < length xs → next ≡ get_or xs i next → words_cmp last.key next.key ≡ Equal → last2 ≡ row_sum last next → os2 ≡ os → os ++ folded_onto last (drop i xs) ≡ all → os2 ++ folded_onto last2 (drop (i + 1) xs) ≡ all
fold_equal os os2 xs all last last2 next i l n e s o h =
    ap (λ (t : List Row). t ++ folded_onto last2 (drop (i + 1) xs)) o
    ∙ ap (λ (x : Row). os ++ folded_onto x (drop (i + 1) xs)) s
    ∙ ap (λ (t : List Row). os ++ t) (sym (onto_by last next (drop (i + 1) xs) Equal e))
    ∙ ap (λ (t : List Row). os ++ folded_onto last t) (sym (split_at xs i next l n)) ∙ h

pub fold_other : (os os2 xs all : List Row) (last last2 next : Row) (i : ℕ) → i < length xs → next ≡ get_or xs i next → (words_cmp last.key next.key ≡ Less) ⊎ (words_cmp last.key next.key ≡ Greater) → last2 ≡ next → os2 ≡ os ++ last ∷ [] → os ++ folded_onto last (drop i xs) ≡ all → os2 ++ folded_onto last2 (drop (i + 1) xs) ≡ all
fold_other os os2 xs all last last2 next i l n e s o h =
    ap (λ (t : List Row). t ++ folded_onto last2 (drop (i + 1) xs)) o
    ∙ ap (λ (x : Row). (os ++ last ∷ []) ++ folded_onto x (drop (i + 1) xs)) s
    ∙ append_assoc os (last ∷ []) (folded_onto next (drop (i + 1) xs))
    ∙ ap (λ (t : List Row). os ++ t) (sym (onto_other last next (drop (i + 1) xs) e))
    ∙ ap (λ (t : List Row). os ++ folded_onto last t) (sym (split_at xs i next l n)) ∙ h
