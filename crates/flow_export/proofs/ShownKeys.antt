-- The cells of a key as they are shown, one by one.
use Rattle.std.proofs.Common.{◌≡◌, ℕ, zero, suc, ◌+◌, ◌<◌, ◌≤◌, List, [], ◌∷◌, ◌++◌, length, drop, get_or, take, refl, sym, ap, ◌∙◌, arith}
use Rattle.std.specs.List.{flat_map}
use Rattle.std.proofs.lemmas.List.{drop_all, drop_more, take_all}
use Rattle.ipfix_elements.specs.declared.cell.Cell.{Cell}
use Rattle.flow_table.specs.declared.key.Key.{Key}
use Rattle.flow_export.specs.Shown.{shown_cell, shown_cells}
use Rattle.flow_export.specs.Written.{next_cell}
use Rattle.flow_export.specs.JsonParts.{labelled}
use Rattle.flow_export.specs.declared.json_text.labels.MemberLabel.{MemberLabel}
use Rattle.ipfix_elements.specs.JsonValues.{json_cell}
use Rattle.flow_export.proofs.Appending.{one_more}

-- the last four of sixteen octets
pub last_four : (xs : List ℕ) → length xs ≡ 16 → drop 12 xs ≡ get_or xs 12 0 ∷ get_or xs 13 0 ∷ get_or xs 14 0 ∷ get_or xs 15 0 ∷ []
last_four xs long =
    drop_more xs 12 0 (omega (arith, long)) ∙ ap (λ (ys : List ℕ). get_or xs 12 0 ∷ ys)
    (drop_more xs 13 0 (omega (arith, long)) ∙ ap (λ (ys : List ℕ). get_or xs 13 0 ∷ ys)
    (drop_more xs 14 0 (omega (arith, long)) ∙ ap (λ (ys : List ℕ). get_or xs 14 0 ∷ ys)
    (drop_more xs 15 0 (omega (arith, long)) ∙ ap (λ (ys : List ℕ). get_or xs 15 0 ∷ ys) (drop_all 16 xs (omega (arith, long))))))

pub shown_length : (ks : List Key) (cs : List Cell) → length (shown_cells ks cs) ≡ length cs
shown_length [] cs = refl
shown_length (k ∷ ks) [] = refl
shown_length (k ∷ ks) (c ∷ cs) = omega (arith, shown_length ks cs)

pub shown_at : (ks : List Key) (cs : List Cell) (i : ℕ) (k : Key) (c d : Cell) → length ks ≡ length cs → i < length cs → get_or (shown_cells ks cs) i d ≡ shown_cell (get_or ks i k) (get_or cs i c)
shown_at [] [] i k c d same inside = absurd (omega (arith, inside))
shown_at [] (e ∷ cs) i k c d same inside = absurd (omega (arith, same))
shown_at (j ∷ ks) [] i k c d same inside = absurd (omega (arith, same))
shown_at (j ∷ ks) (e ∷ cs) zero k c d same inside = refl
shown_at (j ∷ ks) (e ∷ cs) (suc i) k c d same inside = shown_at ks cs i k c d (omega (arith, same)) (omega (arith, inside))

-- one more field of CSV, after those that were appended
pub shown_more : (ks : List Key) (cs : List Cell) (i : ℕ) (k : Key) (c x : Cell) (o p q : List ℕ) → length ks ≡ length cs → i < length cs → x ≡ shown_cell (get_or ks i k) (get_or cs i c)
    → p ≡ o ++ flat_map next_cell (take i (shown_cells ks cs)) → q ≡ p ++ next_cell x → q ≡ o ++ flat_map next_cell (take (i + 1) (shown_cells ks cs))
shown_more ks cs i k c x o p q same inside is_x is_p is_q =
    let within : i < length (shown_cells ks cs) = omega (arith, inside, shown_length ks cs) in
    one_more next_cell (shown_cells ks cs) i x o p q within (is_x ∙ sym (shown_at ks cs i k c x same inside)) is_p is_q

-- all of them
pub shown_all : (ks : List Key) (cs : List Cell) (i : ℕ) (o p : List ℕ) → length cs ≤ i
    → p ≡ o ++ flat_map next_cell (take i (shown_cells ks cs)) → p ≡ o ++ flat_map next_cell (shown_cells ks cs)
shown_all ks cs i o p outside is_p =
    is_p ∙ ap (λ (found : List Cell). o ++ flat_map next_cell found) (take_all i (shown_cells ks cs) (omega (arith, outside, shown_length ks cs)))

-- ---- cells of JSON, after their labels

pub labels_beside : (ls : List MemberLabel) (ks : List Key) (cs : List Cell) → length ls ≡ length cs → length ls ≡ length (shown_cells ks cs)
labels_beside ls ks cs same = same ∙ sym (shown_length ks cs)

pub shown_labelled : (l : MemberLabel) (ks : List Key) (cs : List Cell) (i : ℕ) (k : Key) (c x d : Cell) (p q : List ℕ) → length ks ≡ length cs → i < length cs → x ≡ shown_cell (get_or ks i k) (get_or cs i c)
    → q ≡ p ++ labelled json_cell (l, x) → q ≡ p ++ labelled json_cell (l, get_or (shown_cells ks cs) i d)
shown_labelled l ks cs i k c x d p q same inside is_x is_q =
    is_q ∙ ap (λ (y : Cell). p ++ labelled json_cell (l, y)) (is_x ∙ sym (shown_at ks cs i k c d same inside))
