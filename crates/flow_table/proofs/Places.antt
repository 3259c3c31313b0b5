-- Intervals and keys are distinguished by their orders.
use Rattle.std.proofs.Common.{◌≡◌, ◌≢◌, ◌⊎◌, Bool, true, false, List, [], ◌∷◌, refl, sym, subst, inl, inr}
use Rattle.std.specs.Cmp.{IsTotalOrder, eq_by_cmp_equiv}
use Rattle.std.specs.Cmp.Lexicographic.{lists_total}
use Rattle.std.specs.Ordering.{ordering_then, is_eq}
use Rattle.std.specs.declared.cmp.Ordering.{Ordering}
use Rattle.std.specs.declared.cmp.Ordering.TheVariants.{Less, Equal, Greater}
use Rattle.std.proofs.lemmas.Cmp.{nat_cmp_total}
use Rattle.std.proofs.lemmas.Map.Lookups.{exact_unsigned}
use Rattle.ipfix_elements.specs.declared.cell.Cell.{Cell}
use Rattle.ipfix_elements.specs.Cells.{cell_cmp}
use Rattle.ipfix_elements.proofs.CellLemmas.{cell_equal, cell_cmp-total}
use Rattle.flow_table.specs.Tables.{key_cmp}
use Rattle.flow_table.specs.Rows.{is_same_key, is_same_interval}
use Rattle.flow_table.proofs.Keyed.{Tells}

pub equal_from : (o : Ordering) → is_eq o ≡ true → o ≡ Equal
equal_from Less h = cc
equal_from Equal h = refl
equal_from Greater h = cc

tells_by : {B : Type 0} {R : B → B → Ordering} → IsTotalOrder R → ((a b : B) → R a b ≡ Equal → a ≡ b) → Tells (λ (a b : B). is_eq (R a b))
tells_by {B} {R} order exact a b = by (is_eq (R a b)) refl
  where
    by : (t : Bool) → is_eq (R a b) ≡ t → ((is_eq (R a b) ≡ true) × (a ≡ b)) ⊎ ((is_eq (R a b) ≡ false) × (a ≢ b))
    by true e = inl (e, exact a b (equal_from (R a b) e))
    by false e = inr (e, λ (p : a ≡ b). let s = subst (λ (x : B). is_eq (R a x) ≡ false) (sym p) e in cc (s, (eq_by_cmp_equiv order).refl a))

then_equal : (x y : Cell) (xs ys : List Cell) (o : Ordering) → cell_cmp x y ≡ o → (key_cmp xs ys ≡ Equal → xs ≡ ys) → ordering_then o (key_cmp xs ys) ≡ Equal → x ∷ xs ≡ y ∷ ys
then_equal x y xs ys Less e more h = cc
then_equal x y xs ys Equal e more h = let p = cell_equal x y e in let q = more h in cc (p, q)
then_equal x y xs ys Greater e more h = cc

pub key_equal : (a b : List Cell) → key_cmp a b ≡ Equal → a ≡ b
key_equal [] [] h = refl
key_equal [] (y ∷ ys) h = cc
key_equal (x ∷ xs) [] h = cc
key_equal (x ∷ xs) (y ∷ ys) h = then_equal x y xs ys (cell_cmp x y) refl (key_equal xs ys) h

pub keys_total : IsTotalOrder key_cmp
keys_total = lists_total cell_cmp-total

pub keys_tell : Tells is_same_key
keys_tell = tells_by keys_total key_equal

pub intervals_tell : Tells is_same_interval
intervals_tell = tells_by nat_cmp_total exact_unsigned
