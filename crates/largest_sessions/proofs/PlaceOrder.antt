-- Places are in a total order, which tells them apart.
use Rattle.std.proofs.Common.{◌≡◌, ◌⊎◌, ℕ, Bool, true, false, List, refl, sym, ap₂, subst, inl, inr}
use Rattle.std.specs.Prelude.{◌≢◌}
use Rattle.std.specs.Ordering.{nat_cmp, ordering_then, is_eq}
use Rattle.std.specs.declared.cmp.Ordering.{Ordering}
use Rattle.std.specs.declared.cmp.Ordering.TheVariants.{Less, Equal, Greater}
use Rattle.std.specs.Cmp.{IsTotalOrder, on_total, then_total}
use Rattle.std.proofs.lemmas.Cmp.{nat_cmp_total, tied_itself}
use Rattle.std.proofs.lemmas.Map.Lookups.{exact_unsigned}
use Rattle.ipfix_elements.specs.declared.cell.Cell.{Cell}
use Rattle.flow_table.specs.Tables.{key_cmp, place_cmp}
use Rattle.flow_table.proofs.Places.{keys_total, key_equal}
use Rattle.largest_sessions.specs.LeftOut.{Place}

pub places_total : IsTotalOrder place_cmp
places_total = then_total {K = Place} (on_total {K = Place} (λ (p : Place). p.0) nat_cmp_total) (on_total {K = Place} (λ (p : Place). p.1) keys_total)

-- ---- which place it is

split_then : (o u : Ordering) → ordering_then o u ≡ Equal → (o ≡ Equal) × (u ≡ Equal)
split_then Less u h = cc
split_then Equal u h = (refl, h)
split_then Greater u h = cc

place_equal : (p q : Place) → place_cmp p q ≡ Equal → p ≡ q
place_equal p q h =
    let both = split_then (nat_cmp p.0 q.0) (key_cmp p.1 q.1) h in
    ap₂ (λ (k : ℕ) (key : List Cell). (k, key)) (exact_unsigned p.0 q.0 both.0) (key_equal p.1 q.1 both.1)

equal_from : (o : Ordering) → is_eq o ≡ true → o ≡ Equal
equal_from Less h = cc
equal_from Equal h = refl
equal_from Greater h = cc

pub place_tells : (p q : Place) → ((is_eq (place_cmp p q) ≡ true) × (p ≡ q)) ⊎ ((is_eq (place_cmp p q) ≡ false) × (p ≢ q))
place_tells p q = by (is_eq (place_cmp p q)) refl
  where
    by : (t : Bool) → is_eq (place_cmp p q) ≡ t → ((is_eq (place_cmp p q) ≡ true) × (p ≡ q)) ⊎ ((is_eq (place_cmp p q) ≡ false) × (p ≢ q))
    by true e = inl (e, place_equal p q (equal_from (place_cmp p q) e))
    by false e = inr (e, λ (same : p ≡ q). let s = subst (λ (r : Place). is_eq (place_cmp p r) ≡ false) (sym same) e in cc (s, tied_itself places_total p))

pub same_or_other : (p q : Place) → (q ≡ p) ⊎ (q ≡ p → ⊥)
same_or_other p q = elim (place_tells q p) [ inl same ↦ inl same.1 | inr other ↦ inr other.1 ]
