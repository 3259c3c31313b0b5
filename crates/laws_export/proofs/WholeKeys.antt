-- Keys that are exported as the elements that they are read from.
use Rattle.std.proofs.Common.{◌≡◌, false, eqb, List, [], ◌∷◌, map, All, refl, sym, ap₂, inl, inr}
use Rattle.std.proofs.lemmas.Bool.{cases_Bool, and_parts, eqb-true}
use Rattle.std.proofs.lemmas.List.Elements.{All-head, All-tail}
use Rattle.ipfix_wire.specs.declared.specifier.ElementId.{ElementId}
use Rattle.flow_table.specs.declared.key.Key.{Key}
use Rattle.flow_table.specs.Plans.{exported_element, exporter, same_element}
use Rattle.laws_export.specs.ReadBack.{as_exported, IsWhole}

not_exporter : (e : ElementId) → (e ≡ exporter → ⊥) → same_element e exporter ≡ false
not_exporter e other = elim (cases_Bool (same_element e exporter)) [
  | inl same ↦
      let both = and_parts (eqb e.pen 0) (eqb e.number 32768) same in
      let is : e ≡ exporter = ap₂ (λ pen number. record { pen = pen; number = number }) (eqb-true e.pen 0 both.0) (eqb-true e.number 32768 both.1) in
      absurd (other is)
  | inr differ ↦ differ
]

whole_key : (k : Key) → IsWhole k → as_exported k ≡ k
whole_key k whole =
    let element : exported_element k ≡ k.element = rw (whole.whole, not_exporter k.element whole.sent) refl in
    ap₂ (λ e prefix. record { element = e; prefix = prefix }) element (sym whole.whole)

pub whole_keys : (ks : List Key) → All IsWhole ks → map as_exported ks ≡ ks
whole_keys [] whole = refl
whole_keys (k ∷ ks) whole = ap₂ (λ (x : Key) (xs : List Key). x ∷ xs) (whole_key k (All-head IsWhole k ks whole)) (whole_keys ks (All-tail IsWhole k ks whole))
