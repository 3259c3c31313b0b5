-- Labels that are kept in their places.
use Rattle.std.proofs.Common.{◌≡◌, ◌<◌, ℕ, true, List, Option, Some, length, get_or, sym, subst, ◌∙◌}
use Rattle.std.specs.Prelude.{All, ◌==◌, ◌&&◌, slice_set}
use Rattle.std.proofs.lemmas.Bool.{and_parts, eqb-true}
use Rattle.std.proofs.lemmas.List.Elements.{All-get_or, All-set}
use Rattle.std.proofs.lemmas.Option.{same_Some}
use Rattle.ipfix_wire.specs.declared.specifier.ElementId.{ElementId}
use Rattle.element_registry.specs.Registries.{Known}
use Rattle.ipfix_dump.specs.LineParts.{IsKept, IsLabel}
use Rattle.ipfix_dump.specs.declared.options.Form.{Form}
use Rattle.ipfix_dump.specs.declared.label.Label.{Label}

same_element : (a b : ElementId) → true ≡ ((a.pen == b.pen) && (a.number == b.number)) → a ≡ b
same_element a b h =
    let both = and_parts (a.pen == b.pen) (a.number == b.number) (sym h) in
    let pen = eqb-true a.pen b.pen both.0 in
    let number = eqb-true a.number b.number both.1 in
    λ i. record { pen = pen i; number = number i }

module _ (form : Form) (known : List Known) where
  pub kept_at : (places : List (Option Label)) (place : ℕ) (kept : Option Label) (label : Label) (e : ElementId) → All (IsKept form known) places
      → place < length places → kept ≡ get_or places place kept → kept ≡ Some label
      → true ≡ ((label.element.pen == e.pen) && (label.element.number == e.number)) → IsLabel form known e label
  kept_at places place kept label e all within got is same =
      let own = All-get_or (IsKept form known) places place kept within all label (sym got ∙ is) in
      subst (λ (d : ElementId). IsLabel form known d label) (same_element label.element e same) own

  pub put_in : (places : List (Option Label)) (place : ℕ) (label : Label) → IsLabel form known label.element label → All (IsKept form known) places
      → All (IsKept form known) (slice_set places place (Some label))
  put_in places place label is all =
      All-set (IsKept form known) places place (Some label) (λ other some. subst (λ (l : Label). IsLabel form known l.element l) (same_Some label other some) is) all
