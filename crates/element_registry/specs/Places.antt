-- Where the elements of files stand among them, by their numbers and by their names.
use Rattle.std.specs.Prelude.{◌≡◌, ℕ, List, Option, Some, None}
use Rattle.std.specs.List.{slice_get}
use Rattle.std.specs.Ordering.{nat_cmp, ordering_then}
use Rattle.std.specs.declared.cmp.Ordering.{Ordering}
use Rattle.std.specs.BTreeMap.{get, get_by_text}
use Rattle.ipfix_wire.specs.declared.specifier.ElementId.{ElementId}
use Rattle.element_registry.specs.declared.places.Places.{Places}
use Rattle.element_registry.specs.Registries.{Known}

-- by the enterprise, and then by the number
abbrev pub element_cmp : ℕ × ℕ → ℕ × ℕ → Ordering
element_cmp a b = ordering_then (nat_cmp a.0 b.0) (nat_cmp a.1 b.1)

abbrev pub place_of : Places → ElementId → Option ℕ
place_of places e = get element_cmp places.by_element (e.pen, e.number)

abbrev pub place_named : Places → List ℕ → Option ℕ
place_named places t = get_by_text places.by_name t

-- each of a list is noted where it stands, by its numbers and by its name
pub record AreNoted (places : Places) (known : List Known) : Type 0 where
  pub elements : (i : ℕ) (k : Known) → slice_get known i ≡ Some k → place_of places k.element ≡ Some i
  pub names : (i : ℕ) (k : Known) → slice_get known i ≡ Some k → place_named places k.name ≡ Some i

-- what stands at a place
abbrev pub standing : List Known → Option ℕ → Option Known
standing known None = None
standing known (Some i) = slice_get known i
