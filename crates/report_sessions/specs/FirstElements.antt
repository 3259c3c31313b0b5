-- The first different elements of those that come in turn.
use Rattle.std.specs.Prelude.{◌≡◌, ◌<◌, ◌≤◌, nat_lt, true, false, List, [], ◌∷◌, ◌++◌, length, take, if◌then◌else◌}
use Rattle.std.specs.List.{list_any}
use Rattle.ipfix_wire.specs.declared.specifier.ElementId.{ElementId}
use Rattle.element_registry.specs.Registries.{Known}
use Rattle.report_sessions.specs.UnnamedElements.{each_once, is_element, is_unnamed, ElementsView}

-- one more element came
abbrev pub with_element : ElementsView → ElementId → ElementsView
with_element v e =
    if list_any (is_element e) v.first then v
    else if nat_lt (length v.first) 64 then record { first = v.first ++ e ∷ []; more = v.more }
    else record { first = v.first; more = true }

-- the same, if nothing names it
abbrev pub with_unnamed : List Known → ElementsView → ElementId → ElementsView
with_unnamed known v e = if is_unnamed known e then with_element v e else v

-- each once, where it first appears, if it isn't one of those that appeared before
abbrev pub once_after : List ElementId → List ElementId → List ElementId
once_after before [] = []
once_after before (e ∷ es) = if list_any (is_element e) before then once_after before es else e ∷ once_after (before ++ e ∷ []) es

-- of all elements, of which these are still to come, the first different ones are kept
pub record KeepsFirst (v : ElementsView) (all coming : List ElementId) : Type 0 where
  -- those that came, as long as there are no more than are kept
  pub few : v.more ≡ false → (length v.first ≤ 64) × (each_once all ≡ v.first ++ once_after v.first coming)
  -- and otherwise the first of them
  pub many : v.more ≡ true → (64 < length (each_once all)) × (v.first ≡ take 64 (each_once all))

-- these elements came next: the first ones are kept of all, whatever still comes after them
abbrev pub Takes : ElementsView → ElementsView → List ElementId → Type 0
Takes old new elements = (all coming : List ElementId) → KeepsFirst old all (elements ++ coming) → KeepsFirst new all coming
