-- Faults of plans.
use Rattle.std.proofs.Common.{◌≡◌, Bool, true, false, ◌||◌, List, [], ◌∷◌, map, refl, ap, ◌∙◌}
use Rattle.std.specs.List.{list_any}
use Rattle.std.proofs.lemmas.List.Folds.{list_any-append}
use Rattle.ipfix_wire.specs.declared.specifier.ElementId.{ElementId}
use Rattle.flow_table.specs.declared.key.Key.{Key}
use Rattle.flow_table.specs.declared.key.Side.{Side}
use Rattle.flow_table.specs.Plans.{same_element, element_in, elements_in}

any-map : {X Y : Type 0} (p : Y → Bool) (f : X → Y) (xs : List X) → list_any p (map f xs) ≡ list_any (λ x. p (f x)) xs
any-map p f [] = refl
any-map p f (x ∷ xs) = ap (λ (b : Bool). p (f x) || b) (any-map p f xs)

-- an element is among keys and counters if it is among the keys or among the counters
among_parts : (element : ElementId) (side : Side) (keys : List Key) (counters : List ElementId)
    → list_any (λ other. same_element other element) (elements_in side keys counters)
    ≡ (list_any (λ k. same_element (element_in side k) element) keys || list_any (λ other. same_element other element) counters)
among_parts element side keys counters =
    list_any-append (λ other. same_element other element) (map (element_in side) keys) counters
    ∙ ap (λ (b : Bool). b || list_any (λ other. same_element other element) counters) (any-map (λ other. same_element other element) (element_in side) keys)

pub among_first : (found : Bool) (element : ElementId) (side : Side) (keys : List Key) (counters : List ElementId)
    → found ≡ true → found ≡ list_any (λ k. same_element (element_in side k) element) keys
    → found ≡ list_any (λ other. same_element other element) (elements_in side keys counters)
among_first found element side keys counters is_true among_keys = rw (among_parts element side keys counters, ← among_keys, is_true) refl

pub among_second : (first found : Bool) (element : ElementId) (side : Side) (keys : List Key) (counters : List ElementId)
    → first ≡ false → first ≡ list_any (λ k. same_element (element_in side k) element) keys
    → found ≡ list_any (λ other. same_element other element) counters
    → found ≡ list_any (λ other. same_element other element) (elements_in side keys counters)
among_second first found element side keys counters is_false among_keys among_counters = rw (among_parts element side keys counters, ← among_keys, is_false) among_counters
