-- What files say of an element, they say once: whether it is a counter stands in its only entry.
use Rattle.std.proofs.Common.{◌≡◌, Bool, false, ◌&&◌, ◌||◌, true, List, [], ◌∷◌, find, Option, Some, None, refl, sym, ap, subst, ◌∙◌, inl, inr}
use Rattle.std.specs.Prelude.{not}
use Rattle.std.specs.List.{list_any}
use Rattle.std.proofs.Math.Bool.{or-false}
use Rattle.std.proofs.lemmas.Bool.{and_parts, cases_Bool, not-true, or_from, or_parts}
use Rattle.ipfix_wire.specs.declared.specifier.ElementId.{ElementId}
use Rattle.ipfix_elements.proofs.Lookups.{find_head, find_rest}
use Rattle.element_registry.specs.Registries.{Known, IsRegistry, are_apart, is_of, same_element}
use Rattle.element_registry.proofs.Registered.{element_is}
use Rattle.flow_table.specs.Plans.{is_delta_of, is_unsigned64}

abbrev pub counts : Option Known → Bool
counts None = false
counts (Some k) = k.is_delta && is_unsigned64 k.kind

-- where none is of the element, none makes it a counter
none_counts : (e : ElementId) (known : List Known) → list_any (is_of e) known ≡ false → list_any (is_delta_of e) known ≡ false
none_counts e [] none = refl
none_counts e (k ∷ known) none =
    let parts = or_parts (is_of e k) (list_any (is_of e) known) none in
    or_from (is_delta_of e k) (list_any (is_delta_of e) known) (ap (λ b. b && (k.is_delta && is_unsigned64 k.kind)) parts.0) (none_counts e known parts.1)

counted : (e : ElementId) (known : List Known) → are_apart same_element known ≡ true → list_any (is_delta_of e) known ≡ counts (find (is_of e) known)
counted e [] apart = refl
counted e (k ∷ known) apart =
    let parts = and_parts (not (list_any (λ other. same_element other k) known)) (are_apart same_element known) apart in
    elim (cases_Bool (is_of e k)) [
      | inl of ↦
          let none = subst (λ (d : ElementId). list_any (is_of d) known ≡ false) (element_is e k of) (not-true _ parts.0) in
          ap (λ b. (b && (k.is_delta && is_unsigned64 k.kind)) || list_any (is_delta_of e) known) of ∙ ap (λ b. (k.is_delta && is_unsigned64 k.kind) || b) (none_counts e known none)
          ∙ or-false (k.is_delta && is_unsigned64 k.kind) ∙ sym (ap counts (find_head (is_of e) k known of))
      | inr other ↦
          ap (λ b. (b && (k.is_delta && is_unsigned64 k.kind)) || list_any (is_delta_of e) known) other ∙ counted e known parts.1 ∙ sym (ap counts (find_rest (is_of e) k known other))
    ]

pub counts_once : (e : ElementId) (known : List Known) → IsRegistry known → list_any (is_delta_of e) known ≡ counts (find (is_of e) known)
counts_once e known good = counted e known good.numbers_apart
