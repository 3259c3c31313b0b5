-- Files in another order.
use Rattle.std.proofs.Common.{◌≡◌, ℕ, true, List, ◌++◌, Option, sym, ap, subst, ◌∙◌}
use Rattle.std.specs.Prelude.{find, is_none, option_map, unwrap_or, Bool}
use Rattle.std.specs.List.{list_all}
use Rattle.std.specs.Option.{option_map_or, option_or}
use Rattle.std.proofs.lemmas.Bool.{and_parts, and_from}
use Rattle.std.proofs.lemmas.List.Folds.{list_all-append}
use Rattle.std.proofs.lemmas.Slice.Eq.{bytes_eq-Decides}
use Rattle.ipfix_wire.specs.declared.specifier.ElementId.{ElementId}
use Rattle.ipfix_elements.specs.Elements.{entry_of, name_of}
use Rattle.ipfix_elements.specs.Names.{numbered_text, element_named}
use Rattle.ipfix_elements.specs.declared.kind.Kind.TheVariants.{Octets}
use Rattle.element_registry.specs.declared.kind.ElementKind.TheVariants.{Plain}
use Rattle.element_registry.specs.Registries.{Known, IsRegistry, is_of, is_named, same_element, same_name, are_apart, element_kind, element_name, element_by_name}
use Rattle.ipfix_elements.proofs.Lookups.{ComparesKeys}
use Rattle.element_registry.proofs.Registered.{by_name, by_element, distinct, element_is}
use Rattle.element_registry.proofs.Apart.{exchanged, found_either}

all_exchanged : (p : Known → Bool) (a b : List Known) → list_all p (a ++ b) ≡ true → list_all p (b ++ a) ≡ true
all_exchanged p a b h =
    let both = and_parts (list_all p a) (list_all p b) (sym (list_all-append p a b) ∙ h) in
    list_all-append p b a ∙ and_from (list_all p b) (list_all p a) both.1 both.0

apart_exchanged : (same : Known → Known → Bool) → ComparesKeys same → (a b : List Known) → are_apart same (a ++ b) ≡ true → are_apart same (b ++ a) ≡ true
apart_exchanged same keys a b h = distinct same (b ++ a) ∙ exchanged same keys a b (sym (distinct same (a ++ b)) ∙ h)

pub registry_exchanged : (a b : List Known) → IsRegistry (a ++ b) → IsRegistry (b ++ a)
registry_exchanged a b good =
    record {
      not_built_in = all_exchanged (λ k. is_none (entry_of k.element)) a b good.not_built_in;
      not_named = all_exchanged (λ k. is_none (element_named k.name)) a b good.not_named;
      numbers_apart = apart_exchanged same_element by_element a b good.numbers_apart;
      names_apart = apart_exchanged same_name by_name a b good.names_apart;
    }

same_of : (e : ElementId) (x y : Known) → is_of e x ≡ true → is_of e y ≡ true → same_element y x ≡ true
same_of e x y hx hy = subst (λ (d : ElementId). is_of d y ≡ true) (sym (element_is e x hx)) hy

same_named : (t : List ℕ) (x y : Known) → is_named t x ≡ true → is_named t y ≡ true → same_name y x ≡ true
same_named t x y hx hy = subst (λ (n : List ℕ). is_named n y ≡ true) (sym ((bytes_eq-Decides x.name t).0 hx)) hy

found_of : (a b : List Known) (e : ElementId) → IsRegistry (a ++ b) → find (is_of e) (a ++ b) ≡ find (is_of e) (b ++ a)
found_of a b e good = found_either (is_of e) same_element (same_of e) a b (sym (distinct same_element (a ++ b)) ∙ good.numbers_apart)

found_named : (a b : List Known) (t : List ℕ) → IsRegistry (a ++ b) → find (is_named t) (a ++ b) ≡ find (is_named t) (b ++ a)
found_named a b t good = found_either (is_named t) same_name (same_named t) a b (sym (distinct same_name (a ++ b)) ∙ good.names_apart)

pub kind_exchanged : (a b : List Known) (e : ElementId) → IsRegistry (a ++ b) → element_kind (a ++ b) e ≡ element_kind (b ++ a) e
kind_exchanged a b e good =
    ap (λ (o : Option Known). option_map_or (λ r. Plain r.kind) (entry_of e) (option_map_or (λ k. k.kind) o (Plain Octets))) (found_of a b e good)

pub name_exchanged : (a b : List Known) (e : ElementId) → IsRegistry (a ++ b) → element_name (a ++ b) e ≡ element_name (b ++ a) e
name_exchanged a b e good =
    ap (λ (o : Option Known). unwrap_or (option_or (name_of e) (option_map (λ k. k.name) o)) (numbered_text e)) (found_of a b e good)

pub named_exchanged : (a b : List Known) (t : List ℕ) → IsRegistry (a ++ b) → element_by_name (a ++ b) t ≡ element_by_name (b ++ a) t
named_exchanged a b t good =
    ap (λ (o : Option Known). option_or (element_named t) (option_map (λ k. k.element) o)) (found_named a b t good)
