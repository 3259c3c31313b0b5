-- An element added to those that are known.
use Rattle.std.proofs.Common.{◌≡◌, Bool, true, false, List, [], ◌∷◌, ◌++◌, Option, Some, None, refl, sym, ap, ◌∙◌, inl, inr}
use Rattle.std.specs.Prelude.{not, find, is_none, is_some, option_map}
use Rattle.std.specs.List.{list_all, list_any}
use Rattle.std.specs.Option.{option_or}
use Rattle.std.proofs.lemmas.Bool.{and_from, or_from, cases_Bool, both_ways}
use Rattle.std.proofs.lemmas.List.Folds.{list_all-append}
use Rattle.ipfix_wire.specs.declared.specifier.ElementId.{ElementId}
use Rattle.ipfix_elements.specs.Elements.{entry_of}
use Rattle.ipfix_elements.specs.Names.{element_named}
use Rattle.ipfix_elements.proofs.Lookups.{ComparesKeys, are_distinct, find_head, find_rest}
use Rattle.element_registry.specs.Registries.{Known, IsRegistry, is_of, is_named, same_element, same_name, are_apart, element_by_name}
use Rattle.element_registry.proofs.Registered.{by_element, by_name, distinct}
use Rattle.element_registry.proofs.Apart.{not_false, turned}

none_any : {X : Type 0} (p : X → Bool) (xs : List X) → is_some (find p xs) ≡ false → list_any p xs ≡ false
none_any p [] h = refl
none_any p (x ∷ xs) h =
    elim (cases_Bool (p x)) [
      | inl e ↦ absurd (both_ways (is_some (find p (x ∷ xs))) h (ap is_some (find_head p x xs e)))
      | inr e ↦ or_from (p x) (list_any p xs) e (none_any p xs (ap is_some (sym (find_rest p x xs e)) ∙ h))
    ]

free_parts : (a : Option ElementId) (b : Option Known) → is_some (option_or a (option_map (λ (k : Known). k.element) b)) ≡ false → (is_none a ≡ true) × (is_some b ≡ false)
free_parts None None h = (refl, refl)
free_parts None (Some k) h = absurd cc
free_parts (Some e) b h = absurd cc

all_with : (p : Known → Bool) (known : List Known) (k : Known) → list_all p known ≡ true → p k ≡ true → list_all p (known ++ k ∷ []) ≡ true
all_with p known k all one = list_all-append p known (k ∷ []) ∙ and_from (list_all p known) (list_all p (k ∷ [])) all (and_from (p k) true one refl)

apart_with : (same : Known → Known → Bool) → ComparesKeys same → (known : List Known) (k : Known) → are_apart same known ≡ true
    → list_any (λ other. same other k) known ≡ false → are_apart same (known ++ k ∷ []) ≡ true
apart_with same keys known k apart none =
    distinct same (known ++ k ∷ [])
    ∙ turned same keys k known (and_from (not (list_any (λ other. same other k) known)) (are_distinct same known) (not_false (list_any (λ other. same other k) known) none) (sym (distinct same known) ∙ apart))

-- what is known stays a registry
pub added : (known : List Known) (k : Known) → IsRegistry known → is_none (entry_of k.element) ≡ true → is_some (find (is_of k.element) known) ≡ false
    → is_some (element_by_name known k.name) ≡ false → IsRegistry (known ++ k ∷ [])
added known k good built_in number name =
    let free = free_parts (element_named k.name) (find (is_named k.name) known) name in
    record {
      not_built_in = all_with (λ k. is_none (entry_of k.element)) known k good.not_built_in built_in;
      not_named = all_with (λ k. is_none (element_named k.name)) known k good.not_named free.0;
      numbers_apart = apart_with same_element by_element known k good.numbers_apart (none_any (is_of k.element) known number);
      names_apart = apart_with same_name by_name known k good.names_apart (none_any (is_named k.name) known free.1);
    }

-- nothing is found, seen by f or not
pub none_seen : {X Y : Type 0} (f : X → Y) (o : Option X) (seen : Option Y) → option_map f o ≡ seen → is_some o ≡ false → is_some seen ≡ false
none_seen f None seen is none = ap is_some (sym is)
none_seen f (Some x) seen is none = absurd cc
