use Rattle.std.proofs.Common.{◌≡◌, ℕ, true, List, Option, None, Some, refl}
use Rattle.std.specs.Prelude.{is_some, option_map, unwrap_or}
use Rattle.std.specs.Option.{option_map_or, option_or}
use Rattle.ipfix_elements.specs.Elements.{Entry, entry_of}
use Rattle.ipfix_elements.specs.declared.kind.Kind.TheVariants.{Octets}
use Rattle.element_registry.specs.declared.kind.ElementKind.{ElementKind}
use Rattle.element_registry.specs.declared.kind.ElementKind.TheVariants.{Plain}
use Rattle.ipfix_dump.specs.JsonLines.{json_field}
use Rattle.ipfix_dump.proofs.laws.built_in_fields.Goals as goal

-- an entry has its kind and its name, whatever files say
same_kind : (o : Option Entry) (a b : ElementKind) → is_some o ≡ true → option_map_or (λ (r : Entry). Plain r.kind) o a ≡ option_map_or (λ (r : Entry). Plain r.kind) o b
same_kind (Some r) a b some = refl
same_kind None a b some = absurd cc

same_name : (o : Option Entry) (a b : Option (List ℕ)) (t : List ℕ) → is_some o ≡ true
    → unwrap_or (option_or (option_map (λ (r : Entry). r.name) o) a) t ≡ unwrap_or (option_or (option_map (λ (r : Entry). r.name) o) b) t
same_name (Some r) a b t some = refl
same_name None a b t some = absurd cc

pub returns-clause-text : goal.returns-clause-text
returns-clause-text c = λ known f some. rw (same_kind (entry_of f.element) _ (Plain Octets) some, same_name (entry_of f.element) _ None _ some) refl

pub returns-clause-json : goal.returns-clause-json
unfolding json_field
returns-clause-json c = λ known f some. rw (same_kind (entry_of f.element) _ (Plain Octets) some, same_name (entry_of f.element) _ None _ some) refl
