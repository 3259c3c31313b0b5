-- The elements that are known from files, beside the built-in ones.
use Rattle.std.specs.Prelude.{◌≡◌, ℕ, ◌==◌, ◌&&◌, ◌⊎◌, not, Bool, true, List, [], ◌∷◌, find, Option, Some, is_none, unwrap_or, option_map, string_bytes}
use Rattle.std.specs.Borrow.{Bor}
use Rattle.std.specs.Option.{option_map_or, option_or}
use Rattle.std.specs.List.{list_all, list_any}
use Rattle.std.specs.Str.{bytes_eq}
use Rattle.ipfix_wire.specs.declared.specifier.ElementId.{ElementId}
use Rattle.ipfix_elements.specs.declared.kind.Kind.TheVariants.{Octets}
use Rattle.ipfix_elements.specs.Elements.{entry_of, name_of}
use Rattle.ipfix_elements.specs.Names.{IsElement, numbered_text, element_named}
use Rattle.element_registry.specs.declared.entry.Entry as kept
use Rattle.element_registry.specs.declared.kind.ElementKind.{ElementKind}
use Rattle.element_registry.specs.declared.kind.ElementKind.TheVariants.{Plain}

-- what a file says of an element; the name as it is written, with the enterprise if that isn't IANA's
pub record Known : Type 0 where
  pub element : ElementId
  pub name : List ℕ
  pub kind : ElementKind
  pub is_delta : Bool

abbrev pub shown : kept.Entry → Known
shown k = record { element = k.element; name = string_bytes k.name; kind = k.kind; is_delta = k.is_delta }

-- one that is lent, if there is one
abbrev pub shown_if : Option (Bor kept.Entry) → Option Known
shown_if found = option_map (λ k. shown k.now) found

abbrev pub is_of : ElementId → Known → Bool
is_of e k = (k.element.pen == e.pen) && (k.element.number == e.number)

abbrev pub is_named : List ℕ → Known → Bool
is_named t k = bytes_eq k.name t

-- a built-in element before those of files
abbrev pub element_kind : List Known → ElementId → ElementKind
element_kind known e = option_map_or (λ r. Plain r.kind) (entry_of e) (option_map_or (λ k. k.kind) (find (is_of e) known) (Plain Octets))

abbrev pub listed_name : List Known → ElementId → Option (List ℕ)
listed_name known e = option_or (name_of e) (option_map (λ k. k.name) (find (is_of e) known))

abbrev pub element_name : List Known → ElementId → List ℕ
element_name known e = unwrap_or (listed_name known e) (numbered_text e)

-- t names the element: by its name, or by its numbers
abbrev pub IsElementName : List Known → ElementId → List ℕ → Type 0
IsElementName known e t = (listed_name known e ≡ Some t) ⊎ (IsElement e × (t ≡ numbered_text e))

-- a text names an element as it does without files, or by the name that one of them says
abbrev pub element_by_name : List Known → List ℕ → Option ElementId
element_by_name known t = option_or (element_named t) (option_map (λ k. k.element) (find (is_named t) known))

-- no two of a list are the same
abbrev pub are_apart : (Known → Known → Bool) → List Known → Bool
are_apart same [] = true
are_apart same (k ∷ ks) = not (list_any (λ other. same other k) ks) && are_apart same ks

abbrev pub same_element : Known → Known → Bool
same_element a b = is_of b.element a

abbrev pub same_name : Known → Known → Bool
same_name a b = is_named b.name a

-- none is built in, none has a name that names an element already, and no two have the same numbers or the same name
pub record IsRegistry (known : List Known) : Type 0 where
  pub not_built_in : list_all (λ k. is_none (entry_of k.element)) known ≡ true
  pub not_named : list_all (λ k. is_none (element_named k.name)) known ≡ true
  pub numbers_apart : are_apart same_element known ≡ true
  pub names_apart : are_apart same_name known ≡ true
