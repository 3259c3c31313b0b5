-- The names of elements as text.
use Rattle.std.specs.Prelude.{◌≡◌, ◌≢◌, ℕ, ◌^◌, ◌<◌, ◌⊎◌, ◌==◌, ◌&&◌, nat_lt, List, ◌++◌, length, get_or, drop, find, codes, Option, Some, None, unwrap_or, option_map, if◌then◌else◌}
use Rattle.std.specs.Fmt.{decimal}
use Rattle.std.specs.List.{before_first, after_first}
use Rattle.std.specs.Str.{bytes_eq}
use Rattle.std.specs.Str.Parse.{digits_value}
use Rattle.ipfix_wire.specs.declared.specifier.ElementId.{ElementId}
use Rattle.ipfix_elements.specs.Ascii.{dot}
use Rattle.ipfix_elements.specs.Elements.{elements, listed, name_of}

-- an element's numbers are in range (RFC 7011, section 3.2)
pub record IsElement (e : ElementId) : Type 0 where
  pub pen : e.pen < 2 ^ 32
  pub number : e.number < 2 ^ 15

-- what stands before the first dot
abbrev pub HasNoDot : List ℕ → Type 0
HasNoDot t = (i : ℕ) → i < length t → get_or t i 0 ≢ dot

-- e<pen>.<number>, both in decimal
abbrev pub numbered_text : ElementId → List ℕ
numbered_text e = codes "e" ++ decimal e.pen ++ codes "." ++ decimal e.number

-- what is written for an element: its name, or its numbers if it has none
abbrev pub name_text : ElementId → List ℕ
name_text e = unwrap_or (name_of e) (numbered_text e)

-- t names the element: by its name, or by its numbers
abbrev pub IsNameOf : ElementId → List ℕ → Type 0
IsNameOf e t = (name_of e ≡ Some t) ⊎ (IsElement e × (t ≡ numbered_text e))

-- the numbers after the first letter, before and after the dot
unfoldable pub numbers_in : List ℕ → ElementId
numbers_in t = record { pen = digits_value 10 (before_first (λ b. b == dot) (drop 1 t)); number = digits_value 10 (after_first (λ b. b == dot) (drop 1 t)) }

-- the element whose numbers the text gives, in the one form that is written
abbrev pub numbered_element : List ℕ → Option ElementId
numbered_element t =
    if bytes_eq t (numbered_text (numbers_in t)) && nat_lt (numbers_in t).pen (2 ^ 32) && nat_lt (numbers_in t).number (2 ^ 15) then Some (numbers_in t)
    else None

abbrev pub first_of_both : Option ElementId → Option ElementId → Option ElementId
first_of_both (Some e) other = Some e
first_of_both None other = other

-- the element that a text names, if any: by name before by numbers
unfoldable pub element_named : List ℕ → Option ElementId
element_named t = first_of_both (option_map listed (find (λ r. bytes_eq r.name t) elements)) (numbered_element t)
