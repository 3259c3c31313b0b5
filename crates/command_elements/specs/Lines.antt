-- The list of elements.
use Rattle.std.specs.Prelude.{ℕ, ◌-◌, Bool, List, [], ◌++◌, length, replicate, codes, Option, if◌then◌else◌}
use Rattle.std.specs.List.{flat_map, list_any}
use Rattle.ipfix_elements.specs.Names.{numbered_text}
use Rattle.ipfix_wire.specs.declared.specifier.ElementId.{ElementId}
use Rattle.element_registry.specs.Registries.{Known}
use Rattle.flow_table.specs.Plans.{is_counter, is_key}
use Rattle.command_elements.specs.Fitting.{fits}
use Rattle.command_elements.specs.Listed.{Listed, all_listed, type_name}

-- blanks from a length up to a width, and one more
abbrev pub blanks : ℕ → ℕ → List ℕ
blanks width length = replicate (width - length) 32 ++ codes " "

abbrev pub column : ℕ → List ℕ → List ℕ
column width text = text ++ blanks width (length text)

-- what an element may be in a plan
abbrev pub uses : List Known → ElementId → List ℕ
uses known e = (if is_key known e then codes " key" else []) ++ (if is_counter known e then codes " counter" else [])

-- its numbers, its type, its name, its uses
abbrev pub line_of : List Known → Listed → List ℕ
line_of known k = column 12 (numbered_text k.element) ++ (column 20 (type_name k.kind) ++ (k.name ++ (uses known k.element ++ codes "\n")))

abbrev pub line_if_fits : List Known → Option (List ℕ) → Listed → List ℕ
line_if_fits known word k = if fits word k.element k.name then line_of known k else []

-- a line for each that the word fits, and whether there is one
abbrev pub lines_of : List Known → Option (List ℕ) → List Listed → List ℕ
lines_of known word ks = flat_map (line_if_fits known word) ks

abbrev pub has_fitting : Option (List ℕ) → List Listed → Bool
has_fitting word ks = list_any (λ k. fits word k.element k.name) ks

-- what is written of the elements that are known
abbrev pub list_text : Option (List ℕ) → List Known → List ℕ
list_text word known = lines_of known word (all_listed known)
