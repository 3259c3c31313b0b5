-- Which elements a word fits.
use Rattle.std.specs.Prelude.{ℕ, ◌==◌, ◌&&◌, ◌||◌, Bool, true, false, List, [], ◌∷◌, length, take, decimal, Option, Some, None, if◌then◌else◌}
use Rattle.std.specs.Char.{is_ascii_digit}
use Rattle.std.specs.List.{list_all}
use Rattle.std.specs.Str.{bytes_eq, str_eq_ignore_ascii_case}
use Rattle.std.specs.Option.{option_map_or}
use Rattle.ipfix_wire.specs.declared.specifier.ElementId.{ElementId}
use Rattle.ipfix_elements.specs.Names.{element_named}

-- a text begins with a word, in any letter case
abbrev pub begins : List ℕ → List ℕ → Bool
begins text word = str_eq_ignore_ascii_case (take (length word) text) word

-- a word is a part of a text: the text begins with it after some of its octets
abbrev pub has_part : List ℕ → List ℕ → Bool
has_part [] word = length word == 0
has_part (b ∷ bs) word = begins (b ∷ bs) word || has_part bs word

-- a word is the number of an element, whatever its enterprise
abbrev pub is_number_of : List ℕ → ElementId → Bool
is_number_of word e = bytes_eq (decimal e.number) word

-- a word names an element without files, as e<pen>.<number> does
abbrev pub is_text_of : List ℕ → ElementId → Bool
is_text_of word e = option_map_or (λ named. (named.pen == e.pen) && (named.number == e.number)) (element_named word) false

-- a word of digits is a number; each other one names an element, or is a part of its name
abbrev pub fits_word : List ℕ → ElementId → List ℕ → Bool
fits_word word e name =
    if list_all is_ascii_digit word then is_number_of word e
    else is_text_of word e || has_part name word

-- without a word each element is listed
abbrev pub fits : Option (List ℕ) → ElementId → List ℕ → Bool
fits None e name = true
fits (Some word) e name = fits_word word e name
