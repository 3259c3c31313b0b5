-- The inputs of a day's receipt that the receipts of its parts don't have any more.
use Rattle.std.specs.Prelude.{◌==◌, ◌&&◌, ◌||◌, ℕ, Bool, not, if◌then◌else◌, List, [], ◌∷◌, filter, Option, None, Some}
use Rattle.std.specs.List.{list_any}
use Rattle.std.specs.Str.{bytes_eq}
use Rattle.table_receipts.specs.Values.{FileValue, InputValue}

-- an input is the same as another one if they have one name, or the same octets, by their number and digest
abbrev pub is_same : FileValue → FileValue → Bool
is_same file other = bytes_eq file.name other.name || ((file.octets == other.octets) && bytes_eq file.digest other.digest)

-- an input has one of these names
abbrev pub has_one_of : List (List ℕ) → InputValue → Bool
has_one_of names input = list_any (λ name. bytes_eq name input.file.name) names

-- the inputs that have none of the names of those that are left out now
abbrev pub not_left_out : List (List ℕ) → List InputValue → List InputValue
not_left_out names inputs = filter (λ (input : InputValue). not (has_one_of names input)) inputs

-- the first of some inputs that isn't among others, in their order
abbrev pub first_gone : List InputValue → List InputValue → Option InputValue
first_gone [] others = None
first_gone (own ∷ rest) [] = Some own
first_gone (own ∷ rest) (other ∷ others) = if is_same own.file other.file then first_gone rest others else first_gone (own ∷ rest) others
