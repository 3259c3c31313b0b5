-- Inputs that come twice.
use Rattle.std.specs.Cmp.Lexicographic.{slice_cmp}
use Rattle.std.specs.List.{list_all}
use Rattle.std.specs.Ordering.{is_eq, nat_cmp}
use Rattle.std.specs.Prelude.{◌≡◌, ◌<◌, ℕ, nat_lt, Bool, true, not, ◌&&◌, All, List, [], ◌∷◌, Option, None, Some, length, get_or}
use Rattle.table_receipts.specs.Values.{InputValue}

-- two inputs with data records have the same octets, by their digest
pub record IsSameInput (i j : InputValue) : Type 0 where
  pub has_records : 0 < i.records
  pub has_too : 0 < j.records
  pub digests : i.file.digest ≡ j.file.digest

-- whether they have
abbrev pub is_same_input : InputValue → InputValue → Bool
is_same_input i j = nat_lt 0 i.records && (nat_lt 0 j.records && is_eq (slice_cmp nat_cmp i.file.digest j.file.digest))

-- no input comes twice
abbrev pub EachOnce : List InputValue → Type 0
EachOnce [] = Unit {0}
EachOnce (i ∷ is) = All (λ j. IsSameInput i j → ⊥) is × EachOnce is

-- whether none does
abbrev pub each_once : List InputValue → Bool
each_once [] = true
each_once (i ∷ is) = list_all (λ j. not (is_same_input i j)) is && each_once is

-- those at two places, counted from 0, are the same
pub record AreSame (is : List InputValue) (first second : ℕ) : Type 0 where
  pub order : first < second
  pub within : second < length is
  pub same : (d : InputValue) → IsSameInput (get_or is first d) (get_or is second d)

-- two that are the same were found, or there are none
abbrev pub AreFound : List InputValue → Option (ℕ × ℕ) → Type 0
AreFound is None = EachOnce is
AreFound is (Some twice) = AreSame is twice.0 twice.1
