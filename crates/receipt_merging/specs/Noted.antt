-- What is noted of inputs: for the digest of each with data records, its place.
use Rattle.std.specs.Prelude.{◌≡◌, ◌<◌, ℕ, All, List, [], ◌∷◌, ◌++◌, Option, Some, None, length, get_or}
use Rattle.table_receipts.specs.Values.{InputValue}
use Rattle.receipt_merging.specs.Once.{IsSameInput}

-- of a digest: no input with data records has it; or the one at a place, counted from 0, has it, and has data records
abbrev pub IsNoted : List InputValue → List ℕ → Option ℕ → Type 0
IsNoted is digest None = All (λ (i : InputValue). 0 < i.records → i.file.digest ≡ digest → ⊥) is
IsNoted is digest (Some place) = (place < length is) × ((d : InputValue) → (0 < (get_or is place d).records) × ((get_or is place d).file.digest ≡ digest))

abbrev pub AreNoted : List InputValue → (List ℕ → Option ℕ) → Type 0
AreNoted is found = (digest : List ℕ) → IsNoted is digest (found digest)

-- one more is noted, which is the same as none of them
pub record NotesOneMore (is : List InputValue) (j : InputValue) (found : List ℕ → Option ℕ) : Type 0 where
  pub other : All (λ i. IsSameInput i j → ⊥) is
  pub noted : AreNoted (is ++ j ∷ []) found

-- the one at a place is the same as another
pub record IsSameAt (is : List InputValue) (j : InputValue) (place : ℕ) : Type 0 where
  pub within : place < length is
  pub same : (d : InputValue) → IsSameInput (get_or is place d) j
