-- The tables and receipts at a place.
use Rattle.std.specs.Prelude.{◌≡◌, ◌≢◌, ◌↔◌, ◌⊎◌, ◌||◌, ◌++◌, ℕ, Bool, false, List, Option, None, Some, bytes_eq, codes, filter, map, not, option_map, string_bytes}
use Rattle.std.specs.declared.alloc.Global.{Global}
use Rattle.std.specs.declared.string.String.{String}
use Rattle.std.specs.declared.vec.Vec.{Vec}
use Rattle.report_writing.specs.declared.reason.Reason.{Reason}
use Rattle.table_receipts.specs.Texts.{receipt_text}
use Rattle.table_receipts.specs.Values.{InputValue, ReceiptValue}

-- what is in a vector, if there is one
abbrev pub items_of : {X : Type 0} → Option (Vec X Global) → Option (List X)
items_of vector = option_map (λ v. v.items) vector

-- what contracts see of a place of tables, by the second at which a period begins
pub record PlaceView (T : Type 0) : Type 1 where
  -- whether the table of the period has this text
  pub text_at : T → ℕ → List ℕ → Type 0
  -- whether its receipt has this text, or there is none
  pub receipt_at : T → ℕ → Option (List ℕ) → Type 0
  -- whether this is the path of the table
  pub path_at : T → ℕ → List ℕ → Type 0
  -- whether the place refused what was asked of the period last, for this reason
  pub refuses : T → ℕ → Reason → Type 0

module _ {T : Type 0} (sees : PlaceView T) where
  -- a table of this text is there, and its receipt
  abbrev pub IsPutAt : ℕ → T → List ℕ → List ℕ → Type 0
  IsPutAt begins place text receipt = sees.text_at place begins text × sees.receipt_at place begins (Some receipt)

  -- the table and the receipt of a period are as they were
  abbrev pub IsKeptAt : ℕ → T → T → Type 0
  IsKeptAt begins before after =
      ((text : List ℕ) → sees.text_at before begins text ↔ sees.text_at after begins text)
      × ((text : Option (List ℕ)) → sees.receipt_at before begins text ↔ sees.receipt_at after begins text)

  -- those of all other periods are
  abbrev pub IsKeptBeside : ℕ → T → T → Type 0
  IsKeptBeside begins before after = (other : ℕ) → other ≢ begins → IsKeptAt other before after

  -- putting them may have failed
  abbrev pub IsPutOrKept : ℕ → T → T → List ℕ → List ℕ → Type 0
  IsPutOrKept begins before after text receipt = IsPutAt begins after text receipt ⊎ IsKeptAt begins before after

-- the fault of a session that is not one of its octets: a read failed, or memory ran out
abbrev pub is_of_the_run : Option (List ℕ) → Bool
is_of_the_run None = false
is_of_the_run (Some fault) = bytes_eq fault (codes "ReadFailed") || bytes_eq fault (codes "OutOfMemory")

-- the table has all that the octets of an input give
abbrev pub was_read : InputValue → Bool
was_read input = not (is_of_the_run input.fault)

-- the names of the inputs that were read
abbrev pub names_read : List InputValue → List (List ℕ)
names_read inputs = map (λ (i : InputValue). i.file.name) (filter was_read inputs)

-- and of those that were left out: files of these names make no table again
abbrev pub names_in : ReceiptValue → List (List ℕ)
names_in r = names_read r.inputs ++ r.left_out

-- these are the paths that the receipt which is there names so; or there is none
abbrev pub NamesFiles : (Option (List ℕ) → Type 0) → Option (Vec (String Global) Global) → Type 0
NamesFiles Stands None = Stands None
NamesFiles Stands (Some paths) = (r : ReceiptValue) × Stands (Some (receipt_text r)) × (map string_bytes paths.items ≡ names_in r)
