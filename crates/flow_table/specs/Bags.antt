-- Lists of data records, and what their order doesn't matter to.
use Rattle.std.specs.Prelude.{◌≡◌, ℕ, List, [], ◌∷◌, sum_by}
use Rattle.ipfix_message.specs.declared.record.DataRecord.{DataRecord}

-- data records, one after another
abbrev pub Records : Type 0
Records = List DataRecord

-- the same records, each as often, in whatever order: each weight of records sums to the same over both
abbrev pub IsSameBag : Records → Records → Type 0
IsSameBag rs qs = (weight : DataRecord → ℕ) → sum_by weight rs ≡ sum_by weight qs

-- what holds of records holds of the same ones in every order
abbrev pub IsFreeOfOrder : (Records → Type 0) → Type 0
IsFreeOfOrder P = (rs qs : Records) → IsSameBag rs qs → P rs → P qs

-- two lists taken turn by turn into one, each of them in its own order
pub data IsInterleaving : List DataRecord → List DataRecord → List DataRecord → Type 0 where
  neither : IsInterleaving [] [] []
  from_first : {r : DataRecord} {rs qs all : List DataRecord} → IsInterleaving rs qs all → IsInterleaving (r ∷ rs) qs (r ∷ all)
  from_second : {r : DataRecord} {rs qs all : List DataRecord} → IsInterleaving rs qs all → IsInterleaving rs (r ∷ qs) (r ∷ all)
