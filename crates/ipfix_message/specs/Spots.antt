-- Spots in front of the places of all elements: each is vacant, or has the place of one element.
use Rattle.std.specs.Prelude.{◌≡◌, ℕ, ◌<◌, ◌%◌, ◌==◌, if◌then◌else◌, List, slice_index_or, slice_set, Some, None}
use Rattle.std.specs.Ordering.{nat_cmp}
use Rattle.std.specs.BTreeMap.{BTreeMap, get}
use Rattle.ipfix_message.specs.declared.places.FieldPlace.{FieldPlace}
use Rattle.ipfix_message.specs.declared.places.Spot.{Spot}
use Rattle.ipfix_message.specs.declared.places.TheConstants.{SPOTS, VACANT}

abbrev pub spot : ℕ → FieldPlace → Spot
spot key place = record { key = key; place = place }

abbrev pub vacant_spot : Spot
vacant_spot = spot VACANT (record { before = 0; offset = 0; width = 0 })

-- the only spot in which the element of a key may be
abbrev pub spot_of : List Spot → ℕ → Spot
spot_of spots key = slice_index_or spots (key % SPOTS) vacant_spot

-- with the place of a key, if its spot is vacant
abbrev pub filled : List Spot → ℕ → FieldPlace → List Spot
filled spots key place =
    if (spot_of spots key).key == VACANT then slice_set spots (key % SPOTS) (spot key place) else spots

-- an element that stands in its spot has the place there, and one whose spot is vacant has none
pub record AreSpotsOf (spots : List Spot) (all : BTreeMap ℕ FieldPlace) : Type 0 where
  pub taken : (key : ℕ) → key < VACANT → (spot_of spots key).key ≡ key
      → get nat_cmp all key ≡ Some (spot_of spots key).place
  pub vacant : (key : ℕ) → key < VACANT → (spot_of spots key).key ≡ VACANT → get nat_cmp all key ≡ None
