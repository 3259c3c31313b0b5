-- Lists of parcels.
use Rattle.std.specs.Prelude.{◌≡◌, Bool, true, false, List, [], ◌∷◌, ◌++◌}
use Rattle.ipfix_message.specs.declared.record.DataRecord.{DataRecord}
use Rattle.flow_link.specs.declared.parcel.Parcel.{Parcel}
use Rattle.flow_link.specs.declared.parcel.Parcel.TheVariants.{Item, Last}

-- whether Last stands in the list
abbrev pub has_last : List Parcel → Bool
has_last [] = false
has_last (Item r ∷ ps) = has_last ps
has_last (Last ∷ ps) = true

-- after Last nothing stands in the list
abbrev pub LastEnds : List Parcel → Type 0
LastEnds ps = (before after : List Parcel) → ps ≡ before ++ Last ∷ after → after ≡ []

-- records as parcels
abbrev pub items : List DataRecord → List Parcel
items [] = []
items (r ∷ rs) = Item r ∷ items rs

-- the records among parcels, in order
abbrev pub records_in : List Parcel → List DataRecord
records_in [] = []
records_in (Item r ∷ ps) = r ∷ records_in ps
records_in (Last ∷ ps) = records_in ps

-- whether a parcel is Last
abbrev pub is_last : Parcel → Bool
is_last (Item r) = false
is_last Last = true
