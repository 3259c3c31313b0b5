-- What a try to take gave.
use Rattle.flow_link.specs.declared.parcel.Parcel.{Parcel}
use Rattle.flow_link.specs.declared.receiver.Taken.{Taken}
use Rattle.flow_link.specs.declared.receiver.Taken.TheVariants.{Got, Empty, Gone}

-- a fact for the parcel that was got
abbrev pub IfGot : Taken → (Parcel → Type 0) → Type 0
IfGot (Got parcel) P = P parcel
IfGot Empty P = Unit {0}
IfGot Gone P = Unit {0}

-- a fact if no parcel was got
abbrev pub UnlessGot : Taken → Type 0 → Type 0
UnlessGot (Got parcel) P = Unit {0}
UnlessGot Empty P = P
UnlessGot Gone P = P
