-- Lists of parcels.
use Rattle.std.proofs.Common.{◌≡◌, sym, ℕ, true, false, ◌-◌, List, [], ◌∷◌, ◌++◌, length, take, refl, ap, subst, arith}
use Rattle.std.proofs.lemmas.Grind.{common_steps}
use Rattle.ipfix_message.specs.declared.record.DataRecord.{DataRecord}
use Rattle.flow_link.specs.declared.parcel.Parcel.{Parcel}
use Rattle.flow_link.specs.declared.parcel.Parcel.TheVariants.{Item, Last}
use Rattle.flow_link.specs.Parcels.{is_last, has_last, LastEnds, items, records_in}

pub has_last_push : (ps : List Parcel) (p : Parcel) → has_last ps ≡ false → has_last (ps ++ p ∷ []) ≡ is_last p
has_last_push [] (Item r) h = refl
has_last_push [] Last h = refl
has_last_push (Item r ∷ ps) p h = has_last_push ps p h
has_last_push (Last ∷ ps) p h = cc

-- of two lists, one after the other
pub has_last-append : (ps qs : List Parcel) → has_last ps ≡ false → has_last (ps ++ qs) ≡ has_last qs
has_last-append [] qs h = refl
has_last-append (Item r ∷ ps) qs h = has_last-append ps qs h
has_last-append (Last ∷ ps) qs h = cc

pub records_in-append : (ps qs : List Parcel) → records_in (ps ++ qs) ≡ records_in ps ++ records_in qs
records_in-append [] qs = refl
records_in-append (Item r ∷ ps) qs = ap (λ (rs : List DataRecord). r ∷ rs) (records_in-append ps qs)
records_in-append (Last ∷ ps) qs = records_in-append ps qs

pub has_last-items : (rs : List DataRecord) → has_last (items rs) ≡ false
has_last-items [] = refl
has_last-items (r ∷ rs) = has_last-items rs

-- the parcels of a session that was sent whole
pub records_in-whole : (rs : List DataRecord) → records_in (items rs ++ Last ∷ []) ≡ rs
records_in-whole [] = refl
records_in-whole (r ∷ rs) = ap (λ (qs : List DataRecord). r ∷ qs) (records_in-whole rs)

pub has_last-whole : (rs : List DataRecord) → has_last (items rs ++ Last ∷ []) ≡ true
has_last-whole rs = has_last-append (items rs) (Last ∷ []) (has_last-items rs)

pub last_ends_empty : LastEnds []
last_ends_empty [] after e = cc
last_ends_empty (b ∷ before) after e = cc

-- if Last did not stand before the newest, it stands at the end alone
pub last_ends_push : (ps : List Parcel) (p : Parcel) → has_last ps ≡ false → LastEnds (ps ++ p ∷ [])
last_ends_push [] p h [] after e = cc
last_ends_push [] p h (b ∷ []) after e = cc
last_ends_push [] p h (b ∷ (c ∷ before)) after e = cc
last_ends_push (Item r ∷ ps) p h [] after e = cc
last_ends_push (Item r ∷ ps) p h (b ∷ before) after e =
    let rest : ps ++ p ∷ [] ≡ before ++ Last ∷ after = cc in last_ends_push ps p h before after rest
last_ends_push (Last ∷ ps) p h before after e = cc

pub last_ends_whole : (rs : List DataRecord) → LastEnds (items rs ++ Last ∷ [])
last_ends_whole rs = last_ends_push (items rs) Last (has_last-items rs)

-- if nothing stands after Last in a list, nothing does in its rest
last_ends_rest : (p : Parcel) (ps : List Parcel) → LastEnds (p ∷ ps) → LastEnds ps
last_ends_rest p ps ends before after e = let e' : p ∷ ps ≡ (p ∷ before) ++ Last ∷ after = cc in ends (p ∷ before) after e'

-- a list in which Last stands, and nothing after it, is that of a session that was sent whole
pub whole_session : (ps : List Parcel) → LastEnds ps → has_last ps ≡ true → ps ≡ items (records_in ps) ++ Last ∷ []
whole_session [] ends h = cc
whole_session (Item r ∷ ps) ends h = ap (λ (qs : List Parcel). Item r ∷ qs) (whole_session ps (last_ends_rest (Item r) ps ends) h)
whole_session (Last ∷ ps) ends h =
    let none : ps ≡ [] = ends [] ps refl in rw none refl

nothing_left : (taken left : List Parcel) → taken ++ left ≡ [] → left ≡ []
nothing_left [] left e = e
nothing_left (p ∷ taken) left e = cc

-- if what was taken of a whole list has Last, nothing is left
pub gave_all : (taken left all : List Parcel) → taken ++ left ≡ all → LastEnds all → has_last taken ≡ true → left ≡ []
gave_all [] left all e ends h = cc
gave_all (Last ∷ taken) left all e ends h = nothing_left taken left (ends [] (taken ++ left) (sym e))
gave_all (Item r ∷ taken) left all e ends h =
    gave_all taken left (taken ++ left) refl (last_ends_rest (Item r) (taken ++ left) (subst LastEnds (sym e) ends)) h

-- of all that was taken, what was taken before the newest
pub taken_before : (before start newest all : List Parcel) (count : ℕ) → start ≡ before → all ≡ start ++ newest → length newest ≡ count → take (length all - count) all ≡ before
taken_before before start newest all count s e n = grind (arith, common_steps, s, e, n)

-- the same of equal lists
pub joined_as : (taken taken' left left' all all' : List Parcel) → taken ≡ taken' → left' ≡ left → taken ++ left ≡ all → all ≡ all' → taken' ++ left' ≡ all'
joined_as taken taken' left left' all all' t l e a = cc
