-- What sending a record over a link changes.
use Rattle.std.specs.Prelude.{◌≡◌, [], ◌∷◌, ◌++◌}
use Rattle.ipfix_message.specs.declared.record.DataRecord.{DataRecord}
use Rattle.flow_link.specs.Ends.{SenderView}
use Rattle.flow_link.specs.declared.parcel.Parcel.TheVariants.{Item}

-- over the same link, this record was sent as an Item
abbrev pub SendsItem : SenderView → DataRecord → SenderView → Type 0
SendsItem before item after =
    (after.sent ≡ before.sent ++ Item item ∷ []) × (after.link ≡ before.link) × (after.capacity ≡ before.capacity)
