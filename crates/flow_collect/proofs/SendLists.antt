-- What a chain of sends leaves.
use Rattle.std.proofs.Common.{◌≡◌, ℕ, List, [], ◌∷◌, ◌++◌, refl, ap, sym, ◌∙◌, append_assoc, append-nil}
use Rattle.std.specs.List.{FoldsTo}
use Rattle.ipfix_session.specs.Sinks.{SinkView}
use Rattle.ipfix_session.specs.Sources.{one_more}
use Rattle.ipfix_message.specs.declared.record.DataRecord.{DataRecord}
use Rattle.flow_link.specs.Ends.{SenderView}
use Rattle.flow_link.specs.Parcels.{items}
use Rattle.flow_link.specs.declared.parcel.Parcel.TheVariants.{Item}
use Rattle.flow_collect.specs.Sends.{SendsItem}
use Rattle.flow_collect.specs.declared.link_sink.LinkSink.{LinkSink}

pub chain_sent : {K : Type 0} (sender : K → SenderView) (count : K → ℕ) (k : K) (rs : List DataRecord) (m : K)
    → FoldsTo (λ a r b. SendsItem (sender a) r (sender b) × (count b ≡ one_more (count a))) k rs m
    → ((sender m).sent ≡ (sender k).sent ++ items rs) × ((sender m).link ≡ (sender k).link) × ((sender m).capacity ≡ (sender k).capacity)
chain_sent sender count k [] m f = rw (← f) (sym (append-nil (sender k).sent), refl, refl)
chain_sent sender count k (r ∷ rs) m f =
    let t = chain_sent sender count f.0 rs m f.2 in let one = f.1.0 in
    (t.0 ∙ (ap (λ x. x ++ items rs) one.0 ∙ append_assoc (sender k).sent (Item r ∷ []) (items rs)), t.1 ∙ one.1, t.2 ∙ one.2)

abbrev pub link_view : {R G : Type 0} → SinkView (LinkSink R G)
link_view = record { took = λ before item after. SendsItem before.sender item after.sender × (after.sent ≡ one_more before.sent); refused = λ s. s.refused }
