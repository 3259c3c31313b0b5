-- LinkEnds, one parcel further.
use Rattle.std.proofs.Common.{◌≡◌, ℕ, ◌+◌, ◌<◌, List, [], ◌∷◌, ◌++◌, true, refl, ap, sym, ◌∙◌, subst, append_assoc, append-nil, length, get_or, map, arith}
use Rattle.std.specs.Prelude.{sum_by, All}
use Rattle.std.proofs.Math.ListN.{set}
use Rattle.std.proofs.Math.Seq.{map-set_same}
use Rattle.std.proofs.lemmas.List.Sums.{sum_by-append, sum_by-set, sum_by-cons}
use Rattle.std.proofs.lemmas.List.Elements.{All-head, All-map, All-tail}
use Rattle.std.proofs.lemmas.Simd.{map-map}
use Rattle.ipfix_message.specs.declared.record.DataRecord.{DataRecord}
use Rattle.flow_link.specs.Ends.{LinkName, ReceiverView}
use Rattle.flow_link.specs.Parcels.{has_last, records_in}
use Rattle.flow_table.specs.Partials.{StandsFor, plan_of}
use Rattle.flow_table.specs.declared.partial.Partial.{Partial}
use Rattle.flow_collect.specs.Promises.{taken_from}
use Rattle.flow_collect.specs.LinkEnds.{link_end_key, link_end_records, link_end_weight, receivers_of, TakesInto, RoundsInto, StandsForLinkEnds, IsEnded, WorkerRan}
use Rattle.flow_collect.specs.declared.worker.LinkEnd.{LinkEnd}
use Rattle.flow_collect.specs.declared.worker.WorkerShare.{WorkerShare}

-- what was taken of one end of a link joins what was taken in the round
pub rounds_on : (link_ends : List LinkEnd) (p : Partial) (mid : List LinkEnd) (q : Partial) (k : ℕ) (link_end link_end' : LinkEnd) (q' : Partial) → k < length mid → link_end ≡ get_or mid k link_end
    → RoundsInto link_ends p mid q → TakesInto link_end q link_end' q' → RoundsInto link_ends p (set mid k link_end') q'
rounds_on link_ends p mid q k link_end link_end' q' in_range here r t =
    record {
      taken = r.taken ++ t.taken;
      keys = map-set_same link_end_key mid k link_end' link_end (t.key ∙ ap link_end_key here) ∙ r.keys;
      weighs = λ w.
          let s = sum_by-set (link_end_weight w) mid k link_end' link_end in_range in
          let h : link_end_weight w link_end' ≡ link_end_weight w link_end + sum_by w t.taken = ap (sum_by w) t.records_is ∙ sum_by-append w (link_end_records link_end) t.taken in
          let e = ap (link_end_weight w) here in
          let a = sum_by-append w r.taken t.taken in
          omega (arith, r.weighs w);
      adds = (t.adds.0 ∙ r.adds.0, λ rs st. subst (StandsFor q') (append_assoc rs r.taken t.taken) (t.adds.1 (rs ++ r.taken) (r.adds.1 rs st)));
    }

pub rounds_none : (link_ends : List LinkEnd) (p : Partial) → RoundsInto link_ends p link_ends p
rounds_none link_ends p =
    record { taken = []; keys = refl; weighs = λ w. omega arith; adds = (refl, λ rs st. subst (StandsFor p) (sym (append-nil rs)) st) }

pub stands_on : (link_ends link_ends' : List LinkEnd) (p p' : Partial) → StandsForLinkEnds p link_ends → RoundsInto link_ends p link_ends' p' → StandsForLinkEnds p' link_ends'
stands_on link_ends link_ends' p p' s r =
    record {
      records = s.records ++ r.taken;
      stands = r.adds.1 s.records s.stands;
      weighs = λ w. let a = sum_by-append w s.records r.taken in omega (arith, s.weighs w, r.weighs w);
    }

pub weighs_nothing : (link_ends : List LinkEnd) → All (λ link_end. link_end.receiver.received ≡ []) link_ends → (w : DataRecord → ℕ) → sum_by (link_end_weight w) link_ends ≡ 0
weighs_nothing [] h w = refl
weighs_nothing (link_end ∷ link_ends) h w =
    let t = weighs_nothing link_ends (All-tail (λ link_end. link_end.receiver.received ≡ []) link_end link_ends h) w in
    let e : link_end_weight w link_end ≡ 0 = ap (λ ps. sum_by w (records_in ps)) (All-head (λ link_end. link_end.receiver.received ≡ []) link_end link_ends h) in
    omega (arith, sum_by-cons (link_end_weight w) link_end link_ends)

-- before the first round
pub stands_first : (p : Partial) (link_ends : List LinkEnd) → StandsFor p [] → All (λ link_end. link_end.receiver.received ≡ []) link_ends → StandsForLinkEnds p link_ends
stands_first p link_ends s h = record { records = []; stands = s; weighs = λ w. sym (weighs_nothing link_ends h w) }

-- ---- the whole thread

pub taken_weighs : (w : DataRecord → ℕ) (link_ends : List LinkEnd) → sum_by w (taken_from (receivers_of link_ends)) ≡ sum_by (link_end_weight w) link_ends
taken_weighs w [] = refl
taken_weighs w (link_end ∷ link_ends) =
    let more = taken_weighs w link_ends in
    let a = sum_by-append w (link_end_records link_end) (taken_from (receivers_of link_ends)) in
    omega (arith, sum_by-cons (link_end_weight w) link_end link_ends)

links_same : (xs ys : List LinkEnd) → map link_end_key xs ≡ map link_end_key ys → map (λ (r : ReceiverView). r.link) (receivers_of xs) ≡ map (λ (r : ReceiverView). r.link) (receivers_of ys)
links_same xs ys e = simp map-map (simp map-map at (ap (map (λ (key : ℕ × LinkName). key.1)) e))

pub worker_ran : (share : WorkerShare) (w : WorkerShare) → map link_end_key w.link_ends.items ≡ map link_end_key share.link_ends.items → plan_of w.partial ≡ plan_of share.partial
    → All IsEnded w.link_ends.items → StandsForLinkEnds w.partial w.link_ends.items → WorkerRan share w
worker_ran share w keys plan ended s =
    record {
      keys = keys;
      took = record {
        links_are = links_same w.link_ends.items share.link_ends.items keys;
        ended = All-map (λ (r : ReceiverView). has_last r.received ≡ true) (λ (link_end : LinkEnd). link_end.receiver) w.link_ends.items ended;
        plan_is = plan;
        records = s.records;
        stands = s.stands;
        are_taken = λ weight. s.weighs weight ∙ sym (taken_weighs weight w.link_ends.items);
      };
    }
