-- Settled links and merged tables, one more.
use Rattle.std.proofs.Common.{◌≡◌, ℕ, List, [], ◌∷◌, ◌++◌, refl, ap, sym, ◌∙◌, length, map, take, drop, arith}
use Rattle.std.specs.Prelude.{Some, slice_get, All, sum_by, IsPermutation}
use Rattle.std.proofs.lemmas.Grind.{flat_map-append}
use Rattle.std.proofs.lemmas.List.{map_push, take-append-drop}
use Rattle.std.proofs.lemmas.List.Elements.{All-head, All-tail, All-append, All-nil, All-take}
use Rattle.std.proofs.lemmas.List.Sorted.{sum_by-IsPermutation}
use Rattle.std.proofs.lemmas.List.Sums.{sum_by-append, sum_by-cons}
use Rattle.ipfix_message.specs.declared.record.DataRecord.{DataRecord}
use Rattle.flow_link.specs.Parcels.{records_in}
use Rattle.flow_link.specs.Settling.{settled_received}
use Rattle.flow_link.specs.declared.settled.Settled.{Settled}
use Rattle.flow_table.specs.Partials.{StandsFor, plan_of}
use Rattle.flow_table.specs.Plans.{PlanValue}
use Rattle.flow_table.specs.declared.partial.Partial.{Partial}
use Rattle.flow_collect.specs.Dealt.{IsPaired}
use Rattle.flow_collect.specs.Finished.{HasTaken, IsMerged, link_ends_of, ended_link, SettlesEnds, SettledAll, SettlesOne, CameOver}
use Rattle.flow_collect.specs.LinkEnds.{StandsForLinkEnds, IsEnded, link_end_weight}
use Rattle.flow_collect.specs.Places.{Each3}
use Rattle.flow_collect.specs.Promises.{settled_records}
use Rattle.flow_collect.specs.declared.session_thread.EndedSession.{EndedSession}
use Rattle.flow_collect.specs.declared.settling.Parts.{Parts}
use Rattle.flow_collect.specs.declared.worker.LinkEnd.{LinkEnd}
use Rattle.flow_collect.specs.declared.worker.WorkerShare.{WorkerShare}
use Rattle.flow_collect.proofs.Deals.{at_seam}
use Rattle.flow_collect.proofs.ZipLists.{each3_more}

-- the end at a session's place has that session's link
pub paired_here : {S : Type 0} (all ts rest rest' : List (EndedSession S)) (t : EndedSession S) (number : ℕ) (link_end : LinkEnd)
    → all ≡ ts ++ rest → rest ≡ t ∷ rest' → number ≡ length ts → link_end.session ≡ number → IsPaired (map ended_link all) link_end → ended_link t ≡ link_end.receiver.link
paired_here all ts rest rest' t number link_end e f n m p =
    let whole : all ≡ ts ++ t ∷ rest' = e ∙ ap (λ r. ts ++ r) f in
    let here : slice_get (map ended_link all) link_end.session ≡ Some (ended_link t) = rw (whole, m, n) (at_seam ended_link ts t rest') in
    cc

pub settled_on : {S : Type 0} (ts : List (EndedSession S)) (ls : List LinkEnd) (t : EndedSession S) (link_end : LinkEnd) (old new : Parts S)
    → SettledAll ts ls old → SettlesOne t link_end old new → SettledAll (ts ++ t ∷ []) (ls ++ link_end ∷ []) new
settled_on {S} ts ls t link_end old new all one =
    record {
      reports_are = one.reports_are ∙ (ap (λ r. r ++ t.report ∷ []) all.reports_are ∙ sym (map_push (λ (t : EndedSession S). t.report) ts t));
      sources_are = one.sources_are ∙ (ap (λ r. r ++ t.source ∷ []) all.sources_are ∙ sym (map_push (λ (t : EndedSession S). t.source) ts t));
      links_are = rw one.links_are (each3_more _ ts ls old.links.items t link_end one.link all.links_are one.settled);
    }

pub settled_end : {S : Type 0} (ts : List (EndedSession S)) (ls : List LinkEnd) (parts : Parts S) (ts0 : List (EndedSession S)) (ls0 : List LinkEnd)
    → ts0 ≡ ts → ls0 ≡ ls → SettledAll ts ls parts → SettledAll ts0 ls0 parts
settled_end {S} ts ls parts ts0 ls0 e f all = rw (e, f) all

pub stands_joined : (p q r : Partial) (xs ys : List LinkEnd) → ((rs qs : List DataRecord) → StandsFor p rs → StandsFor q qs → StandsFor r (rs ++ qs)) → StandsForLinkEnds p xs → StandsForLinkEnds q ys → StandsForLinkEnds r (xs ++ ys)
stands_joined p q r xs ys merged a b =
    record {
      records = a.records ++ b.records;
      stands = merged a.records b.records a.stands b.stands;
      weighs = λ w. let s = sum_by-append w a.records b.records in let l = sum_by-append (link_end_weight w) xs ys in omega (arith, a.weighs w, b.weighs w);
    }

-- what came of merging each half by itself and then both
pub merged_halves : (ws low high : List WorkerShare) (n : ℕ) (first second all : WorkerShare) → low ≡ take n ws → high ≡ drop n ws → IsMerged low first → IsMerged high second
    → all.link_ends.items ≡ first.link_ends.items ++ second.link_ends.items → plan_of all.partial ≡ plan_of first.partial
    → ((rs qs : List DataRecord) → StandsFor first.partial rs → StandsFor second.partial qs → StandsFor all.partial (rs ++ qs)) → IsMerged ws all
merged_halves ws low high n first second all front back a b link_ends plan merges =
    let whole : low ++ high ≡ ws = rw (front, back) (take-append-drop n ws) in
    record {
      link_ends_are = link_ends ∙ rw (a.link_ends_are, b.link_ends_are) (sym (flat_map-append (λ (w : WorkerShare). w.link_ends.items) low high) ∙ ap link_ends_of whole);
      table = rw link_ends (stands_joined _ _ _ _ _ merges a.table b.table);
      plan_is = λ p taken. plan ∙ a.plan_is p (rw front (All-take (HasTaken p) n ws taken));
    }

-- the ends of links weigh what the settled links weigh
pub links_weigh : {S : Type 0} (w : DataRecord → ℕ) (ts : List (EndedSession S)) (ls : List LinkEnd) (ks : List Settled)
    → Each3 SettlesEnds ts ls ks → sum_by (link_end_weight w) ls ≡ sum_by w (settled_records ks)
links_weigh w [] [] [] e = refl
links_weigh w (t ∷ ts) (l ∷ ls) (k ∷ ks) e =
    let more = links_weigh w ts ls ks e.1 in
    let here : sum_by w (records_in (settled_received k)) ≡ link_end_weight w l = ap (λ ps. sum_by w (records_in ps)) e.0.received_is in
    let a = sum_by-append w (records_in (settled_received k)) (settled_records ks) in
    omega (arith, sum_by-cons (link_end_weight w) l ls)
links_weigh w ts ls ks e = absurd e

pub stands_sorted : (p : Partial) (xs ys : List LinkEnd) → IsPermutation xs ys → StandsForLinkEnds p xs → StandsForLinkEnds p ys
stands_sorted p xs ys same s =
    record { records = s.records; stands = s.stands; weighs = λ w. s.weighs w ∙ sym (sum_by-IsPermutation (link_end_weight w) xs ys same) }

pub link_ends_ended : (plan : PlanValue) (ws : List WorkerShare) → All (HasTaken plan) ws → All IsEnded (link_ends_of ws)
link_ends_ended plan [] h = All-nil IsEnded
link_ends_ended plan (w ∷ ws) h =
    let first = All-head (HasTaken plan) w ws h in
    All-append IsEnded w.link_ends.items (link_ends_of ws) first.ended (link_ends_ended plan ws (All-tail (HasTaken plan) w ws h))

pub came_over : {S : Type 0} (ts : List (EndedSession S)) (link_ends : List LinkEnd) (parts : Parts S) (p : Partial)
    → SettledAll ts link_ends parts → All IsEnded link_ends → (s : StandsForLinkEnds p link_ends) → CameOver ts parts s.records
came_over ts link_ends parts p settled ended s =
    record { link_ends = link_ends; settled = settled; ended = ended; same = λ w. s.weighs w ∙ links_weigh w ts link_ends parts.links.items settled.links_are }
