-- The flow records of files are those that came: what they tell again is options records.
use Rattle.std.proofs.Common.{◌≡◌, ℕ, Bool, cond, List, Option, [], ◌∷◌, ◌++◌, filter, sym, ap, ap₂, refl, ◌∙◌, append_assoc}
use Rattle.std.specs.Prelude.{All, flat_map}
use Rattle.std.proofs.lemmas.List.Elements.{All-head, All-tail, filter-append}
use Rattle.ipfix_message.specs.declared.record.DataRecord.{DataRecord}
use Rattle.ipfix_session.specs.Given.{IsPrefix, records_of, records_within}
use Rattle.recording_files.specs.Faithful.{FileRecords, GiveFirstRecordsOf, GiveRecordsOf, IsToldAgain, TellAgain, all_in, is_flow}

no_flows : (rs qs : List DataRecord) → All (IsToldAgain rs) qs → filter is_flow qs ≡ []
no_flows rs [] all = refl
no_flows rs (q ∷ qs) all =
    ap (λ (b : Bool). cond b (q ∷ filter is_flow qs) (filter is_flow qs)) (All-head (IsToldAgain rs) q qs all).options ∙ no_flows rs qs (All-tail (IsToldAgain rs) q qs all)

pub flows_came : (before : List DataRecord) (parts : List FileRecords) → TellAgain before parts → filter is_flow (flat_map all_in parts) ≡ filter is_flow (flat_map (λ r. r.came) parts)
flows_came before [] again = refl
flows_came before (r ∷ rs) again =
    let more = flows_came (before ++ r.came) rs again.1 in
    filter-append is_flow (r.told ++ r.came) (flat_map all_in rs)
    ∙ ap₂ (λ (a b : List DataRecord). a ++ b) (filter-append is_flow r.told r.came ∙ ap (λ (qs : List DataRecord). qs ++ filter is_flow r.came) (no_flows before r.told again.0)) more
    ∙ sym (filter-append is_flow r.came (flat_map (λ q. q.came) rs))

pub all_flows : (limit : Option ℕ) (files : List (List ℕ)) (text : List ℕ) → GiveRecordsOf limit files text → filter is_flow (flat_map records_of files) ≡ filter is_flow (records_within limit text)
all_flows limit files text g = ap (filter is_flow) g.are ∙ flows_came [] g.parts g.again ∙ ap (filter is_flow) g.records

pub flows_prefix : (rs qs : List DataRecord) → IsPrefix rs qs → IsPrefix (filter is_flow rs) (filter is_flow qs)
flows_prefix rs qs p = (filter is_flow p.0, ap (filter is_flow) p.1 ∙ filter-append is_flow rs p.0)

prefix-trans : (xs ys zs : List DataRecord) → IsPrefix xs ys → IsPrefix ys zs → IsPrefix xs zs
prefix-trans xs ys zs p q = (p.0 ++ q.0, q.1 ∙ ap (λ (l : List DataRecord). l ++ q.0) p.1 ∙ append_assoc xs p.0 q.0)

pub first_flows : (limit : Option ℕ) (files : List (List ℕ)) (text : List ℕ) → GiveFirstRecordsOf limit files text → IsPrefix (filter is_flow (flat_map records_of files)) (filter is_flow (records_within limit text))
first_flows limit files text g =
    let came = flat_map (λ (r : FileRecords). r.came) g.parts in
    let front = flows_prefix (flat_map records_of files) (flat_map all_in g.parts) g.are in
    let front_came : IsPrefix (filter is_flow (flat_map records_of files)) (filter is_flow came) = (front.0, sym (flows_came [] g.parts g.again) ∙ front.1) in
    prefix-trans (filter is_flow (flat_map records_of files)) (filter is_flow came) (filter is_flow (records_within limit text)) front_came (flows_prefix came (records_within limit text) g.records)
