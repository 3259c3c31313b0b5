-- What the headline says of the lists of all sessions.
use Rattle.std.proofs.Common.{◌≡◌, ℕ, List, [], ◌∷◌, ◌++◌, true, Option, None, Some, length, refl, sym, ap, ◌∙◌, subst, map, sum_by, append_assoc, arith}
use Rattle.std.specs.Prelude.{All, ◌≢◌}
use Rattle.std.specs.Option.{ForSome}
use Rattle.std.specs.List.{AllZip, flat_map}
use Rattle.std.specs.Io.KnownBytes.{Consumes}
use Rattle.std.proofs.lemmas.List.{append_cancel_right}
use Rattle.std.proofs.lemmas.List.Elements.{All-head, All-tail, All-cons, All-from_recursion}
use Rattle.std.proofs.lemmas.List.Sums.{sum_by-append}
use Rattle.ipfix_message.specs.Domains.{Message}
use Rattle.ipfix_message.specs.declared.fault.MessageFault.TheVariants.{OutOfMemory}
use Rattle.ipfix_message.specs.declared.record.DataRecord.{DataRecord}
use Rattle.ipfix_session.specs.declared.fault.SessionFault.{SessionFault}
use Rattle.ipfix_session.specs.declared.fault.SessionFault.TheVariants as faults
use Rattle.ipfix_session.specs.declared.report.SessionReport.{SessionReport}
use Rattle.ipfix_session.specs.declared.stop.Stop.TheVariants.{Clean}
use Rattle.ipfix_session.specs.declared.driver.TheConstants.{READ_LIMIT}
use Rattle.ipfix_session.specs.declared.session_limits.SessionLimits.{SessionLimits}
use Rattle.ipfix_session.specs.Drives.{IsDueWithin, IsGivenWithin, unlimited}
use Rattle.ipfix_session.specs.Faults.{end_within, fault_at_end}
use Rattle.ipfix_session.specs.Given.{given_within, records_in, records_of, records_within, stop_of, IsPrefix}
use Rattle.ipfix_session.specs.Ledger.{capped}
use Rattle.ipfix_session.specs.Reports.{Reports, IsReport, IsReportWithin}
use Rattle.ipfix_session.specs.Sources.{SourceView}
use Rattle.ipfix_session.proofs.Driven.{given_all_of}
use Rattle.ipfix_session.proofs.Giving.{records_within-prefix, records_in-append}
use Rattle.flow_link.specs.Parcels as parcels
use Rattle.flow_link.specs.Settling.{settled_received}
use Rattle.flow_link.specs.declared.settled.Settled.{Settled}
use Rattle.flow_link.proofs.ParcelLists.{records_in-whole}
use Rattle.flow_table.specs.Bags.{IsSameBag}
use Rattle.flow_table.specs.Plans.{PlanValue}
use Rattle.flow_table.specs.Tables.{IsTooLarge}
use Rattle.flow_table.proofs.Bags.{too_large_bag, too_large_more}
use Rattle.flow_collect.specs.Places.{Each4}
use Rattle.flow_collect.specs.Headline.{IsReceived, IsGivenBy, all_of}
use Rattle.flow_collect.specs.Texts.{HadMemory, HasNoFault, WasReadOut, AreTexts, GaveThese, EachGave}
use Rattle.flow_collect.proofs.PlaceLists.{last_two, last_beside, last_two_beside, outer_two, each4_third}

-- ---- octets

-- what was consumed of a known text, of which this is left
consumed_known : (a b : Option (List ℕ)) (t left gave : List ℕ) → a ≡ Some t → b ≡ Some left → Consumes a b gave → t ≡ gave ++ left
consumed_known a b t left gave p q h = rw (p, q) at h

-- it is the beginning of the text
consumed_first : (a b : Option (List ℕ)) (t gave : List ℕ) → a ≡ Some t → Consumes a b gave → (left : List ℕ) × (t ≡ gave ++ left)
consumed_first None b t gave p h = cc p
consumed_first (Some x) None t gave p h = absurd h
consumed_first (Some x) (Some y) t gave p h = let same : x ≡ t = cc p in (y, sym same ∙ h)

prefix_trans : {X : Type 0} (xs ys zs : List X) → IsPrefix xs ys → IsPrefix ys zs → IsPrefix xs zs
prefix_trans xs ys zs p q = (p.0 ++ q.0, q.1 ∙ ap (λ l. l ++ q.0) p.1 ∙ append_assoc xs p.0 q.0)

-- the fault of a source that was read out is that of its octets
fault_is_end : (fault : Option SessionFault) (limits : SessionLimits) (gave : List ℕ) (before after : SourceView) → fault ≢ Some (faults.Message OutOfMemory) → fault ≢ Some faults.ReadFailed → fault ≢ Some faults.TooManyReads → fault ≢ Some faults.SinkClosed
    → IsDueWithin fault limits gave before after → fault ≡ end_within limits.templates gave
fault_is_end None limits gave before after m f n c due = ap fault_at_end (sym due.0)
fault_is_end (Some faults.Truncated) limits gave before after m f n c due = ap fault_at_end (sym due.0)
fault_is_end (Some faults.ReadFailed) limits gave before after m f n c due = absurd (f refl)
fault_is_end (Some faults.TooManyReads) limits gave before after m f n c due = absurd (n refl)
fault_is_end (Some (faults.Message OutOfMemory)) limits gave before after m f n c due = absurd (m refl)
fault_is_end (Some (faults.Message e)) limits gave before after m f n c due = ap fault_at_end (sym due)
fault_is_end (Some faults.SinkClosed) limits gave before after m f n c due = absurd (c refl)

-- whole texts, of which these are all records
abbrev AreWhole : List (List DataRecord) → List (List ℕ) → Type 0
AreWhole qs ts = AllZip (λ q t. (stop_of t ≡ Clean) × (q ≡ records_of t)) qs ts

module _ {S : Type 0} (seen : S → SourceView) (limits : SessionLimits) where
  -- ---- one session

  -- its records are the first of the octets', and with memory all of them
  given_first : (before after : S) (r : SessionReport) (q : List DataRecord) (g : IsGivenWithin seen limits before after r q) → IsPrefix q (records_within limits.templates g.gave)
  given_first before after r q g =
      let p = g.first in
      (records_in p.0, ap records_in p.1 ∙ records_in-append g.counted p.0 ∙ ap (λ l. l ++ records_in p.0) (sym g.records_are))

  given_whole : (before after : S) (r : SessionReport) (q : List DataRecord) (g : IsGivenWithin seen limits before after r q) → HadMemory r → q ≡ records_within limits.templates g.gave
  given_whole before after r q g memory = g.records_are ∙ ap records_in (g.all memory)

  -- the octets that a source gave, if it tells what it holds
  pub gave_is : (before after : S) (r : SessionReport) (q : List DataRecord) (b : List ℕ) (g : IsGivenWithin seen limits before after r q) → GaveThese (seen before) (seen after) b → b ≡ g.gave
  gave_is before after r q b g t = append_cancel_right b g.gave t.left (consumed_known (seen before).text (seen after).text (b ++ t.left) t.left g.gave t.held t.holds g.given.octets)

  pub first_of_text : (before after : S) (r : SessionReport) (q : List DataRecord) (t : List ℕ) → IsGivenWithin seen limits before after r q → (seen before).text ≡ Some t → IsPrefix q (records_within limits.templates t)
  first_of_text before after r q t g is =
      let held = consumed_first (seen before).text (seen after).text t g.gave is g.given.octets in
      let more : IsPrefix (records_within limits.templates g.gave) (records_within limits.templates t) = subst (λ (l : List ℕ). IsPrefix (records_within limits.templates g.gave) (records_within limits.templates l)) (sym held.1) (records_within-prefix limits.templates g.gave held.0) in
      prefix_trans q (records_within limits.templates g.gave) (records_within limits.templates t) (given_first before after r q g) more

  pub report_of_octets : (before after : S) (r : SessionReport) (q : List DataRecord) (b : List ℕ) → IsGivenWithin seen limits before after r q → GaveThese (seen before) (seen after) b → WasReadOut r → IsReportWithin limits.templates r b
  report_of_octets before after r q b g t out =
      let all = g.all out.had_memory in
      let told : Reports r (given_within limits.templates g.gave).messages (length (records_within limits.templates g.gave)) =
      subst (λ (ms : List Message). Reports r ms (length (records_in ms))) all (subst (λ (rs : List DataRecord). Reports r g.counted (length rs)) g.records_are g.report_is) in
      let due = fault_is_end r.fault limits g.gave (seen before) (seen after) out.had_memory out.no_failure out.in_time g.not_closed g.given.fault_is_due in
      subst (λ (l : List ℕ). IsReportWithin limits.templates r l) (sym (gave_is before after r q b g t)) (record { reports = told; fault = due })

module _ {S : Type 0} (seen : S → SourceView) where
  -- ---- all sessions

  pub all_whole : ((s : S) → (seen s).ended ≡ true → ForSome (seen s).text (λ xs. xs ≡ []))
      → (befores afters : List S) (rs : List SessionReport) (qs : List (List DataRecord)) (ts : List (List ℕ)) → Each4 (IsGivenBy seen) befores afters rs qs
      → AreTexts seen befores ts → All HasNoFault rs → AreWhole qs ts
  all_whole at_end befores afters rs qs ts e t n =
      last_beside (λ (s a : S) (r : SessionReport) (q : List DataRecord). IsGivenBy seen s a r q × HasNoFault r) (λ (s : S) (x : List ℕ). (seen s).text ≡ Some x) (λ (q : List DataRecord) (x : List ℕ). (stop_of x ≡ Clean) × (q ≡ records_of x))
      (λ s a r q x g is. given_all_of seen _ s a r q x (at_end a) g.0 g.1 is)
      befores afters rs qs ts (each4_third (IsGivenBy seen) HasNoFault befores afters rs qs e n) t

  pub records_by_octets : (befores afters : List S) (rs : List SessionReport) (qs : List (List DataRecord)) (bs : List (List ℕ)) → Each4 (IsGivenBy seen) befores afters rs qs
      → EachGave seen befores afters bs → All HadMemory rs → qs ≡ map records_of bs
  records_by_octets [] [] [] [] [] e t n = refl
  records_by_octets (s ∷ befores) (a ∷ afters) (r ∷ rs) (q ∷ qs) (b ∷ bs) e t n =
      let first : q ≡ records_of b = given_whole seen (unlimited READ_LIMIT) s a r q e.0 (All-head HadMemory r rs n) ∙ ap records_of (sym (gave_is seen (unlimited READ_LIMIT) s a r q b e.0 t.0)) in
      let rest = records_by_octets befores afters rs qs bs e.1 t.1 (All-tail HadMemory r rs n) in cc
  records_by_octets [] [] [] [] (b ∷ bs) e t n = absurd t
  records_by_octets (s ∷ befores) (a ∷ afters) (r ∷ rs) (q ∷ qs) [] e t n = absurd t
  records_by_octets befores afters rs qs bs e t n = absurd e

  pub reports_each : (befores afters : List S) (rs : List SessionReport) (qs : List (List DataRecord)) (bs : List (List ℕ)) → Each4 (IsGivenBy seen) befores afters rs qs
      → EachGave seen befores afters bs → AllZip (λ r b. WasReadOut r → IsReport r b) rs bs
  reports_each befores afters rs qs bs e t =
      outer_two (λ (r : SessionReport) (q : List DataRecord) (b : List ℕ). WasReadOut r → IsReport r b) (λ (r : SessionReport) (b : List ℕ). WasReadOut r → IsReport r b) (λ r q b is. is) rs qs bs
      (last_two_beside (IsGivenBy seen) (λ s a b. GaveThese (seen s) (seen a) b) (λ r q b. WasReadOut r → IsReport r b) (report_of_octets seen (unlimited READ_LIMIT)) befores afters rs qs bs e t)

  pub delivered_each : (befores afters : List S) (rs : List SessionReport) (qs : List (List DataRecord)) → Each4 (IsGivenBy seen) befores afters rs qs
      → AllZip (λ report q. report.delivered ≡ capped (length q)) rs qs
  delivered_each = last_two (IsGivenBy seen) (λ report q. report.delivered ≡ capped (length q)) (λ s a r q g. g.report_is.delivered_is)

  pub first_each : (befores afters : List S) (rs : List SessionReport) (qs : List (List DataRecord)) (ts : List (List ℕ)) → Each4 (IsGivenBy seen) befores afters rs qs
      → AreTexts seen befores ts → AllZip (λ q t. IsPrefix q (records_of t)) qs ts
  first_each = last_beside (IsGivenBy seen) (λ s t. (seen s).text ≡ Some t) (λ q t. IsPrefix q (records_of t)) (first_of_text seen (unlimited READ_LIMIT))

-- ---- whole texts

pub whole_records : (qs : List (List DataRecord)) (ts : List (List ℕ)) → AreWhole qs ts → all_of qs ≡ flat_map records_of ts
whole_records [] [] w = refl
whole_records (q ∷ qs) (t ∷ ts) w = ap (λ l. l ++ all_of qs) w.0.1 ∙ ap (λ l. records_of t ++ l) (whole_records qs ts w.1)
whole_records qs ts w = absurd w

pub whole_clean : (qs : List (List DataRecord)) (ts : List (List ℕ)) → AreWhole qs ts → All (λ t. stop_of t ≡ Clean) ts
whole_clean [] [] w = All-from_recursion (λ t. stop_of t ≡ Clean) [] tt
whole_clean (q ∷ qs) (t ∷ ts) w = All-cons (λ x. stop_of x ≡ Clean) t ts w.0.0 (whole_clean qs ts w.1)
whole_clean qs ts w = absurd w

-- ---- over links

pub delivered_over : (capacity : ℕ) (rs : List SessionReport) (ls : List Settled) (qs : List (List DataRecord)) → AllZip (λ report q. report.delivered ≡ capped (length q)) rs qs
    → AllZip (IsReceived capacity) ls qs → AllZip (λ report link. report.delivered ≡ capped (length (parcels.records_in (settled_received link)))) rs ls
delivered_over capacity [] [] [] d l = tt
delivered_over capacity (r ∷ rs) (x ∷ ls) (q ∷ qs) d l =
    let taken : parcels.records_in (settled_received x) ≡ q = ap parcels.records_in l.0.received_is ∙ records_in-whole q in
    (d.0 ∙ ap (λ (z : List DataRecord). capped (length z)) (sym taken), delivered_over capacity rs ls qs d.1 l.1)
delivered_over capacity [] (x ∷ ls) [] d l = absurd l
delivered_over capacity (r ∷ rs) [] (q ∷ qs) d l = absurd l
delivered_over capacity rs ls qs d l = absurd d

-- ---- too large

-- the records that the whole texts have more
others_of : {X : Type 0} (all : X → List DataRecord) (qs : List (List DataRecord)) (ts : List X) → AllZip (λ q t. IsPrefix q (all t)) qs ts
    → (others : List DataRecord) × IsSameBag (all_of qs ++ others) (flat_map all ts)
others_of all [] [] e = ([], λ w. refl)
others_of all (q ∷ qs) (t ∷ ts) e =
    let p = e.0 in
    let rest = others_of all qs ts e.1 in (
      p.0 ++ rest.0,
      λ w.
          let a = sum_by-append w (q ++ all_of qs) (p.0 ++ rest.0) in
          let b = sum_by-append w q (all_of qs) in
          let c = sum_by-append w p.0 rest.0 in
          let d = sum_by-append w (all_of qs) rest.0 in
          let f = rest.1 w in
          let g = sum_by-append w (all t) (flat_map all ts) in
          let h : sum_by w (all t) ≡ sum_by w (q ++ p.0) = ap (sum_by w) p.1 in
          let i = sum_by-append w q p.0 in
          omega arith,
    )
others_of all qs ts e = absurd e

pub too_large_lists : {X : Type 0} (plan : PlanValue) (all : X → List DataRecord) (qs : List (List DataRecord)) (ts : List X) → AllZip (λ q t. IsPrefix q (all t)) qs ts
    → IsTooLarge plan (all_of qs) → IsTooLarge plan (flat_map all ts)
too_large_lists plan all qs ts e large =
    let others = others_of all qs ts e in
    too_large_bag plan (all_of qs ++ others.0) (flat_map all ts) others.1 (too_large_more plan (all_of qs) others.0 large)

pub too_large_whole : (plan : PlanValue) (qs : List (List DataRecord)) (ts : List (List ℕ)) → AllZip (λ q t. IsPrefix q (records_of t)) qs ts
    → IsTooLarge plan (all_of qs) → IsTooLarge plan (flat_map records_of ts)
too_large_whole plan qs ts = too_large_lists plan records_of qs ts
