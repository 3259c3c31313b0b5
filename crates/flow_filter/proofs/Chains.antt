-- What a sink behind a filter takes, record after record.
use Rattle.std.proofs.Common.{◌≡◌, ℕ, ◌+◌, ◌≤◌, ◌^◌, ◌-◌, Bool, true, false, cond, Option, List, [], ◌∷◌, subst, refl, sym, ap, ◌∙◌, zero-add, arith}
use Rattle.std.specs.Prelude.{not, count_by, MatchBool}
use Rattle.std.specs.Borrow.{Bor}
use Rattle.std.specs.List.{FoldsTo}
use Rattle.std.proofs.lemmas.List.Sums.{sum_by-cons}
use Rattle.ipfix_message.specs.declared.record.DataRecord.{DataRecord}
use Rattle.ipfix_session.specs.Ledger.{capped}
use Rattle.ipfix_session.specs.Sinks.{SinkView}
use Rattle.ipfix_session.specs.Sources.{one_more}
use Rattle.flow_filter.specs.declared.filter.Filter.{Filter}
use Rattle.flow_filter.specs.declared.sink.FilterSink.{FilterSink}
use Rattle.flow_filter.specs.Sinks.{counted, is_let_by, left_out, TakesCounted}

module _ {K : Type 0} (took : K → DataRecord → K → Type 0) where
  -- one record, by whether it is counted
  one_taken : (b : Bool) (start middle end : K) (r : DataRecord) (rs : List DataRecord) (n m : ℕ) → MatchBool b (took start r middle × (m ≡ n)) ((middle ≡ start) × (m ≡ one_more n))
      → FoldsTo took middle rs end → FoldsTo took start (cond b (r ∷ rs) rs) end
  one_taken true start middle end r rs n m h rest = (middle, h.0, rest)
  one_taken false start middle end r rs n m h rest = subst (λ (k : K). FoldsTo took k rs end) h.0 rest

  one_left_out : (b : Bool) (start middle : K) (r : DataRecord) (n m c : ℕ) → n ≤ 2 ^ 64 - 1 → MatchBool b (took start r middle × (m ≡ n)) ((middle ≡ start) × (m ≡ one_more n))
      → (m ≤ 2 ^ 64 - 1) × (capped (m + c) ≡ capped (n + (cond (not b) 1 0 + c)))
  one_left_out true start middle r n m c small h = (omega (arith, small, h.1), omega (arith, small, h.1))
  one_left_out false start middle r n m c small h = (omega (arith, small, h.1), omega (arith, small, h.1))

module _ {K : Type 0} (view : SinkView K) where
  -- of all records those that are counted
  pub counted_chain : (f : Option (Bor Filter)) (rs : List DataRecord) (before after : FilterSink K) → before.filter ≡ f → FoldsTo (TakesCounted view) before rs after → FoldsTo view.took before.sink (counted f rs) after.sink
  counted_chain f [] before after same h = ap (λ (s : FilterSink K). s.sink) h
  counted_chain f (r ∷ rs) before after same h =
      let rest = counted_chain f rs h.0 after (h.1.same_filter ∙ same) h.2 in
      one_taken view.took (is_let_by f r) before.sink h.0.sink after.sink r (counted f rs) before.filtered h.0.filtered
      (subst (λ (g : Option (Bor Filter)). MatchBool (is_let_by g r) (view.took before.sink r h.0.sink × (h.0.filtered ≡ before.filtered)) ((h.0.sink ≡ before.sink) × (h.0.filtered ≡ one_more before.filtered))) same h.1.taken) rest

  -- and the others are counted as left out
  pub left_out_chain : (f : Option (Bor Filter)) (rs : List DataRecord) (before after : FilterSink K) → before.filter ≡ f → before.filtered ≤ 2 ^ 64 - 1 → FoldsTo (TakesCounted view) before rs after
      → after.filtered ≡ capped (before.filtered + count_by (λ r. not (is_let_by f r)) rs)
  left_out_chain f [] before after same small h = sym (ap (λ (s : FilterSink K). s.filtered) h) ∙ omega (arith, small)
  left_out_chain f (r ∷ rs) before after same small h =
      let one = one_left_out view.took (is_let_by f r) before.sink h.0.sink r before.filtered h.0.filtered (count_by (λ r. not (is_let_by f r)) rs) small
      (subst (λ (g : Option (Bor Filter)). MatchBool (is_let_by g r) (view.took before.sink r h.0.sink × (h.0.filtered ≡ before.filtered)) ((h.0.sink ≡ before.sink) × (h.0.filtered ≡ one_more before.filtered))) same h.1.taken) in
      left_out_chain f rs h.0 after (h.1.same_filter ∙ same) one.0 h.2 ∙ one.1
      ∙ ap (λ (c : ℕ). capped (before.filtered + c)) (sym (sum_by-cons (λ r. cond (not (is_let_by f r)) 1 0) r rs))

  -- those of a sink that has left out nothing
  pub left_out_new : (before after : FilterSink K) (rs : List DataRecord) → before.filtered ≡ 0 → FoldsTo (TakesCounted view) before rs after → after.filtered ≡ left_out before.filter rs
  left_out_new before after rs none h =
      left_out_chain before.filter rs before after refl (omega (arith, none)) h
      ∙ ap (λ (n : ℕ). capped (n + count_by (λ r. not (is_let_by before.filter r)) rs)) none
      ∙ ap (λ (n : ℕ). capped n) (zero-add (count_by (λ r. not (is_let_by before.filter r)) rs))
