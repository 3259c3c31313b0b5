-- What a sink that notes takes, record after record.
use Rattle.std.proofs.Common.{◌≡◌, List, [], ◌∷◌, Option, None, Some, ap, sym, ◌∙◌}
use Rattle.std.specs.Borrow.{Bor}
use Rattle.std.specs.List.{FoldsTo}
use Rattle.ipfix_message.specs.declared.record.DataRecord.{DataRecord}
use Rattle.ipfix_session.specs.Sinks.{SinkView}
use Rattle.exporter_options.specs.Known.{Known}
use Rattle.flow_estimates.specs.Noted.{Noted}
use Rattle.flow_estimates.specs.declared.estimates.Estimates.{Estimates}
use Rattle.flow_estimates.specs.declared.report.SamplingReport.{SamplingReport}
use Rattle.flow_collect.specs.Rated.{noted_after, noted_next, TakesNoted, Tells}
use Rattle.flow_collect.specs.declared.rate_sink.RateSink.{RateSink}

module _ {K : Type 0} (view : SinkView K) where
  -- the other sink takes all of them
  pub noted_chain : (rs : List DataRecord) (before after : RateSink K) → FoldsTo (TakesNoted view) before rs after → FoldsTo view.took before.sink rs after.sink
  noted_chain [] before after h = ap (λ (s : RateSink K). s.sink) h
  noted_chain (r ∷ rs) before after h = (h.0.sink, h.1.taken, noted_chain rs h.0 after h.2)

  -- and they are noted
  pub notes_chain : (e : Option (Bor Estimates)) (rs : List DataRecord) (before after : RateSink K) → before.estimates ≡ e → FoldsTo (TakesNoted view) before rs after → after.notes ≡ noted_after e before.notes rs
  notes_chain e [] before after same h = sym (ap (λ (s : RateSink K). s.notes) h)
  notes_chain e (r ∷ rs) before after same h =
      notes_chain e rs h.0 after (h.1.same_estimates ∙ same) h.2
      ∙ ap (λ (n : Option Noted). noted_after e n rs) (h.1.noted ∙ ap (λ (x : Option (Bor Estimates)). noted_next x before.notes r) same)

-- the same is told by a report that says the same
pub told_same : (known : Known) (notes : Option Noted) (a b : SamplingReport) → b.rates.items ≡ a.rates.items → b.is_sampled ≡ a.is_sampled → b.is_unrated ≡ a.is_unrated → b.is_too_large ≡ a.is_too_large
    → Tells known notes a → Tells known notes b
told_same known None a b rates sampled unrated large t =
    record { rates_are = rates ∙ t.rates_are; sampled_is = sampled ∙ t.sampled_is; unrated_is = unrated ∙ t.unrated_is; too_large_is = large ∙ t.too_large_is }
told_same known (Some n) a b rates sampled unrated large t =
    record { rates_are = rates ∙ t.rates_are; sampled_is = sampled ∙ t.sampled_is; unrated_is = unrated ∙ t.unrated_is; too_large_is = large ∙ t.too_large_is }
