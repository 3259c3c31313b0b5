-- What a driven session gave, if its sink gave no record back.
use Rattle.std.proofs.Common.{◌≡◌, ℕ, List, [], ◌++◌, Option, None, Some, refl, sym, ap, subst, ◌∙◌, append-nil, arith, true}
use Rattle.std.specs.Prelude.{◌≢◌}
use Rattle.std.specs.Option.{ForSome}
use Rattle.std.specs.Io.KnownBytes.{Consumes}
use Rattle.ipfix_message.specs.Domains.{Message}
use Rattle.ipfix_message.specs.declared.fault.MessageFault.TheVariants.{OutOfMemory}
use Rattle.ipfix_message.specs.declared.record.DataRecord.{DataRecord}
use Rattle.ipfix_session.specs.declared.fault.SessionFault.{SessionFault}
use Rattle.ipfix_session.specs.declared.fault.SessionFault.TheVariants as faults
use Rattle.ipfix_session.specs.declared.report.SessionReport.{SessionReport}
use Rattle.ipfix_session.specs.declared.session_limits.SessionLimits.{SessionLimits}
use Rattle.ipfix_session.specs.Given.{given_within, records_in, records_of, records_within, stop_of, AreAllOf, IsPrefix}
use Rattle.ipfix_session.specs.Sources.{SourceView}
use Rattle.ipfix_session.specs.Sinks.{SinkView, Takes}
use Rattle.ipfix_session.specs.Feeding.{PutsWhole}
use Rattle.ipfix_session.specs.Reports.{Reports}
use Rattle.ipfix_session.specs.Drives.{Drives, DrivesWithin, IsDue, IsGiven, PutsUpTo, TakesGiven, TakesGivenWithin, unlimited}
use Rattle.ipfix_session.proofs.Giving.{given_within-prefix}
use Rattle.ipfix_session.proofs.Reaching.{takes-append}

module _ {S K : Type 0} (seen : S → SourceView) (view : SinkView K) (limits : SessionLimits) (before after : S) (first last : K) (r : SessionReport) where
  -- these messages count, and their records were put
  given_whole : (d : DrivesWithin seen view limits before after first last r) (whole : List Message) → IsPrefix whole (given_within limits.templates d.gave).messages → (r.fault ≢ Some (faults.Message OutOfMemory) → whole ≡ (given_within limits.templates d.gave).messages)
      → IsPrefix (given_within limits.templates d.given.stops.earlier).messages whole → r.fault ≢ Some faults.SinkClosed → PutsWhole view (given_within limits.templates d.given.stops.earlier).messages whole d.middle last (Reports r)
      → TakesGivenWithin seen view limits before after first last r
  given_whole d whole some all from taken p =
      record {
        records = records_in whole;
        given = record {
          gave = d.gave;
          given = d.given;
          counted = whole;
          first = some;
          all = all;
          earlier = from;
          records_are = refl;
          report_is = p.tells;
          not_closed = taken;
        };
        takes = subst (λ (rs : List DataRecord). Takes view first rs last) (sym p.records) (takes-append view first d.middle last (records_within limits.templates d.given.stops.earlier) p.put d.earlier p.takes);
      }

  -- all messages count
  given_all : (d : DrivesWithin seen view limits before after first last r) → r.fault ≢ Some faults.SinkClosed → PutsWhole view (given_within limits.templates d.given.stops.earlier).messages (given_within limits.templates d.gave).messages d.middle last (Reports r)
      → TakesGivenWithin seen view limits before after first last r
  given_all d taken p =
      let all = (given_within limits.templates d.gave).messages in
      let stops = d.given.stops in
      given_whole d all ([], sym (append-nil all)) (λ _. refl) (subst (λ (w : List ℕ). IsPrefix (given_within limits.templates stops.earlier).messages (given_within limits.templates w).messages) (sym stops.is) (given_within-prefix limits.templates stops.earlier stops.last)) taken p

  -- by the fault
  given_by : (d : DrivesWithin seen view limits before after first last r) (fault : Option SessionFault) → r.fault ≡ fault → r.fault ≢ Some faults.SinkClosed
      → PutsUpTo view fault (given_within limits.templates d.given.stops.earlier).messages (given_within limits.templates d.gave).messages d.middle last (Reports r)
      → TakesGivenWithin seen view limits before after first last r
  given_by d None is taken p = given_all d taken p
  given_by d (Some faults.Truncated) is taken p = given_all d taken p
  given_by d (Some faults.ReadFailed) is taken p = given_all d taken p
  given_by d (Some faults.TooManyReads) is taken p = given_all d taken p
  given_by d (Some (faults.Message OutOfMemory)) is taken p = given_whole d p.whole p.up_to (λ (memory : r.fault ≢ Some (faults.Message OutOfMemory)). absurd (memory is)) p.from taken p.puts
  given_by d (Some (faults.Message e)) is taken p = given_all d taken p
  given_by d (Some faults.SinkClosed) is taken p = absurd (taken is)

  pub driven_is_given_within : DrivesWithin seen view limits before after first last r → r.fault ≢ Some faults.SinkClosed → TakesGivenWithin seen view limits before after first last r
  driven_is_given_within d taken = given_by d r.fault refl taken d.puts

  -- a sink that gave none back at all didn't close
  closed_not : (fault : Option SessionFault) (old all : List Message) (middle : K) (told : List Message → ℕ → Type 0) → view.refused last ≡ 0 → PutsUpTo view fault old all middle last told → fault ≢ Some faults.SinkClosed
  closed_not None old all middle told none p = λ e. cc e
  closed_not (Some faults.Truncated) old all middle told none p = λ e. cc e
  closed_not (Some faults.ReadFailed) old all middle told none p = λ e. cc e
  closed_not (Some faults.TooManyReads) old all middle told none p = λ e. cc e
  closed_not (Some (faults.Message e)) old all middle told none p = λ e. cc e
  closed_not (Some faults.SinkClosed) old all middle told none p = absurd (omega (arith, p.back, none))

  pub driven_took_all_within : DrivesWithin seen view limits before after first last r → view.refused last ≡ 0 → TakesGivenWithin seen view limits before after first last r
  driven_took_all_within d none = driven_is_given_within d (closed_not r.fault _ _ _ _ none d.puts)

-- without a limit
module _ {S K : Type 0} (seen : S → SourceView) (view : SinkView K) (limit : ℕ) (before after : S) (first last : K) (r : SessionReport) where
  pub driven_is_given : Drives seen view limit before after first last r → r.fault ≢ Some faults.SinkClosed → TakesGiven seen view limit before after first last r
  driven_is_given d taken = driven_is_given_within seen view (unlimited limit) before after first last r d taken

  pub driven_took_all : Drives seen view limit before after first last r → view.refused last ≡ 0 → TakesGiven seen view limit before after first last r
  driven_took_all d none = driven_took_all_within seen view (unlimited limit) before after first last r d none

-- ---- a session without a fault

consumed_all : (before after : Option (List ℕ)) (whole gave : List ℕ) → before ≡ Some whole → Consumes before after gave → ForSome after (λ xs. xs ≡ []) → gave ≡ whole
consumed_all before None whole gave is some end = absurd (subst (λ b. Consumes b None gave) is some)
consumed_all before (Some left) whole gave is some end =
    let all : whole ≡ gave ++ left = subst (λ b. Consumes b (Some left) gave) is some in
    sym (all ∙ ap (λ (w : List ℕ). gave ++ w) (end left refl) ∙ append-nil gave)

pub given_all_of : {S : Type 0} (seen : S → SourceView) (limit : ℕ) (before after : S) (r : SessionReport) (records : List DataRecord) (whole : List ℕ)
    → ((seen after).ended ≡ true → ForSome (seen after).text (λ xs. xs ≡ []))
    → IsGiven seen limit before after r records → r.fault ≡ None → (seen before).text ≡ Some whole → AreAllOf whole records
given_all_of seen limit before after r records whole at_end g none is =
    let due : IsDue None limit g.gave (seen before) (seen after) = subst (λ (o : Option SessionFault). IsDue o limit g.gave (seen before) (seen after)) none g.given.fault_is_due in
    let all : g.gave ≡ whole = consumed_all (seen before).text (seen after).text whole g.gave is g.given.octets (at_end due.1) in
    let memory : r.fault ≢ Some (faults.Message OutOfMemory) = λ e. let no : None ≡ Some (faults.Message OutOfMemory) = sym none ∙ e in cc in
    (ap stop_of (sym all) ∙ due.0, g.records_are ∙ ap records_in (g.all memory) ∙ ap records_of all)
