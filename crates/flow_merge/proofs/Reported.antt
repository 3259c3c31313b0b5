-- What a report that tells nothing bad says of the octets that its session was given.
use Rattle.std.proofs.Common.{◌≡◌, ℕ, ◌<◌, List, [], ◌∷◌, length, map, All, Option, Some, None, refl, sym, ap, ◌∙◌, subst, arith}
use Rattle.std.proofs.lemmas.List.Elements.{All-nil, All-cons, All-head, All-tail, All-map}
use Rattle.ipfix_message.specs.Domains.{Message}
use Rattle.ipfix_message.specs.declared.fault.MessageFault.TheVariants as messages
use Rattle.ipfix_message.specs.declared.passed_over.PassedOver.{PassedOver}
use Rattle.ipfix_message.specs.declared.record.DataRecord.{DataRecord}
use Rattle.ipfix_session.specs.Drives.{Gave, IsGiven}
use Rattle.ipfix_session.specs.Given.{gives, records_in, records_of}
use Rattle.ipfix_session.specs.Ledger.{capped, domain_report, domains_of}
use Rattle.ipfix_session.specs.Reports.{Reports}
use Rattle.ipfix_session.specs.Sources.{SourceView}
use Rattle.ipfix_session.specs.declared.fault.SessionFault.{SessionFault}
use Rattle.ipfix_session.specs.declared.fault.SessionFault.TheVariants as sessions
use Rattle.ipfix_session.specs.declared.report.SessionReport.{SessionReport}
use Rattle.flow_table.specs.Plans.{PlanValue}
use Rattle.flow_table.specs.SameTables.{RowValue}
use Rattle.flow_export.specs.declared.intervals.Intervals.{Intervals}
use Rattle.flow_merge.specs.Judged.{ReportsExport, ReportsNoLoss, IsWell, IsBadBy}
use Rattle.flow_merge.specs.Merging.{AreOfExport, AreRowRecordsIn, FirstCrossesIn, FirstOtherIn, FirstTooLargeIn, GivesExportIn, LosesNone, NoneLost, nothing, merging_intervals, merging_plan, IsDueIn as IsMergeDue}
use Rattle.flow_merge.specs.RowSink.{HoldsAfter}
use Rattle.flow_merge.specs.declared.row_fault.RowFault.{RowFault}
use Rattle.flow_merge.specs.declared.merge_fault.MergeFault.{MergeFault}
use Rattle.flow_merge.specs.declared.merge_fault.MergeFault.TheVariants.{OutOfMemory, SumTooLarge, Session, NotAnExport, Lost, Row, Border}
use Rattle.flow_merge.specs.declared.merging.Merging.{Merging}

-- ---- counts that stop at the greatest number

some_counted : (n m : ℕ) → n ≡ capped m → 0 < n → 0 < m
some_counted n m is some = omega (arith, is, some)

some_told : (n m : ℕ) → n ≡ capped m → 0 < m → 0 < n
some_told n m is some = omega (arith, is, some)

pub nothing_is : (skipped unknown ignored : ℕ) → skipped ≡ 0 → unknown ≡ 0 → ignored ≡ 0 → record { skipped_sets = skipped; unknown_sets = unknown; ignored_withdrawals = ignored } ≡ nothing
nothing_is skipped unknown ignored h i j = rw (h, i, j) refl

all_from_map : {X Y : Type 0} (P : Y → Type 0) (f : X → Y) (xs : List X) → All P (map f xs) → All (λ x. P (f x)) xs
all_from_map P f [] all = All-nil (λ x. P (f x))
all_from_map P f (x ∷ xs) all = All-cons (λ y. P (f y)) x xs (All-head P (f x) (map f xs) all) (all_from_map P f xs (All-tail P (f x) (map f xs) all))

module _ (r : SessionReport) (ms : List Message) (n : ℕ) (reports : Reports r ms n) where
  pub are_of_export : ReportsExport r → AreOfExport ms
  are_of_export is =
      record {
        some = some_counted r.messages (length ms) reports.messages is.0;
        whole = sym reports.passed_over ∙ nothing_is r.skipped_sets r.unknown_sets r.ignored_withdrawals is.1 is.2 is.3;
      }

  pub reports_export : AreOfExport ms → ReportsExport r
  reports_export are =
      let is = reports.passed_over ∙ are.whole in (
        some_told r.messages (length ms) reports.messages are.some,
        ap (λ (p : PassedOver). p.skipped_sets) is,
        ap (λ (p : PassedOver). p.unknown_sets) is,
        ap (λ (p : PassedOver). p.ignored_withdrawals) is,
      )

  pub none_lost : ReportsNoLoss r → NoneLost ms
  none_lost is = all_from_map LosesNone (domain_report ms) (domains_of ms) (subst (All LosesNone) reports.domains is)

  pub reports_no_loss : NoneLost ms → ReportsNoLoss r
  reports_no_loss none = subst (All LosesNone) (sym reports.domains) (All-map LosesNone (domain_report ms) (domains_of ms) none)

-- ---- a session that its source's octets were given to

module _ {S : Type 0} (seen : S → SourceView) (limit : ℕ) (before after : S) (r : SessionReport) (rs : List DataRecord) (given : IsGiven seen limit before after r rs) where
  -- without a fault all messages count
  counted_all : r.fault ≡ None → given.counted ≡ (gives given.gave).messages
  counted_all none = given.all (λ memory. let no : None ≡ Some (sessions.Message messages.OutOfMemory) = sym none ∙ memory in cc)

  gave_none : r.fault ≡ None → Gave seen limit before given.gave after None
  gave_none none = subst (λ (fault : Option SessionFault). Gave seen limit before given.gave after fault) none given.given

  reports_all : r.fault ≡ None → Reports r (gives given.gave).messages (length rs)
  reports_all none = subst (λ (ms : List Message). Reports r ms (length rs)) (counted_all none) given.report_is

  records_all : r.fault ≡ None → rs ≡ records_of given.gave
  records_all none = given.records_are ∙ ap records_in (counted_all none)

  -- an export
  pub gives_export : (intervals : Intervals) (plan : PlanValue) (rows : List RowValue) → IsWell r → AreRowRecordsIn intervals plan rs rows → GivesExportIn seen limit intervals plan before after rows
  gives_export intervals plan rows well are =
      record {
        gave = given.gave;
        given = gave_none well.no_fault;
        export = record {
          clean = (gave_none well.no_fault).fault_is_due.0;
          messages = are_of_export r _ _ (reports_all well.no_fault) well.export;
          none_lost = none_lost r _ _ (reports_all well.no_fault) well.no_loss;
          records = subst (λ (l : List DataRecord). AreRowRecordsIn intervals plan l rows) (records_all well.no_fault) are;
        };
      }

  -- the session's own fault
  ended_early : (intervals : Intervals) (plan : PlanValue) (rows : List RowValue) (fault : SessionFault) → r.fault ≡ Some fault → IsMergeDue seen limit intervals plan rows before after (Session fault)
  ended_early intervals plan rows sessions.SinkClosed is = absurd (given.not_closed is)
  ended_early intervals plan rows (sessions.Message e) is = (given.gave, subst (λ (o : Option SessionFault). Gave seen limit before given.gave after o) is given.given)
  ended_early intervals plan rows sessions.Truncated is = (given.gave, subst (λ (o : Option SessionFault). Gave seen limit before given.gave after o) is given.given)
  ended_early intervals plan rows sessions.ReadFailed is = (given.gave, subst (λ (o : Option SessionFault). Gave seen limit before given.gave after o) is given.given)
  ended_early intervals plan rows sessions.TooManyReads is = (given.gave, subst (λ (o : Option SessionFault). Gave seen limit before given.gave after o) is given.given)

  -- what the report has against them
  pub due_by_report : (intervals : Intervals) (plan : PlanValue) (rows : List RowValue) (fault : MergeFault) → IsBadBy r fault → IsMergeDue seen limit intervals plan rows before after fault
  due_by_report intervals plan rows (Session fault) bad = ended_early intervals plan rows fault bad
  due_by_report intervals plan rows NotAnExport bad = (given.gave, gave_none bad.0, λ are. bad.1 (reports_export r _ _ (reports_all bad.0) are))
  due_by_report intervals plan rows Lost bad = (given.gave, gave_none bad.0, (are_of_export r _ _ (reports_all bad.0) bad.1, λ none. bad.2 (reports_no_loss r _ _ (reports_all bad.0) none)))
  due_by_report intervals plan rows OutOfMemory bad = absurd bad
  due_by_report intervals plan rows SumTooLarge bad = absurd bad
  due_by_report intervals plan rows (Row fault) bad = absurd bad
  due_by_report intervals plan rows (Border row) bad = absurd bad

  -- what its sink has against them
  module _ (m : Merging) (intervals : Intervals) (plan : PlanValue) (rows : List RowValue) (well : IsWell r) (same_in : merging_intervals m ≡ intervals) (same : merging_plan m ≡ plan) where
    whole : AreOfExport (gives given.gave).messages
    whole = are_of_export r _ _ (reports_all well.no_fault) well.export

    lossless : NoneLost (gives given.gave).messages
    lossless = none_lost r _ _ (reports_all well.no_fault) well.no_loss

    other_there : (fault : RowFault) → FirstOtherIn (merging_intervals m) (merging_plan m) rows rs fault → FirstOtherIn intervals plan rows (records_of given.gave) fault
    other_there fault h =
        subst (λ (l : List DataRecord). FirstOtherIn intervals plan rows l fault) (records_all well.no_fault)
        (subst (λ (i : Intervals). FirstOtherIn i plan rows rs fault) same_in (subst (λ (p : PlanValue). FirstOtherIn (merging_intervals m) p rows rs fault) same h))

    pub due_by_sink : (fault : MergeFault) (taken : ℕ) → HoldsAfter (Some fault) taken m rows rs → IsMergeDue seen limit intervals plan rows before after fault
    due_by_sink OutOfMemory taken h = (given.gave, gave_none well.no_fault, (whole, lossless))
    due_by_sink SumTooLarge taken h = (
      given.gave,
      gave_none well.no_fault,
      (
        whole,
        lossless,
        subst (λ (l : List DataRecord). FirstTooLargeIn intervals plan rows l) (records_all well.no_fault)
            (subst (λ (i : Intervals). FirstTooLargeIn i plan rows rs) same_in (subst (λ (p : PlanValue). FirstTooLargeIn (merging_intervals m) p rows rs) same h)),
      ),
    )
    due_by_sink (Row fault) taken h = (given.gave, gave_none well.no_fault, (whole, lossless, other_there fault h))
    due_by_sink (Border row) taken h = (
      given.gave,
      gave_none well.no_fault,
      (
        whole,
        lossless,
        subst (λ (l : List DataRecord). FirstCrossesIn intervals plan rows l row) (records_all well.no_fault)
            (subst (λ (i : Intervals). FirstCrossesIn i plan rows rs row) same_in (subst (λ (p : PlanValue). FirstCrossesIn (merging_intervals m) p rows rs row) same h)),
      ),
    )
    due_by_sink (Session fault) taken h = absurd h
    due_by_sink NotAnExport taken h = absurd h
    due_by_sink Lost taken h = absurd h
