-- What a merging stands for after an export was read, or why it wasn't added.
use Rattle.std.proofs.Common.{◌≡◌, ℕ, List, [], Option, Some, None, Result, Ok, Err, refl, sym, subst, append-nil}
use Rattle.std.specs.Prelude.{IfErr, IsErrAnd}
use Rattle.ipfix_session.specs.Drives.{TakesGiven, Drives}
use Rattle.ipfix_session.specs.Sinks.{SinkView}
use Rattle.ipfix_session.specs.Sources.{SourceView}
use Rattle.ipfix_session.specs.declared.report.SessionReport.{SessionReport}
use Rattle.ipfix_session.proofs.Driven.{driven_took_all}
use Rattle.flow_table.specs.Plans.{PlanValue}
use Rattle.flow_table.specs.SameTables.{RowValue}
use Rattle.flow_export.specs.declared.intervals.Intervals.{Intervals}
use Rattle.flow_merge.specs.Judged.{IsWell, IsBadBy}
use Rattle.flow_merge.specs.Merging.{AddsExport, AreRowRecordsIn, CannotAdd, StandsFor, merging_intervals, merging_plan}
use Rattle.flow_merge.specs.RowSink.{HoldsAfter, TakesRecord}
use Rattle.flow_merge.specs.declared.merge_fault.MergeFault.{MergeFault}
use Rattle.flow_merge.specs.declared.merging.Merging.{Merging}
use Rattle.flow_merge.specs.declared.row_sink.RowSink.{RowSink}
use Rattle.flow_merge.proofs.RowsRead.{takes_all}
use Rattle.flow_merge.proofs.Reported.{gives_export, due_by_report, due_by_sink}

abbrev pub sink_view : SinkView RowSink
sink_view = record { took = TakesRecord; refused = λ s. 0 }

abbrev new_sink : Merging → RowSink
new_sink m = record { merging = m; fault = None; taken = 0 }

module _ {S : Type 0} (seen : S → SourceView) (limit : ℕ) (before after : S) (r : SessionReport) (old : Merging) (last : RowSink) (driven : Drives seen sink_view limit before after (new_sink old) last r) where
  taken : TakesGiven seen sink_view limit before after (new_sink old) last r
  taken = driven_took_all seen sink_view limit before after (new_sink old) last r driven refl

  pub same_plan : merging_plan last.merging ≡ merging_plan old
  same_plan = (takes_all (new_sink old) last taken.records taken.takes.chain).plan

  pub same_intervals : merging_intervals last.merging ≡ merging_intervals old
  same_intervals = (takes_all (new_sink old) last taken.records taken.takes.chain).intervals

  module _ (rows : List RowValue) (stands : StandsFor old rows) where
    held : HoldsAfter last.fault last.taken last.merging rows taken.records
    held = (takes_all (new_sink old) last taken.records taken.takes.chain).holds rows [] (([], tt, subst (StandsFor old) (sym (append-nil rows)) stands), refl)

    held_with : (fault : Option MergeFault) → last.fault ≡ fault → HoldsAfter fault last.taken last.merging rows taken.records
    held_with fault is = subst (λ (o : Option MergeFault). HoldsAfter o last.taken last.merging rows taken.records) is held

    pub adds_export : IsWell r → last.fault ≡ None → AddsExport seen limit old before after rows last.merging
    adds_export well none =
        let h = (held_with None none).0 in
        record {
          more = h.0;
          gives_export = gives_export seen limit before after r taken.records taken.given (merging_intervals old) (merging_plan old) h.0 well
              (subst (λ (i : Intervals). AreRowRecordsIn i (merging_plan old) taken.records h.0) same_intervals (subst (λ (p : PlanValue). AreRowRecordsIn (merging_intervals last.merging) p taken.records h.0) same_plan h.1));
          stands = h.2;
        }

    pub due_row : (fault : MergeFault) → IsWell r → last.fault ≡ Some fault → CannotAdd seen limit old rows before after fault
    due_row fault well is = due_by_sink seen limit before after r taken.records taken.given last.merging (merging_intervals old) (merging_plan old) rows well same_intervals same_plan fault last.taken (held_with (Some fault) is)

    pub due_report : (answer : Result Merging MergeFault) (fault : MergeFault) → IsBadBy r fault → IsErrAnd answer (λ e. e ≡ fault) → IfErr answer (CannotAdd seen limit old rows before after)
    due_report (Ok m) fault bad is = tt
    due_report (Err e) fault bad is =
        subst (CannotAdd seen limit old rows before after) (sym is) (due_by_report seen limit before after r taken.records taken.given (merging_intervals old) (merging_plan old) rows fault bad)
