use Rattle.std.proofs.Common.{◌≡◌, ◌++◌, ◌∷◌, [], List, Bor, Option, Some, None, sym, ap, ◌∙◌, append_assoc}
use Rattle.std.specs.Prelude.{◌≢◌}
use Rattle.std.specs.List.{FoldsTo}
use Rattle.std.proofs.lemmas.List.{append-nil}
use Rattle.ipfix_message.specs.declared.record.DataRecord.{DataRecord}
use Rattle.ipfix_session.specs.Sources.{SourceView}
use Rattle.ipfix_session.specs.declared.driver.TheConstants.{READ_LIMIT}
use Rattle.ipfix_session.specs.declared.fault.SessionFault.{SessionFault}
use Rattle.ipfix_session.specs.declared.fault.SessionFault.TheVariants.{SinkClosed}
use Rattle.ipfix_session.specs.declared.sink.VecSink.{VecSink}
use Rattle.flow_filter.specs.declared.filter.Filter.{Filter}
use Rattle.flow_filter.specs.Sinks.{counted, left_out}
use Rattle.flow_filter_tests.proofs.calling.counted_in.Goals as goal

-- what a sink keeps that appends each record
kept_all : {K : Type 0} (took : K → DataRecord → K → Type 0) (kept : K → List DataRecord) → ((p : K) (x : DataRecord) (q : K) → took p x q → kept q ≡ kept p ++ x ∷ [])
    → (p : K) (xs : List DataRecord) (q : K) → FoldsTo took p xs q → kept q ≡ kept p ++ xs
kept_all took kept appends p [] q same = ap kept (sym same) ∙ sym (append-nil (kept p))
kept_all took kept appends p (x ∷ xs) q chain =
    kept_all took kept appends chain.0 xs q chain.2 ∙ ap (λ (l : List DataRecord). l ++ xs) (appends p x chain.0 chain.1) ∙ append_assoc (kept p) (x ∷ []) xs

closed_not : (fault : Option SessionFault) → fault ≡ None → fault ≢ Some SinkClosed
closed_not fault none = λ e. let no : None ≡ Some SinkClosed = sym none ∙ e in cc

pub returns-in-None-clause-records : goal.returns-in-None-clause-records
returns-in-None-clause-records g c = λ text is.
    let took = c.driven_is_given.ensures.fault READ_LIMIT c.new-source.result c.drive-report.new.source c.new-sink.result c.drive-report.new.sink c.drive-report.result
    c.drive-report.ensures (closed_not c.drive-report.result.fault c.in-None.is) in
    let told = c.no_fault_is_all.ensures READ_LIMIT c.new-source.result c.drive-report.new.source c.drive-report.result took.records text
    took.given c.in-None.is (ap (λ (v : SourceView). v.text) c.new-source.ensures.unread ∙ is) in
    let inner = c.counted_records_are_taken.ensures.taken c.new-sink.result c.drive-report.new.sink took.records took.takes in
    let some = counted c.new-sink.result.filter took.records in
    c.counted_by.ensures.records
    ∙ kept_all (λ (p : VecSink) (x : DataRecord) (q : VecSink). q.records.items ≡ p.records.items ++ x ∷ []) (λ (p : VecSink). p.records.items) (λ p x q e. e)
    c.new-sink.result.sink some c.drive-report.new.sink.sink inner.chain
    ∙ ap (λ (s : VecSink). s.records.items ++ some) c.new-sink.ensures.2
    ∙ ap (λ (l : List DataRecord). l ++ some) c.new.ensures.records
    ∙ ap (λ (f : Option (Bor Filter)). counted f took.records) c.new-sink.ensures.0
    ∙ ap (λ (rs : List DataRecord). counted c.args.filter rs) told.1

pub returns-in-None-clause-others : goal.returns-in-None-clause-others
returns-in-None-clause-others g c = λ text is.
    let took = c.driven_is_given.ensures.fault READ_LIMIT c.new-source.result c.drive-report.new.source c.new-sink.result c.drive-report.new.sink c.drive-report.result
    c.drive-report.ensures (closed_not c.drive-report.result.fault c.in-None.is) in
    let told = c.no_fault_is_all.ensures READ_LIMIT c.new-source.result c.drive-report.new.source c.drive-report.result took.records text
    took.given c.in-None.is (ap (λ (v : SourceView). v.text) c.new-source.ensures.unread ∙ is) in
    c.counted_by.ensures.others
    ∙ c.counted_records_are_taken.ensures.filtered c.new-sink.result c.drive-report.new.sink took.records took.takes c.new-sink.ensures.1
    ∙ ap (λ (f : Option (Bor Filter)). left_out f took.records) c.new-sink.ensures.0
    ∙ ap (λ (rs : List DataRecord). left_out c.args.filter rs) told.1
