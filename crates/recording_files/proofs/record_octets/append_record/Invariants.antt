use Rattle.recording_files.proofs.RecordsAppended.{RecordSoFar}
use Rattle.recording_files.proofs.record_octets.append_record.Given as goal

abbrev pub invariant-loop-field : goal.invariant-loop-field
invariant-loop-field l = RecordSoFar l.specs l.fields l.left l.field-iterator l.fn.out.items l.out.items
