use Rattle.std.proofs.Common.{◌++◌, ◌∙◌, sym, subst}
use Rattle.ipfix_session.proofs.MessagesTaken.{between_first}
use Rattle.recording_files.specs.Recorders.{State, KeepsWithin}
use Rattle.recording_files.specs.Gathering.{gathering_view}
use Rattle.recording_files.proofs.Gatherings.{waits_first}
use Rattle.recording_files.proofs.reads.gather.Goals as goal

pub returns : goal.returns
returns c = λ b is_rest keeps told.
    let begun = c.begin_read.ensures in
    let text = c.args.buffer.now.items ++ c.args.piece.now in
    let taken = waits_first b c.begin_read.new.self begun.out begun.waiting (begun.told ∙ told) (subst (λ (s : State). KeepsWithin b.limit s b.before b.here) (sym begun.recorder) keeps) in
    c.read_on.ensures.reads b text is_rest (between_first gathering_view b text c.begin_read.new.self tt taken)
