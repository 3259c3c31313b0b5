use Rattle.std.proofs.Common.{◌++◌, Option, sym, subst, ◌∙◌, refl}
use Rattle.std.specs.Prelude.{IfSome}
use Rattle.std.proofs.lemmas.Result.{err_from_is_err_and}
use Rattle.ipfix_session.specs.declared.fault.SessionFault.{SessionFault}
use Rattle.ipfix_session.specs.MessageSinks.{Stops}
use Rattle.recording_files.specs.Gathering.{gathering_view}
use Rattle.recording_files.proofs.Gatherings.{gathered}
use Rattle.recording_files.proofs.Going.{before_read, read_on, read_cut, read_fault}
use Rattle.recording_files.proofs.reads.take_read.Goals as goal

pub returns-in_err-turn_if_over : goal.returns-in_err-turn_if_over
returns-in_err-turn_if_over g c = λ p b.
    let e = err_from_is_err_and c.from_residual.result c.from_residual.ensures.1 in
    rw (e.1, e.2) (c.in_err-turn_if_over.ensures.stops p c.args.buffer.now.items c.args.piece.now b)

pub returns-in_err-write_gathered : goal.returns-in_err-write_gathered
returns-in_err-write_gathered g c = λ p b.
    let turned = c.in_ok-turn_if_over.ensures.turned p c.args.buffer.now.items b in
    let taken = c.gather-taken.new in
    let some = gathered (before_read turned) taken.gathering _ taken.buffer.items c.gather-taken.result (c.gather-taken.ensures (before_read turned) turned.is_rest turned.keeps refl) in
    let cut = c.in_err-write_gathered.ensures.appends (before_read turned) _ some in
    let e = err_from_is_err_and c.from_residual-in_err-write_gathered.result c.from_residual-in_err-write_gathered.ensures.1 in
    rw (e.1, e.2, c.in_err-write_gathered.ensures.err ∙ some.took.told_is) (tt, read_cut turned c.args.piece.now taken.gathering _ cut.0 some cut.1 cut.2)

pub returns-in_err-taken : goal.returns-in_err-taken
returns-in_err-taken g c = λ p b.
    let turned = c.in_ok-turn_if_over.ensures.turned p c.args.buffer.now.items b in
    let taken = c.gather-taken.new in
    let some = gathered (before_read turned) taken.gathering _ taken.buffer.items c.gather-taken.result (c.gather-taken.ensures (before_read turned) turned.is_rest turned.keeps refl) in
    let wrote = c.in_ok-write_gathered.ensures in
    let e = err_from_is_err_and c.from_residual-in_err-taken.result c.from_residual-in_err-taken.ensures.1 in
    let stops = c.in_err-taken.ensures (before_read turned) turned.is_rest turned.keeps refl in
    rw e.1 (read_fault turned c.args.piece.now taken.gathering (wrote.appends (before_read turned) _ some) c.write_gathered.new.gathering wrote.counted e.0
    (subst (λ (o : Option SessionFault). IfSome o (λ f. Stops gathering_view (before_read turned) f (c.args.buffer.now.items ++ c.args.piece.now) taken.gathering tt)) (sym e.2) stops))

pub returns : goal.returns
returns g c = λ p b.
    let turned = c.in_ok-turn_if_over.ensures.turned p c.args.buffer.now.items b in
    let taken = c.gather-taken.new in
    let some = gathered (before_read turned) taken.gathering _ taken.buffer.items c.gather-taken.result (c.gather-taken.ensures (before_read turned) turned.is_rest turned.keeps refl) in
    let wrote = c.in_ok-write_gathered.ensures in
    read_on turned c.args.piece.now taken.gathering (wrote.appends (before_read turned) _ some) c.write_gathered.new.gathering wrote.counted _ wrote.recorder
    (c.in_ok-taken.ensures (before_read turned) turned.is_rest turned.keeps refl)
