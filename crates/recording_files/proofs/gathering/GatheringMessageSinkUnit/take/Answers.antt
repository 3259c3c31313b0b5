use Rattle.std.proofs.Common.{◌≡◌, ◌++◌, refl, rules}
use Rattle.std.proofs.lemmas.Result.{err_from_is_err_and}
use Rattle.recording_files.proofs.Gatherings.{waits_still, takes_none, takes_on}
use Rattle.recording_files.proofs.gathering.GatheringMessageSinkUnit.take.Goals as goal

pub returns-in_err-count : goal.returns-in_err-count
returns-in_err-count c = λ b messages given taken.
    let p = err_from_is_err_and c.from_residual.result c.from_residual.ensures.1 in
    rw (p.1, p.2) (waits_still b c.args.self.now _ messages given taken.took refl refl refl, takes_none b given c.args.message.now c.in_err-count.field-0.0 (c.in_err-count.ensures.fails b.limit b.before (b.here ++ given) taken.is_ready))

pub returns-in-Ok : goal.returns-in-Ok
returns-in-Ok c = λ b messages given taken.
    let written : c.append_both.new.out.items ≡ c.args.self.now.out.items ++ (c.take_message.new.lead.items ++ c.args.message.now) = search rules in
    takes_on b c.args.self.now _ messages given c.args.message.now (c.take_message.new.lead.items ++ c.args.message.now) c.in_ok-count.count taken (c.in_ok-count.ensures.records b.limit b.before (b.here ++ given) taken.is_ready) written
    c.in-Ok.ensures.waits c.wait_for.ensures.told
