use Rattle.std.proofs.Common.{◌≡◌, [], length, Ok, Err, refl, ap, sym, ◌∙◌, arith}
use Rattle.std.proofs.lemmas.Result.{err_from_is_err_and}
use Rattle.ipfix_session.specs.Given.{known_after}
use Rattle.ipfix_session.specs.Intake.{counts_of, all_of}
use Rattle.ipfix_session.proofs.Reaching.{decodes_within, takes_on, gives_back, puts_no_more, tells_put}
use Rattle.ipfix_session.proofs.intake.IntakeMessageSink.take.Goals as goal

pub returns-in_err-decoded : goal.returns-in_err-decoded
returns-in_err-decoded g c = λ before messages given taken.
    let p = err_from_is_err_and c.from_residual.result c.from_residual.ensures.1 in
    let ds = known_after (known_after [] before.messages) given in
    let r = taken.is_ready in
    rw (p.1, p.2) (taken.took, decodes_within c.args.self.now.limit before.limit ds (Err c.in_err-decoded.field-0.0) [] c.args.message.now r.has_limit r.within (c.in_err-decoded.ensures.gives r.not_spent ds r.stands))

pub returns-in_err-make_room : goal.returns-in_err-make_room
returns-in_err-make_room g c = λ before messages given taken.
    let p = err_from_is_err_and c.from_residual-in_err-make_room.result c.from_residual-in_err-make_room.ensures.1 in
    rw (p.1, p.2) (puts_no_more g.K.Sink.seen before c.args.to.now (counts_of c.args.self.now.tally) c.make_room.new.self.accounts.entries given taken.took c.in_err-make_room.ensures.same, tt)

pub returns-in_err-put_all : goal.returns-in_err-put_all
returns-in_err-put_all g c = λ before messages given taken.
    let ds = known_after (known_after [] before.messages) given in
    let r = taken.is_ready in
    let read = decodes_within c.args.self.now.limit before.limit ds (Ok c.in_ok-decoded.decoded) _ c.args.message.now r.has_limit r.within (c.in_ok-decoded.ensures.gives r.not_spent ds r.stands) in
    let p = err_from_is_err_and c.from_residual-in_err-put_all.result c.from_residual-in_err-put_all.ensures.1 in
    rw (p.1, p.2) (gives_back g.K.Sink.seen before c.args.to.now c.put_all.new.sink (counts_of c.args.self.now.tally) c.make_room.new.self.accounts.entries c.put_all.new.delivered _ c.in_err-put_all.field-0.0
    c.in_ok-decoded.decoded.records.items messages given c.args.message.now read.0 refl taken.took read.1 read.2.records c.in_ok-make_room.ensures.same c.in_err-put_all.ensures)

pub returns : goal.returns
returns g c = λ before messages given taken.
    let ds = known_after (known_after [] before.messages) given in
    let r = taken.is_ready in
    let read = decodes_within c.args.self.now.limit before.limit ds (Ok c.in_ok-decoded.decoded) _ c.args.message.now r.has_limit r.within (c.in_ok-decoded.ensures.gives r.not_spent ds r.stands) in
    let x = read.0 in
    let size : c.len-count.result ≡ length c.in_ok-decoded.decoded.records.items = omega arith in
    let puts = tells_put g.K.Sink.seen c.args.to.now c.put_all.new.sink (counts_of c.args.self.now.tally) c.make_room.new.self.accounts.entries c.put_all.new.delivered (all_of before given) c.in_ok-decoded.decoded.records.items x
    taken.took.tells read.2.records c.in_ok-make_room.ensures.same c.in_ok-put_all.ensures in
    takes_on g.K.Sink.seen before c.args.to.now c.put_all.new.sink (counts_of c.args.self.now.tally) _ messages given c.args.message.now x taken.took read.1 puts.0
    (c.take.ensures.tells (all_of before given) x _ puts.1 (sym read.2.header) (ap length (sym read.2.records) ∙ sym size) (sym read.2.passed_over ∙ sym c.passed_over-passed_over.ensures)) c.in_ok-decoded.ensures.ok read.3 r.has_limit
