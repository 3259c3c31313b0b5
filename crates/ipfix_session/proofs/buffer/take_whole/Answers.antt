use Rattle.std.proofs.Common.{ap, ◌∙◌, arith}
use Rattle.std.proofs.lemmas.Result.{err_from_is_err_and}
use Rattle.ipfix_session.proofs.Cut.{none_at, messages_shrink}
use Rattle.ipfix_session.proofs.MessagesTaken.{stops_at, stops_taking, between_on}
use Rattle.ipfix_session.proofs.buffer.take_whole.Goals as goal

pub returns-in_err-check_open-in-Err-clause-stops : goal.returns-in_err-check_open-in-Err-clause-stops
returns-in_err-check_open-in-Err-clause-stops g c = λ x text first.
    let b = c.loop-first.invariant x text first in
    let p = err_from_is_err_and c.from_residual.result c.from_residual.ensures.1 in
    rw (p.1, p.2) (stops_at g.M.MessageSink.seen x text c.loop-first.messages c.loop-first.to c.loop-first.rest.now c.in_err-check_open-in-Err.field-0.0 b (c.in-Err.ensures.stopped ∙ ap none_at c.in_err-check_open-in-Err.ensures))

pub returns-in-Err-clause-takes : goal.returns-in-Err-clause-takes
returns-in-Err-clause-takes g c = λ x text first.
    record {
      between = c.loop-first.invariant x text first;
      is_rest = record { stop = c.in-Err.stop; none = c.in-Err.ensures.stopped; is_open = c.in_ok-check_open-in-Err.ensures };
    }

pub returns-in_err-take-clause-stops : goal.returns-in_err-take-clause-stops
returns-in_err-take-clause-stops g c = λ x text first.
    let b = c.loop-first.invariant x text first in
    let p = err_from_is_err_and c.from_residual-in_err-take.result c.from_residual-in_err-take.ensures.1 in
    rw (p.1, p.2) (stops_taking g.M.MessageSink.seen x text c.loop-first.messages c.take.new.self c.loop-first.to c.take.new.to c.loop-first.rest.now c.in-Ok.first.octets.now c.in-Ok.first.rest.now _ b c.in-Ok.ensures.found
    (c.in_err-take.ensures x b.messages b.given b.taken))

pub loop-first-preserved : goal.loop-first-preserved
loop-first-preserved g c = λ x text first.
    let b = c.loop-first.invariant x text first in
    between_on g.M.MessageSink.seen x text c.loop-first.messages c.take.new.self c.loop-first.to c.take.new.to c.loop-first.rest.now c.in-Ok.first.octets.now c.in-Ok.first.rest.now _ b c.in-Ok.ensures.found
    (c.in_ok-take.ensures x b.messages b.given b.taken)

pub loop-first-smaller : goal.loop-first-smaller
loop-first-smaller g c =
    let less = messages_shrink.less c.loop-first.rest.now c.in-Ok.first.octets.now c.in-Ok.first.rest.now c.in-Ok.ensures.found in
    omega arith
