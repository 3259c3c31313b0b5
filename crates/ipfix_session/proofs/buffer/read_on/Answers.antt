use Rattle.std.proofs.Common.{◌≡◌, [], refl, sym}
use Rattle.std.proofs.lemmas.Result.{err_from_is_err_and}
use Rattle.ipfix_session.proofs.MessagesTaken.{stops_out, at_rest}
use Rattle.ipfix_session.proofs.buffer.read_on.Goals as goal

pub returns-in_err-left-clause-reads : goal.returns-in_err-left-clause-reads
returns-in_err-left-clause-reads g c = λ x text is_rest first.
    let p = err_from_is_err_and c.from_residual.result c.from_residual.ensures.1 in
    rw (p.1, p.2) (c.in_err-left.ensures.stops x text is_rest first)

pub returns-in-None-clause-reads : goal.returns-in-None-clause-reads
returns-in-None-clause-reads g c = λ x text is_rest first. rw c.in-None.is at (c.in_ok-left.ensures.keeps x text is_rest first)

pub returns-in_err-rest-clause-reads : goal.returns-in_err-rest-clause-reads
returns-in_err-rest-clause-reads g c = λ x text is_rest first.
    let begun = rw c.in-Some.is at (c.in_ok-left.ensures.takes x text is_rest first) in
    let p = err_from_is_err_and c.from_residual-in_err-rest.result c.from_residual-in_err-rest.ensures.1 in
    rw (p.1, p.2) (c.in_err-rest.ensures.stops x text begun)

pub returns-in_err-extend_from_slice-clause-reads : goal.returns-in_err-extend_from_slice-clause-reads
returns-in_err-extend_from_slice-clause-reads g c = λ x text is_rest first.
    let begun = rw c.in-Some.is at (c.in_ok-left.ensures.takes x text is_rest first) in
    let r = (c.in_ok-rest.ensures.takes x text begun).between in
    let p = err_from_is_err_and c.from_residual-in_err-extend_from_slice.result c.from_residual-in_err-extend_from_slice.ensures.1 in
    rw (p.1, p.2) (stops_out g.M.MessageSink.seen x text c.take_whole.new.messages c.take_whole.new.to c.in_ok-rest.rest.now r)

pub returns-clause-reads : goal.returns-clause-reads
returns-clause-reads g c = λ x text is_rest first.
    let begun = rw c.in-Some.is at (c.in_ok-left.ensures.takes x text is_rest first) in
    let emptied : c.take_begun.new.buffer.items ≡ [] = (rw c.in-Some.is at c.in_ok-left.ensures.emptied) c.in-Some.left refl in
    let kept = rw emptied at c.in_ok-extend_from_slice.ensures.items in
    at_rest g.M.MessageSink.seen x text c.take_whole.new.messages c.take_whole.new.to c.in_ok-rest.rest.now _ (sym kept) (c.in_ok-rest.ensures.takes x text begun)
