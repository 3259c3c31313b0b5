use Rattle.std.proofs.Common.{◌≡◌, ℕ, List, ◌++◌, [], sym, ap, ◌∙◌, arith}
use Rattle.std.proofs.lemmas.Bool.{eqb-true}
use Rattle.std.proofs.lemmas.Result.{err_from_is_err_and}
use Rattle.ipfix_session.specs.MessageStream.{next_message}
use Rattle.ipfix_session.proofs.Cut.{none_at}
use Rattle.ipfix_session.proofs.Filling.{refilled, begins_whole, stops_whole}
use Rattle.ipfix_session.proofs.MessagesTaken.{between_at, between_on, stops_at, stops_out, stops_taking, kept_begun, none_left}
use Rattle.ipfix_session.proofs.buffer.take_begun.Goals as goal

pub returns-in_err-left-clause-stops : goal.returns-in_err-left-clause-stops
returns-in_err-left-clause-stops g c = λ x text is_rest first.
    let p = err_from_is_err_and c.from_residual.result c.from_residual.ensures.1 in
    rw (p.1, p.2) (stops_out g.M.MessageSink.seen x text c.args.messages.now c.args.to.now _ first)

pub returns-in_err-take-in-Ok-clause-stops : goal.returns-in_err-take-in-Ok-clause-stops
returns-in_err-take-in-Ok-clause-stops g c = λ x text is_rest first.
    let fills = c.in_ok-left.ensures.fills is_rest in
    let whole = c.fill.new.buffer.items ++ c.in_ok-left.left.now in
    let b = between_at g.M.MessageSink.seen x text c.args.messages.now c.args.to.now _ whole (refilled _ _ _ _ fills.moves) first in
    let begins = begins_whole c.fill.new.buffer.items c.in_ok-left.left.now c.in-Ok.first.octets.now c.in-Ok.first.rest.now (ap next_message (sym c.deref.ensures.value) ∙ c.in-Ok.ensures.found) fills.filled in
    let p = err_from_is_err_and c.from_residual-in_err-take-in-Ok.result c.from_residual-in_err-take-in-Ok.ensures.1 in
    rw (p.1, p.2) (stops_taking g.M.MessageSink.seen x text c.args.messages.now c.take.new.self c.args.to.now c.take.new.to whole c.in-Ok.first.octets.now c.in_ok-left.left.now _ b begins
    (c.in_err-take-in-Ok.ensures x b.messages b.given b.taken))

pub returns-in_err-check_open-in-Err-clause-stops : goal.returns-in_err-check_open-in-Err-clause-stops
returns-in_err-check_open-in-Err-clause-stops g c = λ x text is_rest first.
    let fills = c.in_ok-left.ensures.fills is_rest in
    let whole = c.fill.new.buffer.items ++ c.in_ok-left.left.now in
    let b = between_at g.M.MessageSink.seen x text c.args.messages.now c.args.to.now _ whole (refilled _ _ _ _ fills.moves) first in
    let e = c.in_err-check_open-in-Err.field-0.0 in
    let stops = stops_whole c.fill.new.buffer.items c.in_ok-left.left.now e (ap next_message (sym c.deref.ensures.value) ∙ c.in-Err.ensures.stopped ∙ ap none_at c.in_err-check_open-in-Err.ensures) in
    let p = err_from_is_err_and c.from_residual-in_err-check_open-in-Err.result c.from_residual-in_err-check_open-in-Err.ensures.1 in
    rw (p.1, p.2) (stops_at g.M.MessageSink.seen x text c.args.messages.now c.args.to.now whole e b stops)

pub returns-in-Err-clause-keeps : goal.returns-in-Err-clause-keeps
returns-in-Err-clause-keeps g c = λ x text is_rest first.
    let fills = c.in_ok-left.ensures.fills is_rest in
    let buffer = c.fill.new.buffer.items in
    let left = c.in_ok-left.left.now in
    let b = between_at g.M.MessageSink.seen x text c.args.messages.now c.args.to.now _ (buffer ++ left) (refilled _ _ _ _ fills.moves) first in
    kept_begun g.M.MessageSink.seen x text c.args.messages.now c.args.to.now buffer left c.in-Err.stop (ap next_message (sym c.deref.ensures.value) ∙ c.in-Err.ensures.stopped) c.in_ok-check_open-in-Err.ensures fills.filled b

pub returns-clause-takes : goal.returns-clause-takes
returns-clause-takes g c = λ x text is_rest first.
    let fills = c.in_ok-left.ensures.fills is_rest in
    let whole = c.fill.new.buffer.items ++ c.in_ok-left.left.now in
    let b = between_at g.M.MessageSink.seen x text c.args.messages.now c.args.to.now _ whole (refilled _ _ _ _ fills.moves) first in
    let begins = begins_whole c.fill.new.buffer.items c.in_ok-left.left.now c.in-Ok.first.octets.now c.in-Ok.first.rest.now (ap next_message (sym c.deref.ensures.value) ∙ c.in-Ok.ensures.found) fills.filled in
    between_on g.M.MessageSink.seen x text c.args.messages.now c.take.new.self c.args.to.now c.take.new.to whole c.in-Ok.first.octets.now c.in_ok-left.left.now _ b begins (c.in_ok-take-in-Ok.ensures x b.messages b.given b.taken)

pub returns-then-is_empty-clause-takes : goal.returns-then-is_empty-clause-takes
returns-then-is_empty-clause-takes g c = λ x text is_rest first.
    let size = eqb-true _ 0 (sym c.is_empty.ensures ∙ c.if-is_empty.true) in
    let none : c.args.buffer.now.items ≡ [] = none_left c.args.buffer.now.items (omega (arith, size, c.args.buffer.now.ok.0)) in
    between_at g.M.MessageSink.seen x text c.args.messages.now c.args.to.now (c.args.buffer.now.items ++ c.args.piece.now) c.args.piece.now (ap (λ (w : List ℕ). w ++ c.args.piece.now) none) first
