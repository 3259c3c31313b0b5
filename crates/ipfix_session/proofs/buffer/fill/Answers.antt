use Rattle.std.proofs.Common.{ℕ, ◌<◌, ◌≤◌, List, length, sym, ap, ◌∙◌, arith}
use denote.Ref.{Bor}
use Rattle.ipfix_wire.specs.MessageHeader.{header_at}
use Rattle.ipfix_session.proofs.Filling.{fills_few, fills_bad, fills_result}
use Rattle.ipfix_session.proofs.buffer.fill.Goals as goal

pub returns-then-len-lt-HEADER_LENGTH-clause-fills : goal.returns-then-len-lt-HEADER_LENGTH-clause-fills
returns-then-len-lt-HEADER_LENGTH-clause-fills c = λ rest.
    let few : length c.move_up_to.new.buffer.items < 16 = omega arith in
    fills_few _ _ _ _ c.in_ok-left.ensures.moves few

pub returns-in-Ok-clause-fills : goal.returns-in-Ok-clause-fills
returns-in-Ok-clause-fills c = λ rest.
    let long : 16 ≤ length c.move_up_to.new.buffer.items = omega arith in
    fills_result (λ (x : Bor (List ℕ)). x.now) c.move_up_to-in-Ok.result _ _ c.move_up_to.new.buffer.items _ _ c.in_ok-left.left.now c.in-Ok.header rest c.in_ok-left.ensures.moves long
    (ap header_at (sym c.deref.ensures.value) ∙ sym c.in-Ok.ensures.exact) c.from.ensures c.move_up_to-in-Ok.ensures.moves

pub returns-in-Err-clause-fills : goal.returns-in-Err-clause-fills
returns-in-Err-clause-fills c = λ rest.
    let long : 16 ≤ length c.move_up_to.new.buffer.items = omega arith in
    fills_bad _ c.move_up_to.new.buffer.items _ _ c.in-Err.field-0 c.in_ok-left.ensures.moves long
    (ap header_at (sym c.deref.ensures.value) ∙ sym c.in-Err.ensures.exact)
