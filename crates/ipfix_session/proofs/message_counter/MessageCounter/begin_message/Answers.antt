use Rattle.std.proofs.Common.{length, refl, ap, sym, ◌∙◌, arith, subst}
use Rattle.ipfix_wire.specs.MessageHeader.{header_at}
use Rattle.ipfix_session.specs.MessageCounts.{CounterView, CountsWhole}
use Rattle.ipfix_session.proofs.Counting.{reads_faulty}
use Rattle.ipfix_session.proofs.message_counter.MessageCounter.begin_message.Goals as goal

pub returns-in-Err : goal.returns-in-Err
returns-in-Err c = λ text part counts is.
    reads_faulty _ text part (subst (λ (v : CounterView). CountsWhole v.messages v.octets text) (sym c.self.view_is) counts) refl (record {
      fault = c.in-Err.field-0;
      long = omega (arith, ap length is);
      is_fault = ap header_at is ∙ sym c.in-Err.ensures.exact;
    })
