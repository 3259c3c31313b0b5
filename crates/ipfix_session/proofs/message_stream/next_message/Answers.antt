use Rattle.std.proofs.Common.{ℕ, take, sym, ap, ◌∙◌, arith}
use Rattle.ipfix_message.specs.Domains.{message_header}
use Rattle.ipfix_session.proofs.Cut.{header_of_first}
use Rattle.ipfix_session.proofs.message_stream.next_message.Goals as goal

pub returns-clause-header : goal.returns-clause-header
returns-clause-header c =
    ap message_header (c.split_at.ensures.front ∙ ap (λ (n : ℕ). take n c.args.text.now) c.from-length.ensures)
    ∙ header_of_first c.args.text.now c.in-Ok.header (omega arith) (sym c.in-Ok.ensures.exact) (omega arith)
