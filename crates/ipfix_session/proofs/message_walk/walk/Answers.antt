use Rattle.std.proofs.Common.{◌∙◌, arith}
use Rattle.ipfix_session.proofs.Walks.{walk_first, walk_stops, read_ends, read_on, read_fails}
use Rattle.ipfix_session.proofs.message_walk.walk.Goals as goal

pub loop-init : goal.loop-init
loop-init g c = λ text is. walk_first (g.R.Read.remaining c.args.reader.now) text c.new-whole.result c.new-whole.ensures is

pub returns-in-Ok-eq0 : goal.returns-in-Ok-eq0
returns-in-Ok-eq0 g c = λ text is.
    c.octets.ensures ∙ read_ends (g.R.Read.remaining c.loop.reader) (g.R.Read.remaining c.read.new.self) text c.loop.whole c.in-Ok-eq0.field-0 c.read.new.buf c.read.result (c.loop.invariant text is) c.in-Ok-eq0.is c.in-Ok-eq0.field-0-test
    (omega (arith, c.read.auto.buf, c.loop.auto.piece, c.requires)) c.read.ensures.bytes

pub loop-preserved-in-Err : goal.loop-preserved-in-Err
loop-preserved-in-Err g c = λ text is.
    read_fails (g.R.Read.remaining c.loop.reader) (g.R.Read.remaining c.read.new.self) text c.loop.whole c.in-Err.error c.read.new.buf c.read.result (c.loop.invariant text is) c.in-Err.is c.read.ensures.bytes

pub returns-then-is_at_fault : goal.returns-then-is_at_fault
returns-then-is_at_fault g c = λ text is.
    c.octets-then-is_at_fault.ensures ∙ walk_stops (g.R.Read.remaining c.read.new.self) text c.read-in-Ok.new.self
    (read_on (g.R.Read.remaining c.loop.reader) (g.R.Read.remaining c.read.new.self) text c.loop.whole c.read-in-Ok.new.self c.in-Ok.count c.read.new.buf c.read.result (c.loop.invariant text is) c.in-Ok.is c.read.ensures.bytes c.read-in-Ok.ensures)
    (c.is_at_fault.ensures.0 c.if-is_at_fault.true)

pub loop-preserved : goal.loop-preserved
loop-preserved g c = λ text is.
    read_on (g.R.Read.remaining c.loop.reader) (g.R.Read.remaining c.read.new.self) text c.loop.whole c.read-in-Ok.new.self c.in-Ok.count c.read.new.buf c.read.result (c.loop.invariant text is) c.in-Ok.is c.read.ensures.bytes c.read-in-Ok.ensures
