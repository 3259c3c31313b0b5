use Rattle.std.proofs.Common.{arith}
use Rattle.recording_folder.proofs.FileReadings.{reading_first, reading_ends, reading_on, reading_stays}
use Rattle.recording_folder.proofs.file_contents.read_through.Goals as goal

pub loop-init : goal.loop-init
loop-init g c = λ text is. reading_first (g.R.Read.remaining c.args.reader.now) text c.new-reading.result c.new-reading.ensures is

pub returns-in-Ok-eq0 : goal.returns-in-Ok-eq0
returns-in-Ok-eq0 g c = λ text is.
    c.into_contents.ensures text (reading_ends (g.R.Read.remaining c.loop.reader) (g.R.Read.remaining c.read.new.self) text c.loop.reading c.in-Ok-eq0.field-0 c.read.new.buf c.read.result (c.loop.invariant text is) c.in-Ok-eq0.is c.in-Ok-eq0.field-0-test
    (omega (arith, c.read.auto.buf, c.loop.auto.piece, c.requires)) c.read.ensures.bytes)

pub loop-preserved-in-Err : goal.loop-preserved-in-Err
loop-preserved-in-Err g c = λ text is.
    reading_stays (g.R.Read.remaining c.loop.reader) (g.R.Read.remaining c.read.new.self) text c.loop.reading c.in-Err.error c.read.new.buf c.read.result (c.loop.invariant text is) c.in-Err.is c.read.ensures.bytes

pub loop-preserved : goal.loop-preserved
loop-preserved g c = λ text is.
    reading_on (g.R.Read.remaining c.loop.reader) (g.R.Read.remaining c.read.new.self) text c.loop.reading c.take.new.self c.in-Ok.count c.read.new.buf c.read.result (c.loop.invariant text is) c.in-Ok.is c.read.ensures.bytes (λ t has. c.in_ok-take-in-Ok.ensures t has)
