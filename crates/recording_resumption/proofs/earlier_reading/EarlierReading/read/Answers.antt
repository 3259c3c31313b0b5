use Rattle.std.proofs.Common.{◌++◌, None, sym, ◌∙◌}
use Rattle.std.proofs.lemmas.Bool.{false≢true}
use Rattle.ipfix_session.specs.Given.{gives}
use Rattle.ipfix_session.proofs.MessagesTaken.{between_first}
use Rattle.ipfix_session.proofs.Reaching.{buffer_is_rest, may_go_on}
use Rattle.recording_resumption.specs.Readings.{messages_view}
use Rattle.recording_resumption.proofs.Reading.{none_but, read_by, read_no_more, taken_first}
use Rattle.recording_resumption.proofs.earlier_reading.EarlierReading.read.Goals as goal

pub returns-then-is_some : goal.returns-then-is_some
returns-then-is_some c = λ text has. read_no_more c.args.self.now text c.args.piece.now (sym c.is_some.ensures ∙ c.if-is_some.true) has

pub returns : goal.returns
returns c = λ text has.
    let none = none_but c.args.self.now.fault (sym c.is_some.ensures ∙ c.if-is_some.false) in
    let is_open = may_go_on None _ text has.session none in
    let on = has.session.goes_on is_open in
    let octets = c.args.self.now.buffer.items ++ c.args.piece.now in
    let before = (gives text).messages in
    let taken = taken_first c.args.self.now.messages before has.counted on.not_spent on.known in
    read_by _ text c.args.self.now.buffer.items c.args.piece.now c.read_on-read.result c.err-self.ensures.value (λ e. false≢true (sym c.if-is_out_of_memory.false ∙ c.is_out_of_memory.ensures.1 e)) on.rest is_open
    (c.read_on-read.ensures.reads before octets (buffer_is_rest None _ text has.session none) (between_first messages_view before octets c.args.self.now.messages tt taken))
