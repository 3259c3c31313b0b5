use Rattle.std.proofs.Common.{sym, ap, subst, ◌∙◌, ◌++◌}
use Rattle.ipfix_session.specs.Intake.{record_intake}
use Rattle.ipfix_session.specs.Feeding.{State, StandsForText}
use Rattle.ipfix_session.proofs.MessagesTaken.{between_first}
use Rattle.ipfix_session.proofs.Reaching.{none_but, fed_again, fed_by, earlier, taken_first, buffer_is_rest, may_go_on}
use Rattle.ipfix_session.proofs.session.Session.feed.Goals as goal

pub returns-in-Some-clause-feeds : goal.returns-in-Some-clause-feeds
returns-in-Some-clause-feeds g c = λ limit text stands.
    fed_again g.K.Sink.seen limit c.args.self.now text c.args.piece.now c.args.sink.now c.in-Some.fault stands (ap (λ (s : State). s.fault) (sym c.self.view_is) ∙ c.in-Some.is)

pub returns-clause-feeds : goal.returns-clause-feeds
returns-clause-feeds g c = λ limit text stands.
    let inside = subst (λ (s : State). StandsForText limit s text) (sym c.self.view_is) stands in
    let none = none_but _ c.in_default.not-Some in
    let is_open = may_go_on limit _ text inside none in
    let on = inside.goes_on is_open in
    let sink = c.args.sink.now in
    let octets = c.self.inside.buffer.items ++ c.args.piece.now in
    let before = earlier limit text sink in
    let taken = taken_first g.K.Sink.seen limit c.self.inside.intake text sink inside.tells on.not_spent on.known on.has_limit in
    let reads = c.read_on-result.ensures.reads before octets (buffer_is_rest limit _ text inside none) (between_first (record_intake g.K.Sink.seen) before octets c.self.inside.intake sink taken) in
    fed_by g.K.Sink.seen limit c.read_on-result.new.messages text c.self.inside.buffer.items c.args.piece.now c.read_on-result.new.buffer.items sink c.read_on-result.new.to c.read_on-result.result c.err-self-inside.result on.rest is_open reads
    (sym c.err-self-inside.ensures.value)
