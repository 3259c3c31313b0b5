use Rattle.std.proofs.Common.{◌∙◌, sym}
use Rattle.period_tables.proofs.NextTaken.{at_most, settled_next, unsettled_next}
use Rattle.period_tables.proofs.periods.take_next.Goals as goal

pub returns-then-took : goal.returns-then-took
returns-then-took g c =
    settled_next g.F.Recordings
    c.args.round c.args.unfinished.now c.args.period c.args.work.now c.take_and_tell-took.new.work c.take_and_tell-took.result
    (sym c.has_settled.ensures ∙ c.if-has_settled.false) c.take_and_tell-took.ensures c.settle.new.self c.if-took.true
    (at_most c.settle.result c.args.period.begins c.take_and_tell-took.new.work.rounds c.settle.new.self c.settle.ensures.ok c.settle.ensures.err)

pub returns-else-took : goal.returns-else-took
returns-else-took g c =
    unsettled_next g.F.Recordings
    c.args.round c.args.unfinished.now c.args.period c.args.work.now c.take_and_tell-took.new.work c.take_and_tell-took.result
    (sym c.has_settled.ensures ∙ c.if-has_settled.false) c.take_and_tell-took.ensures c.if-took.false
