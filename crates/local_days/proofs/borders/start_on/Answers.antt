use Rattle.std.proofs.Common.{sym, ◌∙◌}
use Rattle.jiff.specs.ZoneView.{plain_zone}
use Rattle.local_days.proofs.Starts.{no_start, not_first, some_start}
use Rattle.local_days.proofs.borders.start_on.Goals as goal

pub returns-then-is_first_day-clause-some : goal.returns-then-is_first_day-clause-some
returns-then-is_first_day-clause-some c =
    some_start c.start_of.result c.args.interval (plain_zone c.args.zone) c.args.day c.date_of-date.result c.date_of-date.ensures (sym c.is_first_day.ensures ∙ c.if-is_first_day.true) c.start_of.ensures.some

pub returns-then-is_first_day-clause-none : goal.returns-then-is_first_day-clause-none
returns-then-is_first_day-clause-none c =
    no_start c.start_of.result c.args.interval (plain_zone c.args.zone) c.args.day c.date_of-date.result c.date_of-date.ensures c.requires c.start_of.ensures.none

pub returns-else-is_first_day-clause-none : goal.returns-else-is_first_day-clause-none
returns-else-is_first_day-clause-none c =
    not_first c.args.interval (plain_zone c.args.zone) c.args.day c.date_of-date.result c.date_of-date.ensures (sym c.is_first_day.ensures ∙ c.if-is_first_day.false)
