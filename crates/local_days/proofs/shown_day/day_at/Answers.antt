use Rattle.std.proofs.Common.{subst, ℕ}
use Rattle.jiff.specs.ZoneView.{plain_zone}
use Rattle.local_days.specs.DaysShown.{ShowsDate}
use Rattle.local_days.proofs.shown_day.day_at.Goals as goal

pub returns-clause-day : goal.returns-clause-day
returns-clause-day c = record {
  date = c.date_shown-date.result;
  shown = subst (λ (second : ℕ). ShowsDate (plain_zone c.args.zone) second c.date_shown-date.result) c.min.ensures c.date_shown-date.ensures;
  first = c.first_date.result;
  begins = c.first_date.ensures;
  number = c.day_number.ensures.number;
}
