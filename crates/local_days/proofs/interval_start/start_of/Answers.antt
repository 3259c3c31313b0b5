use Rattle.std.proofs.Common.{◌≡◌, subst, ◌<ℤ◌}
use Rattle.std.specs.Prelude.{IfNone, IfSome, int_div, pos}
use Rattle.jiff.specs.ZoneView.{plain_zone}
use Rattle.jiff_core.specs.declared.timestamp.Timestamp.{Timestamp}
use Rattle.local_days.proofs.Starts.{no_begin, some_begin, within}
use Rattle.local_days.proofs.interval_start.start_of.Goals as goal

pub returns-in-Ok-clause-some : goal.returns-in-Ok-clause-some
returns-in-Ok-clause-some c =
    some_begin c.millisecond_of.result (plain_zone c.args.zone) c.args.date c.in-Ok.midnight c.in-Ok.ensures
    (subst (λ (t : Timestamp). IfSome c.millisecond_of.result (λ time. pos time ≡ int_div t.nanosecond (pos 1_000_000))) c.timestamp.ensures c.millisecond_of.ensures.some)

pub returns-in-Ok-clause-none : goal.returns-in-Ok-clause-none
returns-in-Ok-clause-none c =
    no_begin c.millisecond_of.result (plain_zone c.args.zone) c.args.date c.in-Ok.midnight c.in-Ok.ensures
    (subst (λ (t : Timestamp). IfNone c.millisecond_of.result (int_div t.nanosecond (pos 1_000_000) <ℤ pos 0)) c.timestamp.ensures c.millisecond_of.ensures.none)

pub returns-in-Err-clause-none : goal.returns-in-Err-clause-none
returns-in-Err-clause-none c = within (plain_zone c.args.zone) c.args.date c.in-Err.field-0 c.in-Err.ensures
