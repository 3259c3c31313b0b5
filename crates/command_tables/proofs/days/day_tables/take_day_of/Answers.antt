use Rattle.std.proofs.Common.{◌≡◌, ◌∙◌, ℕ, sym, subst, true}
use Rattle.command_tables.specs.Days.{IsDayOf, is_due}
use Rattle.command_tables.proofs.Branches.{if_true}
use Rattle.command_tables.proofs.days.day_tables.take_day_of.Goals as goal

pub returns : goal.returns
returns g c =
    let due : is_due c.args.placed.now c.day_of-hour_ago.result.begins c.args.day.begins ≡ true = sym c.is_due.ensures ∙ c.if-not-is_due.false in
    let periods = c.deref.ensures.value ∙ c.in-Ok.ensures in
    record {
      hour_ago = c.day_of-hour_ago.result.begins;
      then = subst (λ (second : ℕ). IsDayOf c.args.made.now.calendar second c.day_of-hour_ago.result.begins) c.saturating_sub.ensures c.day_of-hour_ago.ensures;
      takes = if_true _ _ _ due (rw periods at c.take_and_tell.ensures);
    }
