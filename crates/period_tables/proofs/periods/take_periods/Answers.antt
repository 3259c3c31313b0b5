use Rattle.std.proofs.Common.{inl, inr, refl, subst}
use Rattle.period_tables.specs.Taking.{TakesEach}
use Rattle.period_tables.proofs.periods.take_periods.Goals as goal

pub returns-in-Ok : goal.returns-in-Ok
returns-in-Ok g c =
    let begun = record c.args.work.now { desk = record c.args.work.now.desk { folder = c.unfinished.new.self } } in
    inl (record {
      unfinished = c.in-Ok.unfinished.items;
      begun = begun;
      lists = c.in-Ok.ensures.ok;
      rest = refl;
      takes = subst (λ names. TakesEach g.F.Recordings
          c.args.round names c.args.periods.now c.take_each.result begun c.take_each.new.work) c.deref.ensures.value c.take_each.ensures;
    })

pub returns-in-Err : goal.returns-in-Err
returns-in-Err g c = inr (record {
  reason = c.in-Err.reason;
  why = c.in-Err.ensures.reason;
  none = c.in-Err.ensures.err;
  rest = refl;
  lines = c.tell_unlisted.ensures;
  status_is = c.status_of_reason.ensures;
})
