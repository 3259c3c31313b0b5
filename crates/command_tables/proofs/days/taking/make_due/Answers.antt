use Rattle.std.proofs.Common.{subst}
use Rattle.period_tables.specs.Standing.{IsPutOrKept}
use Rattle.command_tables.proofs.days.taking.make_due.Goals as goal

pub returns : goal.returns
returns g c =
    let Left = IsPutOrKept g.T.TablePlace.seen c.args.day.begins c.args.days.now c.put.new.self in
    record {
      text = c.in-Ok.made.text.items;
      receipt = c.in-Ok.made.receipt.items;
      fault = c.in-Ok.made.had_fault;
      made = c.in-Ok.ensures.merged;
      left = subst (Left c.in-Ok.made.text.items) c.deref-2.ensures.value (subst (λ t. Left t c.deref-2.result.now) c.deref.ensures.value c.in-Err-put.ensures.err);
      others = c.in-Err-put.ensures.others;
      why = c.in-Err-put.ensures.reason;
    }
