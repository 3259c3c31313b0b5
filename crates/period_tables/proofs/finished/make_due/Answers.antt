use Rattle.std.proofs.Common.{refl, subst}
use Rattle.period_tables.specs.Standing.{IsPutAt, IsPutOrKept}
use Rattle.period_tables.proofs.finished.make_due.Goals as goal

pub returns-in-Ok-put-clause-outcome : goal.returns-in-Ok-put-clause-outcome
returns-in-Ok-put-clause-outcome g c =
    let Stands = IsPutAt g.T.TablePlace.seen c.args.period.begins c.put.new.self in
    record {
      table = c.in-Ok.made;
      made = c.in-Ok.ensures.table;
      fault_is = refl;
      stands = subst (Stands c.in-Ok.made.text.items) c.deref-2.ensures.value (subst (λ t. Stands t c.deref-2.result.now) c.deref.ensures.value c.in-Ok-put.ensures.ok);
      others = c.in-Ok-put.ensures.others;
      same_job = c.in-Ok.ensures.job;
    }

pub returns-clause-outcome : goal.returns-clause-outcome
returns-clause-outcome g c =
    let Left = IsPutOrKept g.T.TablePlace.seen c.args.period.begins c.args.desk.now.tables c.put.new.self in
    record {
      table = c.in-Ok.made;
      made = c.in-Ok.ensures.table;
      left = subst (Left c.in-Ok.made.text.items) c.deref-2.ensures.value (subst (λ t. Left t c.deref-2.result.now) c.deref.ensures.value c.in-Err-put.ensures.err);
      others = c.in-Err-put.ensures.others;
      same_job = c.in-Ok.ensures.job;
      why = c.in-Err-put.ensures.reason;
    }
