use Rattle.std.proofs.Common.{subst}
use Rattle.period_tables.specs.Standing.{IsPutAt, IsPutOrKept}
use Rattle.command_tables.proofs.texts.taking.make_due.Goals as goal

pub returns-in-Ok-put : goal.returns-in-Ok-put
returns-in-Ok-put g c =
    let Stands = IsPutAt g.T.TablePlace.seen c.args.period.begins c.put.new.self in
    record {
      made = c.in-Ok.made;
      is_made = c.in-Ok.ensures.ok;
      stands = subst (Stands c.in-Ok.made.text.items) c.deref-2.ensures.value (subst (λ t. Stands t c.deref-2.result.now) c.deref.ensures.value c.in-Ok-put.ensures.ok);
      others = c.in-Ok-put.ensures.others;
    }

pub returns : goal.returns
returns g c =
    let Left = IsPutOrKept g.T.TablePlace.seen c.args.period.begins c.args.texts.now c.put.new.self in
    record {
      made = c.in-Ok.made;
      is_made = c.in-Ok.ensures.ok;
      left = subst (Left c.in-Ok.made.text.items) c.deref-2.ensures.value (subst (λ t. Left t c.deref-2.result.now) c.deref.ensures.value c.in-Err-put.ensures.err);
      others = c.in-Err-put.ensures.others;
      why = c.in-Err-put.ensures.reason;
    }
