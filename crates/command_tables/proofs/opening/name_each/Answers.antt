use Rattle.std.proofs.Common.{inl, refl, ◌∙◌}
use Rattle.command_tables.specs.Opening.{IsPlanOf}
use Rattle.command_tables.proofs.Each.{zip_all, zip_more}
use Rattle.command_tables.proofs.Naming.{nameless_at, passed_on}
use Rattle.command_tables.proofs.opening.name_each.Goals as goal

pub loop-path-preserved : goal.loop-path-preserved
loop-path-preserved g c = record {
  named = zip_more c.args.paths.now c.loop-path.path-index _ _ c.loop-path-test.true refl c.loop-path.plans.items c.push.new.self.items _ c.in-Ok.ensures.items
      IsPlanOf c.loop-path.invariant.named (record { path_is = refl; named = c.in_ok-name.ensures.ok });
  silent = c.in_ok-name.ensures.silent ∙ c.loop-path.invariant.silent;
}

pub returns-clause-ok : goal.returns-clause-ok
returns-clause-ok g c = zip_all IsPlanOf c.args.paths.now c.loop-path.plans.items c.loop-path.path-index c.loop-path-test.false c.loop-path.invariant.named

pub returns-in_err-name-clause-err : goal.returns-in_err-name-clause-err
returns-in_err-name-clause-err g c =
    passed_on c.from_residual.result c.in_err-name.field-0.0 _ c.from_residual.ensures.1
    (inl (nameless_at c.args.paths.now c.loop-path.path-index _ _ c.loop-path-test.true refl g.E.WriteLines.lines
    c.args.err.now c.loop-path.err c.name_of_plan.new.err c.in_err-name.field-0.0 c.loop-path.invariant.silent c.in_err-name.ensures.err))
