use Rattle.std.proofs.Common.{◌≡◌, ℕ, sym, subst, ◌∙◌}
use Rattle.std.specs.Prelude.{◌==◌, true, false}
use Rattle.std.proofs.lemmas.Result.{err_from_is_err_and}
use Rattle.period_collect.proofs.TablesOfRuns.{lot_of_hindered, lot_of_large, none_in, none_of_rest, none_of_run, not_looked_at, some_in, standing}
use Rattle.period_collect.proofs.table_maker.table_of_rest.Goals as goal

pub returns-in_err-lot-clause-err : goal.returns-in_err-lot-clause-err
returns-in_err-lot-clause-err g c =
    let p = err_from_is_err_and c.from_residual.result c.from_residual.ensures.1 in
    rw (p.1, p.2) (none_of_rest c.args.period.begins c.args.files.now c.args.maker.now c.run_period.new.maker c.leave_out.new.maker c.args.out.now c.in-Ok.ended c.in-Ok.ensures.run
    c.in-Some.hindrance c.in-Some.is c.in_err-lot.field-0.0 c.in_err-lot.ensures.err)

pub returns-in-Some-clause-tried : goal.returns-in-Some-clause-tried
returns-in-Some-clause-tried g c = (
  lot_of_hindered c.args.period.begins c.args.files.now c.args.maker.now c.run_period.new.maker c.leave_out.new.maker c.args.out.now c.in-Ok.ended c.in-Ok.ensures.run
      c.in_ok-lot.lot.items c.in-Some.hindrance c.in-Some.is c.in_ok-lot.ensures.lot,
  c.in_ok-lot.ensures.some,
)

pub returns-in_err-table-clause-err : goal.returns-in_err-table-clause-err
returns-in_err-table-clause-err g c =
    let p = err_from_is_err_and c.from_residual-in_err-table.result c.from_residual-in_err-table.ensures.1 in
    rw (p.1, p.2) (none_of_run c.args.period.begins c.args.files.now c.args.maker.now c.run_period.new.maker c.run_period.new.maker c.args.out.now c.in-Ok.ended c.in-Ok.ensures.run
    c.in_default-hindrance.is c.in_err-table.field-0.0 c.in_err-table.ensures.err)

pub returns-in_err-lot-2-clause-err : goal.returns-in_err-lot-2-clause-err
returns-in_err-lot-2-clause-err g c =
    let p = err_from_is_err_and c.from_residual-in_err-lot-2.result c.from_residual-in_err-lot-2.ensures.1 in
    rw (p.1, p.2) (not_looked_at c.args.period.begins c.args.files.now c.args.maker.now c.run_period.new.maker c.leave_out_large.new.maker c.args.out.now c.in-Ok.ended c.in-Ok.ensures.run
    c.in_default-hindrance.is c.in_ok-table.table c.in_ok-table.ensures.table c.deref.result.now c.deref.ensures.value c.in_err-lot-2.field-0.0 c.in_err-lot-2.ensures.err)

pub returns-then-is_empty-clause-tried : goal.returns-then-is_empty-clause-tried
returns-then-is_empty-clause-tried g c =
    standing c.args.period.begins c.args.files.now c.args.maker.now c.run_period.new.maker c.leave_out_large.new.maker c.args.out.now c.in-Ok.ended c.in-Ok.ensures.run
    c.in_default-hindrance.is c.in_ok-table.table c.in_ok-table.ensures.table c.deref.result.now c.deref.ensures.value c.in_ok-lot-2.lot.items c.in_ok-lot-2.ensures.lot
    (none_in c.in_ok-lot-2.lot.items (subst (λ (n : ℕ). (n == 0) ≡ true) c.in_ok-lot-2.lot.ok.0 (sym c.is_empty.ensures ∙ c.if-is_empty.true)))

pub returns-clause-tried : goal.returns-clause-tried
returns-clause-tried g c =
    let some = some_in c.in_ok-lot-2.lot.items (subst (λ (n : ℕ). (n == 0) ≡ false) c.in_ok-lot-2.lot.ok.0 (sym c.is_empty.ensures ∙ c.if-is_empty.false)) in (
      lot_of_large c.args.period.begins c.args.files.now c.args.maker.now c.run_period.new.maker c.leave_out_large.new.maker c.args.out.now c.in-Ok.ended c.in-Ok.ensures.run
          c.in_default-hindrance.is c.in_ok-table.table c.in_ok-table.ensures.table c.deref.result.now c.deref.ensures.value c.in_ok-lot-2.lot.items c.in_ok-lot-2.ensures.lot some,
      some,
    )
