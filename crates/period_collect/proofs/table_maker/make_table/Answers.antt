use Rattle.std.proofs.Common.{ℕ, List, ◌++◌, refl, subst, ◌∙◌}
use Rattle.std.proofs.lemmas.Result.{err_from_is_err_and}
use Rattle.period_collect.specs.MadeTables.{HasNoTable, IsTried}
use Rattle.period_collect.specs.declared.table_maker.Tried.{Tried}
use Rattle.period_collect.proofs.TablesOfRuns.{lot_out, no_run, not_made, table_of}
use Rattle.period_collect.proofs.table_maker.make_table.Goals as goal

pub returns-in_err-table-clause-err : goal.returns-in_err-table-clause-err
returns-in_err-table-clause-err g c =
    let p = err_from_is_err_and c.from_residual.result c.from_residual.ensures.1 in
    rw (p.1, p.2) (not_made c.args.period.begins c.args.files.now c.args.maker.now c.loop-out.maker c.table_of_rest.new.maker c.loop-out.out.items c.loop-out.invariant.0 c.in_err-table.field-0.0
    (subst (λ (out : List ℕ). HasNoTable c.loop-out.maker c.table_of_rest.new.maker c.args.period.begins c.args.files.now out c.in_err-table.field-0.0) c.deref.ensures.value c.in_err-table.ensures.err))

pub returns-in-Stands-clause-table : goal.returns-in-Stands-clause-table
returns-in-Stands-clause-table g c =
    table_of c.args.period.begins c.args.files.now c.args.maker.now c.loop-out.maker c.table_of_rest.new.maker c.loop-out.out.items c.loop-out.invariant.0 c.in-Stands.table
    (subst (λ (tried : Tried). IsTried c.loop-out.maker c.table_of_rest.new.maker c.args.period.begins c.args.files.now c.loop-out.out.items tried) c.in-Stands.is
    (subst (λ (out : List ℕ). IsTried c.loop-out.maker c.table_of_rest.new.maker c.args.period.begins c.args.files.now out c.in_ok-table.field-0) c.deref.ensures.value c.in_ok-table.ensures.tried))

pub returns-in_default-clause-err : goal.returns-in_default-clause-err
returns-in_default-clause-err g c =
    let tried = subst (λ (tried : Tried). IsTried c.loop-out.maker c.table_of_rest.new.maker c.args.period.begins c.args.files.now c.loop-out.out.items tried) c.in-Without.is
    (subst (λ (out : List ℕ). IsTried c.loop-out.maker c.table_of_rest.new.maker c.args.period.begins c.args.files.now out c.in_ok-table.field-0) c.deref.ensures.value c.in_ok-table.ensures.tried) in
    no_run c.args.period.begins c.args.files.now c.args.maker.now c.table_of_rest.new.maker (c.loop-out.out.items ++ c.in-Without.lot.items)
    (lot_out c.args.period.begins c.args.files.now c.args.maker.now c.loop-out.maker c.table_of_rest.new.maker c.loop-out.out.items c.in-Without.lot.items _ c.loop-out.invariant.0 tried.0 refl)

pub loop-out-preserved : goal.loop-out-preserved
loop-out-preserved g c =
    let tried = subst (λ (tried : Tried). IsTried c.loop-out.maker c.table_of_rest.new.maker c.args.period.begins c.args.files.now c.loop-out.out.items tried) c.in-Without.is
    (subst (λ (out : List ℕ). IsTried c.loop-out.maker c.table_of_rest.new.maker c.args.period.begins c.args.files.now out c.in_ok-table.field-0) c.deref.ensures.value c.in_ok-table.ensures.tried) in (
      lot_out c.args.period.begins c.args.files.now c.args.maker.now c.loop-out.maker c.table_of_rest.new.maker c.loop-out.out.items c.in-Without.lot.items c.append.new.self.items c.loop-out.invariant.0 tried.0 c.in-Ok.ensures.items,
      c.in_ok-table.ensures.job ∙ c.loop-out.invariant.1,
    )

pub returns-clause-err : goal.returns-clause-err
returns-clause-err g c = no_run c.args.period.begins c.args.files.now c.args.maker.now c.loop-out.maker c.loop-out.out.items c.loop-out.invariant.0
