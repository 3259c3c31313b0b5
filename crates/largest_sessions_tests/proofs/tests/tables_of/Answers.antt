use Rattle.std.proofs.Common.{[], ◌∷◌, sym, subst}
use Rattle.std.specs.Prelude.{All}
use Rattle.std.proofs.lemmas.List.Elements.{All-append, All-cons, All-nil}
use Rattle.flow_table.specs.Fitting.{FitsPlan}
use Rattle.largest_sessions_tests.proofs.tests.tables_of.Goals as goal

pub loop-flows-preserved : goal.loop-flows-preserved
loop-flows-preserved c =
    let fits = FitsPlan c.args.plan.now in
    let table = c.in_ok-table_of.field-0 in
    subst (All fits) (sym c.in_ok-push.ensures.items)
    (All-append fits c.loop-flows.tables.items (table ∷ []) c.loop-flows.invariant (All-cons fits table [] c.in_ok-table_of.ensures (All-nil fits)))
