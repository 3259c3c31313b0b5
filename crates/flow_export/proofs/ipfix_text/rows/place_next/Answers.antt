use Rattle.std.proofs.Common.{List, subst, All}
use Rattle.std.proofs.lemmas.List.Elements.{All-head}
use Rattle.flow_table.specs.SameTables.{RowValue}
use Rattle.flow_export.specs.Fitting.{IsExportable}
use Rattle.flow_export.proofs.ipfix_text.rows.place_next.Goals as goal

pub place_row-end-requires-clause-fits : goal.place_row-end-requires-clause-fits
place_row-end-requires-clause-fits c =
    All-head (IsExportable c.args.plan.now) _ _ (subst (λ (rows : List RowValue). All (IsExportable c.args.plan.now) rows) c.in-Some.ensures c.requires.fit)
