use Rattle.std.proofs.Common.{◌∙◌, List, ap, drop, sym, subst, All, arith}
use Rattle.std.proofs.lemmas.List.{drop-drop}
use Rattle.std.proofs.lemmas.List.Elements.{All-drop}
use Rattle.flow_table.specs.SameTables.{RowValue}
use Rattle.ipfix_elements.proofs.Places.{next_placed}
use Rattle.flow_export.specs.Fitting.{IsExportable}
use Rattle.flow_export.specs.IpfixText.{row_octets_in}
use Rattle.flow_export.proofs.ipfix_text.rows.place_rows.Goals as goal

pub place_next-requires-clause-fit : goal.place_next-requires-clause-fit
place_next-requires-clause-fit c =
    subst (λ (rows : List RowValue). All (IsExportable c.args.plan.now) rows) (sym c.loop.invariant.left) (All-drop (IsExportable c.args.plan.now) c.loop.counter c.args.rows.now c.requires.fit)

pub loop-preserved : goal.loop-preserved
loop-preserved c = record {
  left = c.in_ok-end.ensures.passes ∙ ap (drop 1) c.loop.invariant.left ∙ drop-drop 1 c.loop.counter c.args.rows.now;
  placed = next_placed (row_octets_in c.args.intervals c.args.plan.now) c.args.rows.now c.loop.rows c.loop.counter c.loop.invariant.left c.loop.invariant.placed c.in_ok-end.ensures.placed;
  short = omega (arith, c.in_ok-end.ensures.short, c.loop.invariant.short);
}
