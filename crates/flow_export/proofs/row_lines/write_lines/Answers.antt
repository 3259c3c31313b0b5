use Rattle.std.proofs.Common.{rules, sym, subst, All, List}
use Rattle.std.proofs.lemmas.List.Elements.{All-drop, All-head}
use Rattle.flow_table.specs.SameTables.{RowValue}
use Rattle.flow_export.specs.Fitting.{IsExportable}
use Rattle.flow_export.proofs.InBlocks.{all_written, line_more, none_written}
use Rattle.flow_export.proofs.row_lines.write_lines.Goals as goal

pub loop-row-init : goal.loop-row-init
loop-row-init g c = (c.requires.fit, none_written (g.L.RowLines.line_of c.args.lines.now c.args.plan.now) c.args.rows.now _ _ c.new-text.ensures.items, search rules)

pub append_rest-requires-clause-fits : goal.append_rest-requires-clause-fits
append_rest-requires-clause-fits g c =
    All-head (IsExportable c.args.plan.now) _ _ (subst (λ (rows : List RowValue). All (IsExportable c.args.plan.now) rows) c.in-Some.ensures c.loop-row.invariant.0)

pub loop-row-preserved : goal.loop-row-preserved
loop-row-preserved g c =
    let plan = c.args.plan.now in
    let left = c.loop-row.rows in
    let block = c.in_ok-write_block.ensures.ok in (
      subst (λ (rows : List RowValue). All (IsExportable plan) rows) (sym c.in_ok-pass.ensures) (All-drop (IsExportable plan) 1 left c.loop-row.invariant.0),
      line_more (g.L.RowLines.line_of c.args.lines.now plan) c.args.rows.now left _ _ c.loop-row.text.items _ _ (g.W.Write.contents c.args.out.now) (g.W.Write.contents c.loop-row.out) _
          c.in-Some.ensures c.in_ok-pass.ensures (c.in_ok-append_rest.ensures c.loop-row.text.items c.in_ok-append_front.ensures.ok) c.loop-row.invariant.1 block.0 block.1 block.2,
      c.in_ok-append_front.ensures.kept,
    )

pub returns-clause-ok : goal.returns-clause-ok
returns-clause-ok g c =
    all_written (g.L.RowLines.line_of c.args.lines.now c.args.plan.now) c.args.rows.now c.loop-row.rows _ _ _ _ _ c.in_default.ensures c.as_slice.ensures.value c.loop-row.invariant.1 c.in_ok-write_all.ensures.bytes
