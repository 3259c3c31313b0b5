use Rattle.std.proofs.Common.{◌≡◌, arith, take, subst}
use Rattle.std.specs.List.{flat_map}
use Rattle.std.specs.Io.KnownBytes.{Appends}
use Rattle.std.proofs.lemmas.List.{take_all}
use Rattle.flow_export.specs.Shown.{shown_cells}
use Rattle.flow_export.specs.Written.{next_cell}
use Rattle.flow_export.proofs.ShownKeys.{shown_length}
use Rattle.command_collect.proofs.LargeLines.{cell_told}
use Rattle.command_collect.proofs.large.write_key.Goals as goal

pub loop-index-preserved : goal.loop-index-preserved
loop-index-preserved g c =
    record {
      told = cell_told _ _ _ c.args.keys.now c.args.cells.now c.loop-index.index _ c.shown_under-cell.result c.loop-index-test.true c.shown_under-cell.ensures c.loop-index.invariant.told c.in_ok-write_next_cell.ensures.told;
      kept = λ failed. c.write_next_cell.ensures.kept (c.loop-index.invariant.kept failed);
    }

pub returns : goal.returns
returns g c =
    let shown = shown_cells c.args.keys.now c.args.cells.now in
    let all : take c.loop-index.index shown ≡ shown = take_all c.loop-index.index shown (omega (arith, c.loop-index-test.false, shown_length c.args.keys.now c.args.cells.now)) in
    record {
      told = subst (λ l. Appends (g.W.WriteLines.lines c.args.out.now).contents (g.W.WriteLines.lines c.loop-index.out).contents (flat_map next_cell l)) all c.loop-index.invariant.told;
      failed = tt;
      kept = c.loop-index.invariant.kept;
    }
