use Rattle.std.proofs.Common.{sym, subst}
use Rattle.std.specs.Prelude.{OnOk, codes}
use Rattle.std.specs.Io.KnownBytes.{Appends}
use Rattle.std.proofs.KnownBytes.{Appends-trans}
use Rattle.std.proofs.lemmas.Result.{on_ok_weaker}
use Rattle.command_collect.specs.Large.{interval_start, next_cells}
use Rattle.command_collect.proofs.LargeLines.{row_parts}
use Rattle.command_collect.proofs.large.write_row.Goals as goal

pub returns : goal.returns
returns g c =
    let lines = g.W.WriteLines.lines in
    let plan = c.args.plan.now in
    let row = c.args.row.now in
    let key = rw (c.keys.ensures.value, c.deref.ensures.value) at c.in_ok-write_key.ensures.told in
    let start = interval_start plan row.interval in
    let cells = next_cells plan.keys row.key.items in
    record {
      told = subst (λ l. OnOk c.writeln.result (Appends (lines c.args.out.now).contents (lines c.writeln.new.self).contents l)) (sym (row_parts plan row))
          (on_ok_weaker c.writeln.result (λ h. Appends-trans _ _ _ start _ c.in_ok-write_interval.ensures.told (Appends-trans _ _ _ cells (codes "\n") key h)) c.writeln.ensures.bytes);
      failed = c.writeln.ensures.failed;
      kept = λ failed. c.writeln.ensures.kept (c.write_key.ensures.kept (c.write_interval.ensures.kept failed));
    }
