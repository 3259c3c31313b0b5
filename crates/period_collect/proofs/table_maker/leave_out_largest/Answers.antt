use Rattle.std.proofs.Common.{ℕ, List, map, ap, refl, subst, ◌∙◌, string_bytes}
use Rattle.std.specs.Borrow.{Bor}
use Rattle.report_writing.specs.Told.{AreToldTo}
use Rattle.period_collect.specs.LeftOutFiles.{left_out_lines, paths_at}
use Rattle.period_collect.specs.Parting.{LeavesOut}
use Rattle.period_collect.proofs.table_maker.leave_out_largest.Goals as goal

pub returns-clause-out : goal.returns-clause-out
returns-clause-out g c =
    let texts = map (λ (w : Bor (List ℕ)). w.now) in
    let words = c.in-Ok-words_of.ensures ∙ ap (map string_bytes) c.deref.ensures.value in
    let out = c.in_ok-out.out.items in
    let told = AreToldTo g.E.WriteLines.lines c.files_left_out.new.maker.err c.tell_left_out.new.err in
    record {
      paths = c.in-Ok.paths.items;
      collected = c.files_left_out.new.maker;
      are_paths = c.in-Ok.ensures;
      leaves_out = subst (λ (ps : List (List ℕ)). LeavesOut c.args.maker.now c.files_left_out.new.maker ps out) (ap texts c.deref-2.ensures.value ∙ words) c.in_ok-out.ensures.out;
      told = subst (λ (ps : List (List ℕ)). told (left_out_lines (paths_at out ps))) (ap texts c.deref-3.ensures.value ∙ words)
          (subst (λ (o : List ℕ). told (left_out_lines (paths_at o (texts c.deref-3.result.now)))) c.deref-4.ensures.value c.tell_left_out.ensures.told);
      same_opening = refl;
      same_job = refl;
    }
