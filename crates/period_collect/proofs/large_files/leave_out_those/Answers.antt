use Rattle.std.proofs.Common.{◌≡◌, ℕ, List, ◌++◌, length, map, slice_index_or, ap, refl, subst, ◌∙◌, string_bytes, arith}
use Rattle.std.specs.Borrow.{Bor}
use Rattle.std.proofs.lemmas.List.{length-map}
use Rattle.report_writing.specs.Told.{AreToldTo}
use Rattle.period_collect.specs.LeftOutFiles.{kept_of, paths_at, places_kept}
use Rattle.period_collect.specs.ManyRows.{FindsLarge, large_lines}
use Rattle.period_collect.proofs.large_files.leave_out_those.Goals as goal

pub returns-clause-lot : goal.returns-clause-lot
returns-clause-lot g c =
    let texts = map (λ (w : Bor (List ℕ)). w.now) in
    let out = c.args.out.now in
    let paths = c.in-Ok.paths.items in
    let lot = c.in-Ok-add_places.lot.items in
    let large = c.in_ok-large.large.items in
    let limit = c.large_files.new.maker.job.rows_of_a_session in
    let words = c.in-Ok-words_of.ensures ∙ ap (map string_bytes) c.deref.ensures.value in
    let kept = ap texts c.deref-3.ensures.value ∙ c.in-Ok-kept_of.ensures ∙ ap (kept_of out) (ap texts c.deref-2.ensures.value ∙ words) in
    let count : c.len.result ≡ length paths = omega (arith, c.len.ensures, ap length words, length-map c.in-Ok-words_of.words.items (λ (w : Bor (List ℕ)). w.now), length-map paths string_bytes) in
    let told = AreToldTo g.E.WriteLines.lines c.large_files.new.maker.err c.tell_large.new.err in
    record {
      paths = paths;
      collected = c.large_files.new.maker;
      large = large;
      are_paths = c.in-Ok.ensures;
      finds = subst (λ (ps : List (List ℕ)). FindsLarge c.args.maker.now c.large_files.new.maker ps large) kept c.in_ok-large.ensures.large;
      are = c.in-Ok-add_places.ensures
          ∙ ap (λ (a : List ℕ). a ++ map (λ i. slice_index_or c.deref-4.result.now i 0) c.deref-5.result.now) c.new.ensures.items
          ∙ ap (λ (ps : List ℕ). map (λ i. slice_index_or ps i 0) c.deref-5.result.now) (c.deref-4.ensures.value ∙ c.in-Ok-kept_places.ensures ∙ ap (places_kept out) count)
          ∙ ap (map (λ i. slice_index_or (places_kept out (length paths)) i 0)) c.deref-5.ensures.value;
      told = subst (λ (n : ℕ). told (large_lines n (paths_at lot (map string_bytes paths)))) (ap (λ j. j.rows_of_a_session) c.in_ok-large.ensures.job)
          (subst (λ (ps : List (List ℕ)). told (large_lines limit (paths_at lot ps))) (ap texts c.deref-6.ensures.value ∙ words)
          (subst (λ (o : List ℕ). told (large_lines limit (paths_at o (texts c.deref-6.result.now)))) c.deref-7.ensures.value c.tell_large.ensures.told));
      same_opening = refl;
      same_job = refl;
    }
