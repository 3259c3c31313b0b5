use Rattle.std.proofs.Common.{◌≡◌, ℕ, List, ap, ◌∙◌, map, refl, sym, subst, string_bytes}
use Rattle.std.specs.Borrow.{Bor}
use Rattle.period_collect.specs.Exporters.{AreExportersOf}
use Rattle.period_collect.specs.LeftOutFiles.{kept_of, paths_at}
use Rattle.period_collect.proofs.table_maker.run_period.Goals as goal

pub returns-clause-run : goal.returns-clause-run
returns-clause-run g c =
    let all : map string_bytes c.deref.result.now ≡ map string_bytes c.in_ok-paths.paths.items = ap (map string_bytes) c.deref.ensures.value in
    let texts = c.in_ok-words.ensures ∙ all in
    record {
      paths = c.in_ok-paths.paths.items;
      words = c.deref-6.result.now;
      with_exporters = c.job_with-job.result;
      to = record { out = c.new.result; made = c.in_ok-made.made; place = c.new-2.result };
      are_paths = c.in_ok-paths.ensures;
      are_words = ap (map (λ (w : Bor (List ℕ)). w.now)) c.deref-6.ensures.value ∙ c.in_ok-kept.ensures ∙ ap (kept_of c.args.out.now) (ap (map (λ (w : Bor (List ℕ)). w.now)) c.deref-2.ensures.value ∙ texts);
      is_job = record {
        exporters = c.deref-5.result;
        are_exporters = subst (AreExportersOf c.deref-6.result.now) (sym c.deref-5.ensures.value)
            (subst (λ (w : List (Bor (List ℕ))). AreExportersOf w c.in_ok-exporters.exporters.items) (c.deref-3.ensures.value ∙ sym c.deref-6.ensures.value) c.in_ok-exporters.ensures);
        same = c.job_with-job.ensures;
      };
      empty = c.new.ensures.items;
      same_made = c.in_ok-made.ensures.same;
      left_out = c.in_ok-made.ensures.left_out ∙ ap (paths_at c.args.out.now) (ap (map (λ (w : Bor (List ℕ)). w.now)) c.deref-4.ensures.value ∙ texts);
      runs = c.run_files_receipted-ended.ensures.collects;
      hindered = c.run_files_receipted-ended.ensures.hindered;
      same_job = refl;
    }
