use Rattle.std.proofs.lemmas.Slice.Zip.{AllZip-long}
use Rattle.collectd_run_tests.proofs.tests.waiting.run_paths.Goals as goal

pub returns : goal.returns
returns g c = λ ran.
    let runs = c.run_files.ensures.collects.ran ran in
    (runs.sources, runs.had.came, AllZip-long _ _ _ runs.had.one_each)
