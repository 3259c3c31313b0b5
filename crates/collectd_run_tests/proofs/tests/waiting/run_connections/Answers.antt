use Rattle.collectd_run_tests.proofs.tests.waiting.run_connections.Goals as goal

pub returns-clause-accepted : goal.returns-clause-accepted
returns-clause-accepted g c = λ ran.
    let runs = c.run_tcp.ensures.collects.ran ran in
    (runs.sources, runs.had.came, runs.had.one_each)
