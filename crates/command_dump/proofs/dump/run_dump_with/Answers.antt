use Rattle.std.proofs.Common.{refl, rules}
use Rattle.report_writing.proofs.LinesTold.{both_told}
use Rattle.command_dump.proofs.FullDumped.{never_opened, retold}
use Rattle.command_dump.proofs.dump.run_dump_with.Goals as goal

pub returns-in-None-clause-runs : goal.returns-in-None-clause-runs
returns-in-None-clause-runs g c =
    let loads = c.in-None.ensures.loads in
    record {
      loaded = λ read. absurd (read refl);
      stopped = λ is. record { lines = loads.0; stops = loads.1; told = loads.2 };
      untouched = λ is. (search rules, search rules);
    }

pub returns-clause-runs : goal.returns-clause-runs
returns-clause-runs g c =
    let loads = c.in-Some.ensures.loads in
    let dump = c.dump_to_end.ensures in
    record {
      loaded = λ read. record {
        known = c.in-Some.elements;
        lines = loads.0;
        loaded = loads.1;
        runs = retold (λ full tells. record { said = tells.said; is_said = tells.is_said; told = both_told _ _ _ _ _ loads.0 _ loads.2 tells.told dump.kept })
            (λ more told. both_told _ _ _ _ _ loads.0 more loads.2 told dump.kept) dump.runs;
      };
      stopped = never_opened c.dump_to_end.result dump.runs.statuses;
      untouched = never_opened c.dump_to_end.result dump.runs.statuses;
    }
