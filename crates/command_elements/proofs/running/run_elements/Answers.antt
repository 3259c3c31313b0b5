use Rattle.std.proofs.Common.{ℕ, List, inr, sym, subst}
use Rattle.std.specs.Option.{option_copied}
use Rattle.report_writing.specs.Told.{AreToldTo}
use Rattle.report_writing.proofs.LinesTold.{both_told}
use Rattle.command_elements.specs.ErrorLines.{failed_line, none_line}
use Rattle.command_elements.proofs.Joined.{none_written}
use Rattle.command_elements.proofs.running.run_elements.Goals as goal

pub returns-in-Some-clause-runs : goal.returns-in-Some-clause-runs
returns-in-Some-clause-runs g c =
    let known = c.in-Some.elements in
    let loads = c.in-Some.ensures.loads in
    let list = c.list_known.ensures in
    record {
      statuses = list.statuses;
      listed = λ well.
          let shows = list.listed well in
          record {
            known = known;
            lines = loads.0;
            finds = record { loaded = loads.1; fitting = shows.answered };
            written = shows.written;
            told = subst (λ e. AreToldTo g.E.WriteLines.lines c.args.err.now e loads.0) (sym (list.untold well)) loads.2;
          };
      none = λ opened. inr (record {
        known = known;
        lines = loads.0;
        finds = record { loaded = loads.1; fitting = (list.none opened).answered };
        told = both_told _ _ _ _ _ loads.0 none_line loads.2 (list.none_told opened) list.kept;
      });
      untouched = λ opened. none_written known (option_copied c.args.word) _ _ (list.none opened).answered (list.none opened).written;
      failed = λ fails. record {
        known = known;
        lines = loads.0;
        loaded = loads.1;
        told = both_told _ _ _ _ _ loads.0 failed_line loads.2 (list.failed fails) list.kept;
      };
    }
