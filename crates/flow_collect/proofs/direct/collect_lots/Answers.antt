use Rattle.std.proofs.Common.{rules, List, Option, ap, ◌∙◌, subst, sym}
use Rattle.flow_table.specs.Fitting.{FitsPlan}
use Rattle.flow_table.specs.Plans.{PlanValue}
use Rattle.flow_table.specs.declared.table.RowPlace.{RowPlace}
use Rattle.flow_collect.specs.Failures.{NamesLarge, large_failure}
use Rattle.flow_collect.specs.Headline.{all_of}
use Rattle.flow_collect.specs.declared.collected.FilteredReport.{FilteredReport}
use Rattle.flow_collect.specs.declared.failure.CollectFailure.{CollectFailure}
use Rattle.flow_collect.proofs.Failures.{named}
use Rattle.flow_collect.proofs.LotLists.{lot_added_up, lot_too_large}
use Rattle.flow_collect.proofs.direct.collect_lots.Goals as goal

pub returns-in-Err-SumTooLarge-clause-large : goal.returns-in-Err-SumTooLarge-clause-large
returns-in-Err-SumTooLarge-clause-large g c =
    let lot = c.in_ok-lot.ensures in
    let failure = c.large.ensures ∙ ap (λ (reports : List FilteredReport). large_failure c.in_ok-row.row reports) c.deref.ensures.value in
    record {
      fault_is = ap (λ (x : CollectFailure). x.fault) failure;
      due = lot_too_large g.S.Source.seen _ _ _ lot (c.in-Err-SumTooLarge.ensures.large (all_of lot.records) lot.stands c.in-Err-SumTooLarge.field-0-is);
      of_large = record {
        afters = c.in_ok-lot.lot.sources.items;
        reports = c.in_ok-lot.lot.sessions.items;
        records = lot.records;
        given = lot.given;
        row_is = subst (λ (row : Option RowPlace). NamesLarge c.args.plan.now (all_of lot.records) c.in_ok-lot.lot.sessions.items row) (sym (ap (λ (x : CollectFailure). x.row) failure))
            (named c.args.plan.now c.in_ok-lot.lot.partial (all_of lot.records) c.in_ok-lot.lot.sessions.items c.in_ok-row.row lot.plan_is lot.stands (c.in_ok-row.ensures.row (all_of lot.records) lot.stands) (c.in_ok-row.ensures.none (all_of lot.records) lot.stands) (search rules));
        session_is = ap (λ (x : CollectFailure). x.session) failure;
      };
    }

pub returns-clause-headline : goal.returns-clause-headline
returns-clause-headline g c =
    let lot = c.in_ok-lot.ensures in
    let table = c.in-Ok.ensures in
    record {
      records = lot.records;
      given = lot.given;
      added_up = lot_added_up g.S.Source.seen _ _ _ lot c.in-Ok.table (table.table (all_of lot.records) lot.stands) (table.small (all_of lot.records) lot.stands);
    }

pub returns-clause-fits : goal.returns-clause-fits
returns-clause-fits g c =
    let lot = c.in_ok-lot.ensures in
    subst (λ (p : PlanValue). FitsPlan p c.in-Ok.table) lot.plan_is (c.in-Ok.ensures.fits (all_of lot.records) lot.stands)
