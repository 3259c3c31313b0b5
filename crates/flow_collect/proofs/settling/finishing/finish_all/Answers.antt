use Rattle.std.proofs.Common.{rules, List, Option, ap, ◌∙◌, sym, subst, map}
use Rattle.std.specs.Prelude.{All}
use Rattle.std.proofs.lemmas.List.Sorted.{All-permutation}
use Rattle.flow_table.specs.Fitting.{FitsPlan}
use Rattle.flow_table.specs.Plans.{PlanValue}
use Rattle.flow_table.specs.Tables.{IsTable, IsTooLarge}
use Rattle.flow_collect.specs.Dealt.{IsPaired}
use Rattle.flow_table.specs.declared.table.RowPlace.{RowPlace}
use Rattle.flow_collect.specs.Failures.{NamesLarge, large_failure}
use Rattle.flow_collect.specs.Finished.{ended_link}
use Rattle.flow_collect.specs.LinkEnds.{StandsForLinkEnds, IsEnded}
use Rattle.flow_collect.specs.declared.collected.FilteredReport.{FilteredReport}
use Rattle.flow_collect.specs.declared.failure.CollectFailure.{CollectFailure}
use Rattle.flow_collect.proofs.SettleLists.{came_over, link_ends_ended}
use Rattle.flow_collect.proofs.Failures.{named}
use Rattle.flow_collect.proofs.settling.finishing.finish_all.Goals as goal

pub settle_all-requires : goal.settle_all-requires
settle_all-requires g c =
    let P = IsPaired (map ended_link c.args.ended.items) in
    subst (All P) (sym c.from_vec.ensures.items) (All-permutation P _ _ c.in_ok-all.ensures.ends c.requires.paired)

pub returns-in-Err-SumTooLarge-clause-large : goal.returns-in-Err-SumTooLarge-clause-large
returns-in-Err-SumTooLarge-clause-large g c = λ plan taken.
    let failure = c.large.ensures ∙ ap (λ (reports : List FilteredReport). large_failure c.in_ok-row.row reports) c.deref.ensures.value in
    let ended = subst (All IsEnded) (sym c.from_vec.ensures.items) (All-permutation IsEnded _ _ c.in_ok-all.ensures.ends (link_ends_ended plan _ taken)) in
    let table = subst (StandsForLinkEnds c.in_ok-all.all.partial) (sym c.from_vec.ensures.items) c.in_ok-all.ensures.table in
    let is = c.in_ok-all.ensures.plan plan taken in
    record {
      parts = c.in_ok-parts.parts;
      records = table.records;
      came = came_over _ _ c.in_ok-parts.parts _ c.in_ok-parts.ensures ended table;
      large = subst (λ (p : PlanValue). IsTooLarge p table.records) is (c.in-Err-SumTooLarge.ensures.large table.records table.stands c.in-Err-SumTooLarge.field-0-is);
      row_is = subst (λ (row : Option RowPlace). NamesLarge plan table.records c.in_ok-parts.parts.sessions.items row) (sym (ap (λ (x : CollectFailure). x.row) failure))
          (named plan c.in_ok-all.all.partial table.records c.in_ok-parts.parts.sessions.items c.in_ok-row.row is table.stands (c.in_ok-row.ensures.row table.records table.stands) (c.in_ok-row.ensures.none table.records table.stands) (search rules));
      failure_is = failure ∙ ap (λ (row : Option RowPlace). large_failure row c.in_ok-parts.parts.sessions.items) (sym (ap (λ (x : CollectFailure). x.row) failure));
    }

pub returns-clause-ok : goal.returns-clause-ok
returns-clause-ok g c = λ plan taken.
    let ended = subst (All IsEnded) (sym c.from_vec.ensures.items) (All-permutation IsEnded _ _ c.in_ok-all.ensures.ends (link_ends_ended plan _ taken)) in
    let table = subst (StandsForLinkEnds c.in_ok-all.all.partial) (sym c.from_vec.ensures.items) c.in_ok-all.ensures.table in
    let is = c.in_ok-all.ensures.plan plan taken in
    record {
      records = table.records;
      came = came_over _ _ c.in_ok-parts.parts _ c.in_ok-parts.ensures ended table;
      table_is = subst (λ (p : PlanValue). IsTable p table.records c.in-Ok.table) is (c.in-Ok.ensures.table table.records table.stands);
      small = subst (λ (p : PlanValue). IsTooLarge p table.records → ⊥) is (c.in-Ok.ensures.small table.records table.stands);
      fits = subst (λ (p : PlanValue). FitsPlan p c.in-Ok.table) is (c.in-Ok.ensures.fits table.records table.stands);
    }
