use Rattle.std.proofs.Common.{None, ◌≡◌, ◌++◌, List, subst, sym, inr}
use Rattle.std.proofs.lemmas.Result.{err_from_is_err_and}
use Rattle.ipfix_message.specs.declared.record.DataRecord.{DataRecord}
use Rattle.flow_table.specs.Partials.{totals_at, HoldsTable, LargeWith}
use Rattle.flow_table.specs.declared.rows.Rows.{Rows}
use Rattle.flow_table.specs.declared.table_fault.TableFault.TheVariants.{SumTooLarge}
use Rattle.flow_table.proofs.Holding.{count_too_large, merged_holds, merged_large, stands_err, stands_fault}
use Rattle.flow_table.proofs.Named.{large_named, large_there, names_err}
use Rattle.flow_table.proofs.merging.join.Goals.{After-take_interval}
use Rattle.flow_table.proofs.merging.join.Goals as goal

pub returns-in_err-tally-clause-stands : goal.returns-in_err-tally-clause-stands
returns-in_err-tally-clause-stands c =
    let p = err_from_is_err_and c.from_residual.result c.from_residual.ensures.1 in
    λ rs qs a b. stands_err c.args.plan.now c.args.rows.now c.args.tally.now (rs ++ qs) c.from_residual.result p.0 p.1
    (λ same. inr (inr (count_too_large c.args.plan.now c.args.rows.now c.args.tally.now c.args.more.now rs qs a b.tally_is c.in_err-tally.ensures.large.1)))

pub returns-in_err-tally-clause-names : goal.returns-in_err-tally-clause-names
returns-in_err-tally-clause-names c =
    let p = err_from_is_err_and c.from_residual.result c.from_residual.ensures.1 in
    λ rs qs a b. names_err c.args.plan.now (record c.args.room.now { last = None }) (rs ++ qs) c.from_residual.result p.0 p.1
    (λ same. count_too_large c.args.plan.now c.args.rows.now c.args.tally.now c.args.more.now rs qs a b.tally_is c.in_err-tally.ensures.large.1)

-- the totals of the row that is named
named : (c : After-take_interval) (rs qs : List DataRecord) → HoldsTable c.args.plan.now c.args.rows.now c.args.tally.now rs → HoldsTable c.args.plan.now c.args.others c.args.more.now qs → c.in-Err.fault ≡ SumTooLarge
    → HoldsTable c.args.plan.now c.replace-own.result c.args.tally.now rs × LargeWith c.args.plan.now c.replace-own.result (totals_at c.args.plan.now qs) c.take_interval.new.self
named c rs qs a b same =
    let own = subst (λ (x : Rows). HoldsTable c.args.plan.now x c.args.tally.now rs) (sym c.replace-own.ensures.value) a in (
      own,
      merged_large c.args.plan.now c.replace-own.result c.args.others c.args.tally.now c.args.more.now rs qs c.take_interval.new.self own b (c.in-Err.ensures.wide same) c.merge.new.words.items
          (λ w ws is. (c.take_interval.ensures.last w ws is, c.take_interval.ensures.words w ws is)) (c.in-Err.ensures.large same),
    )

pub returns-in-Err-clause-stands : goal.returns-in-Err-clause-stands
returns-in-Err-clause-stands c = λ rs qs a b. stands_fault c.args.plan.now c.replace-own.new.dest c.in_ok-tally.field-0 (rs ++ qs) c.in-Err.fault (λ same.
    let m = named (goal.at.returns-in-Err-clause-stands c).After-take_interval rs qs a b same in
    large_there c.args.plan.now c.replace-own.result c.args.tally.now c.take_interval.new.self rs qs m.0 m.1)

pub returns-in-Err-clause-names : goal.returns-in-Err-clause-names
returns-in-Err-clause-names c = λ rs qs a b large.
    let m = named (goal.at.returns-in-Err-clause-names c).After-take_interval rs qs a b cc in
    large_named c.args.plan.now c.replace-own.result c.args.tally.now c.take_interval.new.self rs qs m.0 m.1

pub returns-in-Ok-clause-stands : goal.returns-in-Ok-clause-stands
returns-in-Ok-clause-stands c =
    let counts = c.in_ok-tally.ensures.ok in
    λ rs qs a b.
    let own = subst (λ (x : Rows). HoldsTable c.args.plan.now x c.args.tally.now rs) (sym c.replace-own.ensures.value) a in
    merged_holds c.args.plan.now c.replace-own.result c.args.others c.in-Ok.both c.args.tally.now c.args.more.now c.in_ok-tally.field-0 rs qs own b c.in-Ok.ensures.alike.1 counts.0 counts.1
    c.in-Ok.ensures.alike.0 c.in-Ok.ensures.ok c.in-Ok.ensures.small
