use Rattle.std.proofs.Common.{◌≡◌, ℕ, List, length, Some, OnOk, IfErr, refl, subst, arith, rules}
use Rattle.ipfix_elements.specs.declared.cell.Cell.{Cell}
use Rattle.flow_table.specs.Flows.{flow_total, shares_of}
use Rattle.flow_table.specs.Rows.{kept_at, place_part}
use Rattle.flow_table.specs.Totals.{Total, joined, IsLargeAt}
use Rattle.flow_table.specs.Words.{key_words}
use Rattle.flow_table.specs.declared.table_fault.TableFault.TheVariants.{SumTooLarge}
use Rattle.flow_table.proofs.FlowAdded.{add_of_plan, add_totals, add_too_large, flow_total_is, picked_shares, shares_long}
use Rattle.flow_table.proofs.Holding.{on_ok}
use Rattle.flow_table.proofs.Kept.{kept_small}
use Rattle.flow_table.proofs.Runs.{large_last}
use Rattle.flow_table.proofs.adding.add_at.Goals.{After-add}
use Rattle.flow_table.proofs.adding.add_at.Goals as goal

-- what is added: the flow's shares, a number for each counter of the plan, at the words of the key
record AddsShares (c : After-add) (key : List Cell) : Type 0 where
  is : c.pick-sums.result.now ≡ shares_of c.args.plan.now c.args.flow.span.start c.args.flow.span.end c.args.room.now.counters.items c.args.interval
  long : length c.pick-sums.result.now ≡ length c.args.plan.now.counters
  are : key_words c.args.plan.now.kinds key ≡ Some c.deref-4.result.now

added : (c : After-add) (key : List Cell) → key_words c.args.plan.now.kinds key ≡ Some c.args.room.now.words.items → AddsShares c key
added c key has =
    let counters = c.args.room.now.counters.items in
    let sums = c.pick-sums.result.now in
    let is = picked_shares c.args.plan.now c.args.flow c.args.interval counters c.read_shares.new.shares.items sums c.requires.intervals c.requires.within (search rules) (search rules) in
    record {
      is = is;
      long = shares_long c.args.plan.now c.args.flow.span.start c.args.flow.span.end c.args.interval counters sums is c.requires.counters;
      are = search rules;
    }

pub returns-clause-rows : goal.returns-clause-rows
returns-clause-rows c = λ key has of.
    let adds = added (goal.at.returns-clause-rows c).After-add key has in
    add_of_plan c.args.plan.now c.args.rows.now c.add.new.self c.args.interval key c.deref-4.result.now 1 c.pick-sums.result.now c.add.result adds.are (omega arith) adds.long
    c.add.ensures.alike c.add.ensures.ok c.add.ensures.err of

pub returns-clause-ok : goal.returns-clause-ok
returns-clause-ok c = λ key has of.
    let adds = added (goal.at.returns-clause-ok c).After-add key has in
    subst (λ (t : Total). OnOk c.add.result ((k : ℕ) (q : List Cell) → kept_at c.args.plan.now c.add.new.self k q ≡ joined (kept_at c.args.plan.now c.args.rows.now k q) (place_part c.args.interval key t k q)))
    (flow_total_is c.args.plan.now c.args.flow.span.start c.args.flow.span.end c.args.interval c.args.room.now.counters.items c.pick-sums.result.now adds.is)
    (add_totals c.args.plan.now c.args.rows.now c.add.new.self c.args.interval key c.deref-4.result.now 1 c.pick-sums.result.now c.add.result adds.are (omega arith) adds.long
    c.add.ensures.alike of c.add.ensures.ok)

pub returns-clause-large : goal.returns-clause-large
returns-clause-large c = λ key has of.
    let adds = added (goal.at.returns-clause-large c).After-add key has in
    let total = flow_total c.args.plan.now c.args.flow.span.start c.args.flow.span.end c.args.room.now.counters.items c.args.interval in
    large_last (kept_at c.args.plan.now c.args.rows.now) total key c.args.interval (Some c.args.interval) c.add.result refl
    (subst (λ (t : Total). IfErr c.add.result (λ e. e ≡ SumTooLarge → IsLargeAt (joined (kept_at c.args.plan.now c.args.rows.now c.args.interval key) (Some t))))
    (flow_total_is c.args.plan.now c.args.flow.span.start c.args.flow.span.end c.args.interval c.args.room.now.counters.items c.pick-sums.result.now adds.is)
    (add_too_large c.args.plan.now c.args.rows.now c.add.new.self c.args.interval key c.deref-4.result.now 1 c.pick-sums.result.now c.add.result adds.are (omega arith) adds.long
    c.add.ensures.alike of c.add.ensures.large))

pub returns-clause-fits : goal.returns-clause-fits
returns-clause-fits c = on_ok c.add.result (λ k q big. kept_small c.args.plan.now c.add.new.self k q c.add.ensures.small big)
