use Rattle.std.proofs.Common.{◌≡◌, None, rules}
use Rattle.flow_table.specs.Plans.{chosen_fault, kinds_of}
use Rattle.flow_table.proofs.MadePlans.{is_plan}
use Rattle.flow_table.proofs.plan.Plan.made.Goals as goal

pub invariant_of-result : goal.invariant_of-result
invariant_of-result c =
    let known = c.args.elements.now in
    let none : chosen_fault known c.args.choices c.args.length c.args.keys.now c.args.counters.now c.args.max_spread ≡ None = search rules in
    let keys : c.in_ok-keys.keys.items ≡ c.args.keys.now = search rules in
    let kinds : c.in_ok-kinds.kinds.items ≡ kinds_of known c.args.keys.now = search rules in
    let counters : c.in_ok-counters.counters.items ≡ c.args.counters.now = search rules in
    rw (keys, kinds, counters) (is_plan known c.args.choices c.args.length c.args.method c.args.keys.now c.args.counters.now c.args.max_spread none)
