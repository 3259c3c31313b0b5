use Rattle.flow_table.proofs.Faults.{among_first, among_second}
use Rattle.flow_table.proofs.checking.is_among.Goals as goal

pub returns-then-is_among_keys : goal.returns-then-is_among_keys
returns-then-is_among_keys c = among_first _ c.args.element c.args.side c.args.keys.now c.args.counters.now c.if-is_among_keys.true c.is_among_keys.ensures

pub returns-else-is_among_keys : goal.returns-else-is_among_keys
returns-else-is_among_keys c =
    among_second _ _ c.args.element c.args.side c.args.keys.now c.args.counters.now c.if-is_among_keys.false c.is_among_keys.ensures c.contains.ensures.value
