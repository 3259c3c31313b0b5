use Rattle.flow_filter.proofs.Families.{other_family}
use Rattle.flow_filter.proofs.value_range.ipv4_network_in.Goals as goal

pub returns-in_default : goal.returns-in_default
returns-in_default c w is = other_family c.args.text.now c.in-Ok.prefix w c.in-Ok.ensures.parsed c.if-prefix-eq32.false is
