use Rattle.command_collect.proofs.collect_fault.write_collect_fault.Goals as goal

pub returns : goal.returns
returns g c = rw (c.number.ensures, c.name.ensures) at c.write_fault.ensures
