use Rattle.command_merge.proofs.reports.write_merge_fault.Goals as goal

pub returns : goal.returns
returns g c = rw (c.number.ensures, c.name.ensures) at c.write_fault.ensures
