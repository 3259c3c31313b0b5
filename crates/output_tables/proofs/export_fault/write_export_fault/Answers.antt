use Rattle.output_tables.proofs.export_fault.write_export_fault.Goals as goal

pub returns : goal.returns
returns g c = rw (c.number.ensures, c.name.ensures) at c.write_fault.ensures
