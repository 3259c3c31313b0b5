use Rattle.command_dump.proofs.dump_fault.write_dump_fault.Goals as goal

pub returns : goal.returns
returns g c =
    let written = c.write_fault.ensures in
    record { told = rw (c.number.ensures, c.name.ensures) at written.told; failed = written.failed; kept = written.kept }
