use Rattle.command_merge.proofs.reports.write_merge_fault_text.Goals as goal

pub returns-in-Session : goal.returns-in-Session
returns-in-Session g c = rw c.in-Session.is (rw (c.number.ensures, c.name.ensures) at c.write_inner.ensures)

pub returns-in-Row : goal.returns-in-Row
returns-in-Row g c = rw c.in-Row.is (rw (c.number-in-Row.ensures, c.name-in-Row.ensures) at c.write_inner-in-Row.ensures)
