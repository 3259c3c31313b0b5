use Rattle.std.proofs.Common.{inl, inr}
use Rattle.command_verify.proofs.comparing.open_with.Goals as goal

pub returns-in-Ok-clause-opens : goal.returns-in-Ok-clause-opens
returns-in-Ok-clause-opens g c = inl (record { by = c.in-Ok.by; is_made_by = c.in-Ok.ensures; opens_files = c.open_files.ensures.opens })

pub returns-in-Err-clause-opens : goal.returns-in-Err-clause-opens
returns-in-Err-clause-opens g c = inr (c.tell_fault.ensures.status, c.tell_fault.ensures.told)
