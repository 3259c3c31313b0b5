use Rattle.std.proofs.Common.{inl, inr}
use Rattle.command_verify.proofs.comparing.compare_mapped.Goals as goal

pub returns-in-Ok-clause-compares : goal.returns-in-Ok-clause-compares
returns-in-Ok-clause-compares g c =
    inr (c.in-Ok.maps, rw (c.deref.ensures.value, c.deref-2.ensures.value) at c.in-Ok.ensures.maps, rw c.in-Ok.ensures.silent at c.compare_with.ensures.compares)

pub returns-in-Err-clause-compares : goal.returns-in-Err-clause-compares
returns-in-Err-clause-compares g c = inl (rw c.deref.ensures.value at c.in-Err.ensures.told)
