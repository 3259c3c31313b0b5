use Rattle.std.proofs.Common.{◌∙◌, inl, inr, refl, sym}
use Rattle.command_verify.proofs.Empty.{empty_of, filled_of}
use Rattle.command_verify.proofs.comparing.compare_files.Goals as goal

pub returns-then-is_empty-clause-compares : goal.returns-then-is_empty-clause-compares
returns-then-is_empty-clause-compares g c = inl (empty_of c.args.job.now.again.now (sym c.is_empty.ensures ∙ c.if-is_empty.true), c.compare_alone.ensures.compares)

pub returns-in-Some-clause-compares : goal.returns-in-Some-clause-compares
returns-in-Some-clause-compares g c =
    inr (filled_of c.args.job.now.again.now (sym c.is_empty.ensures ∙ c.if-is_empty.false), (rw c.in-Some.is (c.tell_merged.ensures.status, c.tell_merged.ensures.told, refl)))

pub returns-in-None-clause-compares : goal.returns-in-None-clause-compares
returns-in-None-clause-compares g c =
    inr (filled_of c.args.job.now.again.now (sym c.is_empty.ensures ∙ c.if-is_empty.false), (rw c.in-None.is c.compare_given.ensures.compares))
