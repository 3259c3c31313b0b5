use Rattle.std.proofs.Common.{inl, subst, sym}
use Rattle.command_tables.specs.Named.{AreFilesOf}
use Rattle.command_tables.proofs.days.taking.take_day.Goals as goal

pub returns : goal.returns
returns g c = inl (
  c.deref-2.result,
  record {
    names = c.in-Ok.names.items;
    of_periods = c.in-Ok.ensures;
    files = subst (AreFilesOf c.in-Ok.names.items) (sym c.deref-2.ensures.value) (subst (λ names. AreFilesOf names c.in-Ok-files_of.parts.items) c.deref.ensures.value c.in-Ok-files_of.ensures);
  },
  c.take_parts.ensures,
)
