use Rattle.std.proofs.Common.{refl, inl, inr}
use Rattle.exporter_names.proofs.recorded_names.file_name.Goals as goal

pub returns-in-Some : goal.returns-in-Some
returns-in-Some c = record { name_is = inr (c.in-Some.parts.0.now, c.in-Some.ensures.0); last = c.in-Some.ensures.1 }

pub returns-in-None : goal.returns-in-None
returns-in-None c = record { name_is = inl refl; last = c.in-None.ensures }
