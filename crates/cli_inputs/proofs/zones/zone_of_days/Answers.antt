use Rattle.std.proofs.Common.{refl}
use Rattle.jiff.specs.ZoneView.{plain_zone}
use Rattle.jiff_tz.specs.declared.timezone.TimeZone.TheVariants.{UTC}
use Rattle.cli_inputs.proofs.ZoneNames.{same_zone}
use Rattle.cli_inputs.proofs.zones.zone_of_days.Goals as goal

pub returns-in-Ok-clause-zone : goal.returns-in-Ok-clause-zone
returns-in-Ok-clause-zone c = record {
  utc = λ named. same_zone _ (plain_zone c.in-Ok.zone) UTC refl (c.in-Ok.ensures.utc named);
  named = c.in-Ok.ensures.ok;
}
