use Rattle.std.proofs.Common.{refl}
use Rattle.jiff.specs.ZoneView.{plain_database, plain_zone}
use Rattle.jiff_tz.specs.declared.timezone.TimeZone.TheVariants.{UTC}
use Rattle.cli_inputs.proofs.ZoneNames.{same_zone}
use Rattle.cli_inputs.proofs.zones.borders_in.Goals as goal

pub returns-in-Ok-local_borders : goal.returns-in-Ok-local_borders
returns-in-Ok-local_borders c = record {
  zone = plain_zone c.in-Ok-get.zone;
  utc = λ named. same_zone _ (plain_zone c.in-Ok-get.zone) UTC refl (c.in-Ok-get.ensures.utc named);
  rules = plain_database c.in-Ok.zones;
  named = c.in-Ok-get.ensures.ok;
  are = c.in-Ok-local_borders.ensures;
}
