use Rattle.std.proofs.Common.{◌≡◌, ℤ, pos, ◌+ℤ◌, ◌∙◌, ap, ap₂, sym, arith, FitsSigned, w64}
use Rattle.std.proofs.lemmas.Int.{to_z-of_z}
use Rattle.jiff.specs.ZoneView.{plain_zone}
use Rattle.jiff_core.proofs.SignedLemmas.{signed_arith}
use Rattle.jiff_core.specs.Timestamp.{nanos_of_seconds}
use Rattle.jiff_core.specs.declared.timestamp.Timestamp.{Timestamp}
use Rattle.jiff_tz.specs.Zone.{offset_at}
use Rattle.jiff_tz.specs.declared.timezone.TimeZone.{TimeZone}
use Rattle.local_days.proofs.shown_day.date_shown.Goals as goal

pub returns : goal.returns
returns c =
    let shown = c.to_zoned.result.inner in
    let fits : FitsSigned w64 c.signed.result = omega (arith, signed_arith, c.requires, c.signed.ensures) in
    let seconds = simp to_z-of_z at c.in-Ok.ensures.value in
    let instant : shown.timestamp.nanosecond ≡ nanos_of_seconds (pos c.args.second) = ap (λ (t : Timestamp). t.nanosecond) c.to_zoned.ensures.instant ∙ seconds ∙ ap nanos_of_seconds c.signed.ensures in
    let offset : shown.offset.seconds ≡ offset_at (plain_zone c.args.zone) (nanos_of_seconds (pos c.args.second)) =
    shown.offset_is ∙ ap₂ (λ (zone : TimeZone) (time : ℤ). offset_at zone time) c.to_zoned.ensures.zone instant in
    record {
      clock = shown.datetime;
      of_date = sym c.date.ensures;
      shows = shown.shows ∙ ap₂ (λ (time seconds : ℤ). time +ℤ nanos_of_seconds seconds) instant offset;
    }
