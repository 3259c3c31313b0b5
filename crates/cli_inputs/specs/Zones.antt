-- The borders between local days or months, in a time zone.
use Rattle.std.specs.Prelude.{◌≡◌, ℕ, List, codes, Option, Some, None, option_map, Vec}
use Rattle.std.specs.declared.alloc.Global.{Global}
use Rattle.std.specs.Borrow.{Bor}
use Rattle.jiff_tz.specs.Database.{lower, IsZoneNamed}
use Rattle.jiff_tz.specs.declared.db.TimeZoneDatabase.{TimeZoneDatabase}
use Rattle.jiff_tz.specs.declared.timezone.TimeZone.{TimeZone}
use Rattle.jiff_tz.specs.declared.timezone.TimeZone.TheVariants.{UTC}
use Rattle.local_days.specs.LocalDays.{AreBorders}
use Rattle.local_days.specs.declared.local_interval.LocalInterval.{LocalInterval}
use Rattle.local_days.specs.declared.local_interval.LocalInterval.TheVariants.{Day, Month}
use Rattle.table_receipts.specs.Values.{IntoValue}
use Rattle.table_receipts.specs.declared.receipt.MergedInterval.{MergedInterval}
use Rattle.table_receipts.specs.declared.receipt.MergedInterval.TheVariants as merged

-- the name of the zone that is taken: UTC where none is named
abbrev pub zone_name : Option (Bor (List ℕ)) → List ℕ
zone_name None = codes "UTC"
zone_name (Some name) = name.now

-- they are those of these intervals in a zone whose rules were found under the name, and in UTC exactly if that is named, in any
-- letter case
pub record AreOfZone (interval : LocalInterval) (name borders : List ℕ) : Type 0 where
  pub zone : TimeZone
  pub utc : lower name ≡ codes "utc" → zone ≡ UTC
  pub rules : TimeZoneDatabase
  pub named : IsZoneNamed rules name zone
  pub are : AreBorders interval zone borders

-- a zone whose rules are those under the name, and UTC if that is named, in any letter case
pub record IsZoneOf (rules : TimeZoneDatabase) (name : List ℕ) (zone : TimeZone) : Type 0 where
  pub utc : lower name ≡ codes "utc" → zone ≡ UTC
  pub named : IsZoneNamed rules name zone

-- there are borders exactly if local intervals were asked for, and then those of these
abbrev pub AreBordersFor : Option LocalInterval → List ℕ → Option (Vec ℕ Global) → Type 0
AreBordersFor None name None = Unit {0}
AreBordersFor None name (Some borders) = ⊥
AreBordersFor (Some interval) name None = ⊥
AreBordersFor (Some interval) name (Some borders) = AreOfZone interval name borders.items

abbrev pub merged_interval : LocalInterval → MergedInterval
merged_interval Day = merged.Day
merged_interval Month = merged.Month

-- what a receipt says of the rows is into what they are merged, and in the zone of that name
abbrev pub into_told : Option LocalInterval → List ℕ → Option IntoValue
into_told into name = option_map (λ interval. record { interval = merged_interval interval; zone = name }) into
