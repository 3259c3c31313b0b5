-- When a day's interval begins, and a time that is appended to those before it.
use Rattle.std.specs.Prelude.{◌≡◌, ◌⊎◌, ℕ, ◌-◌, ◌<◌, ◌≤◌, List, [], ◌∷◌, ◌++◌, length, slice_index_or, Option, Some, None}
use Rattle.jiff_core.specs.declared.civil.date.Date.{Date}
use Rattle.jiff_tz.specs.declared.timezone.TimeZone.{TimeZone}
use Rattle.local_days.specs.LocalDays.{BeginsAt, IsStart}
use Rattle.local_days.specs.declared.local_interval.LocalInterval.{LocalInterval}

-- the date begins at no time that there is a number for
abbrev pub BeginsNever : TimeZone → Date → Type 0
BeginsNever zone date = (time : ℕ) → BeginsAt zone date time → ⊥

-- no interval begins on this day
abbrev pub StartsNever : LocalInterval → TimeZone → ℕ → Type 0
StartsNever interval zone day = (time : ℕ) → IsStart interval zone day time → ⊥

-- it is later than the last and is appended
pub record Appends (old : List ℕ) (time : ℕ) (new : List ℕ) : Type 0 where
  pub later : 0 < length old → slice_index_or old (length old - 1) 0 < time
  pub are : new ≡ old ++ time ∷ []

-- it is not, and nothing is
pub record IsPassed (old : List ℕ) (time : ℕ) (new : List ℕ) : Type 0 where
  pub some : 0 < length old
  pub upto : time ≤ slice_index_or old (length old - 1) 0
  pub same : new ≡ old

abbrev pub PushesLater : List ℕ → ℕ → List ℕ → Type 0
PushesLater old time new = IsPassed old time new ⊎ Appends old time new

-- the same of a time, if there is one
abbrev pub PushesStart : List ℕ → Option ℕ → List ℕ → Type 0
PushesStart old None new = new ≡ old
PushesStart old (Some time) new = PushesLater old time new
