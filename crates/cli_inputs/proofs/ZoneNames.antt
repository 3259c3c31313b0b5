-- The zone of a name.
use Rattle.std.proofs.Common.{◌≡◌, Result, Ok}
use Rattle.jiff_tz.specs.declared.timezone.TimeZone.{TimeZone}

pub same_zone : {E : Type 0} (r : Result TimeZone E) (a b : TimeZone) → r ≡ Ok a → r ≡ Ok b → a ≡ b
same_zone r a b one two = cc
