-- Whether data records came in the domains of a session.
use Rattle.std.specs.Prelude.{ℕ, Bool, nat_lt, List}
use Rattle.std.specs.List.{list_any}
use Rattle.std.specs.Map.{values_of}
use Rattle.ipfix_datagrams.specs.declared.reach.Reach.{Reach}

-- they came in one of them
abbrev pub has_records : List (ℕ × Reach) → Bool
has_records reaches = list_any (λ r. nat_lt 0 r.came) (values_of reaches)
