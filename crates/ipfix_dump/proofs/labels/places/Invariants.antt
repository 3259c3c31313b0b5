use Rattle.std.proofs.Common.{◌≡◌, None}
use Rattle.std.specs.Prelude.{All}
use Rattle.ipfix_dump.proofs.labels.places.Given as goal

abbrev pub invariant-loop : goal.invariant-loop
invariant-loop l = All (λ kept. kept ≡ None) l.places.items
