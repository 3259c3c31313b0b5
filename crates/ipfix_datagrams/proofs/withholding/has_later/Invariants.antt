use Rattle.std.proofs.Common.{◌≡◌, take}
use Rattle.std.specs.Prelude.{option_copied}
use Rattle.std.specs.List.{list_any}
use Rattle.ipfix_datagrams.specs.Late.{is_later, time_in}
use Rattle.ipfix_datagrams.proofs.withholding.has_later.Given as goal

abbrev pub invariant-loop-id : goal.invariant-loop-id
invariant-loop-id l = l.found ≡ list_any (λ id. is_later l.reorder l.at (time_in (option_copied l.times) id)) (take l.id-index l.ids)
