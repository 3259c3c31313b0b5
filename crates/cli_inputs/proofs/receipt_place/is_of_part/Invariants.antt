use Rattle.std.proofs.Common.{take}
use Rattle.std.specs.Prelude.{All}
use Rattle.cli_inputs.specs.ReceiptPlaces.{HasNoFileOf}
use Rattle.cli_inputs.proofs.receipt_place.is_of_part.Given as goal

-- it has no file of those so far
abbrev pub invariant-loop-part : goal.invariant-loop-part
invariant-loop-part g l = All (HasNoFileOf (g.F.CompareFiles.differ l.fn.files l.fn.path)) (take l.part-index l.fn.parts)
