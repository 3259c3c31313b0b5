use Rattle.std.proofs.Common.{map, refl}
use Rattle.receipt_merging.specs.Parts.{part_value}
use Rattle.table_parts.proofs.PartsRead.{first_unread, parts_more}
use Rattle.table_parts.proofs.parts.read_parts.Goals as goal

pub returns-in-Err-Receipt-clause-unread : goal.returns-in-Err-Receipt-clause-unread
returns-in-Err-Receipt-clause-unread g c =
    rw c.in-Err-Receipt.field-0-is
    (first_unread (g.T.ReadText.has c.args.texts.now) c.args.plan.now c.args.all.now c.loop-place.place _ _ c.loop-place-test.true refl (g.T.ReadText.refuses c.args.texts.now) (map part_value c.loop-place.parts.items) c.in-Err-Receipt.why c.loop-place.invariant
    (rw c.in-Err-Receipt.field-0-is at c.in-Err-Receipt.ensures.lacks))

pub loop-place-preserved : goal.loop-place-preserved
loop-place-preserved g c =
    rw c.in-Ok-push.ensures.items
    (parts_more (g.T.ReadText.has c.args.texts.now) c.args.plan.now c.args.all.now c.loop-place.place _ _ c.loop-place-test.true refl part_value c.loop-place.parts.items c.in-Ok-read_part.part c.loop-place.invariant c.in-Ok-read_part.ensures.read)
