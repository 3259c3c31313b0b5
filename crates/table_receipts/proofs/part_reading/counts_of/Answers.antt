use Rattle.std.proofs.Common.{ap}
use Rattle.std.specs.Prelude.{codes}
use Rattle.json.specs.Find.{get}
use Rattle.table_receipts.specs.Objects.{counts_json}
use Rattle.table_receipts.proofs.Same.{counts_same}
use Rattle.table_receipts.proofs.part_reading.counts_of.Goals as goal

pub returns : goal.returns
unfolding counts_json
returns c d fits is =
    counts_same _ d (c.count_of.ensures d.used fits.used (ap (get (codes "used")) is)) (c.count_of-2.ensures d.options fits.options (ap (get (codes "options")) is)) (c.count_of-3.ensures d.untimed fits.untimed (ap (get (codes "untimed")) is))
    (c.count_of-4.ensures d.backward fits.backward (ap (get (codes "backward")) is)) (c.count_of-5.ensures d.unkeyed fits.unkeyed (ap (get (codes "unkeyed")) is)) (c.count_of-6.ensures d.too_long fits.too_long (ap (get (codes "too_long")) is))
