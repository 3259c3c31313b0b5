use Rattle.std.proofs.Common.{ap}
use Rattle.std.specs.Prelude.{codes}
use Rattle.json.specs.Find.{get}
use Rattle.table_receipts.specs.Objects.{domain_json}
use Rattle.table_receipts.proofs.Same.{domain_same}
use Rattle.table_receipts.proofs.part_reading.domain_of.Goals as goal

pub returns : goal.returns
unfolding domain_json
returns c d fits is =
    domain_same _ d (c.small_of.ensures d.domain fits.domain (ap (get (codes "domain")) is)) (c.count_of.ensures d.lost fits.lost (ap (get (codes "lost")) is)) (c.count_of-2.ensures d.backward fits.backward (ap (get (codes "backward")) is))
    (c.count_of-3.ensures d.unaccounted fits.unaccounted (ap (get (codes "unaccounted")) is)) (c.count_of-4.ensures d.unknown_sets fits.unknown_sets (ap (get (codes "unknown_sets")) is))
