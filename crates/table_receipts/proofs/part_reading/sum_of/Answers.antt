use Rattle.std.proofs.Common.{ap, ◌∙◌}
use Rattle.std.specs.Prelude.{codes}
use Rattle.json.specs.Find.{get}
use Rattle.table_receipts.specs.Objects.{sum_json}
use Rattle.table_receipts.proofs.Same.{sum_same}
use Rattle.table_receipts.proofs.part_reading.sum_of.Goals as goal

pub returns : goal.returns
unfolding sum_json
returns c s fits is =
    sum_same _ s (c.in_ok-from_str.ensures.ok ∙ c.text_of.ensures s.name (ap (get (codes "name")) is)) (c.number_of.ensures s.total fits.total (ap (get (codes "sum")) is))
