use Rattle.json.specs.Value.{value_view}
use Rattle.table_receipts.specs.Objects.{format_name}
use Rattle.table_receipts.proofs.Same.{table_same}
use Rattle.table_receipts.proofs.Telling.{table_tells}
use Rattle.table_receipts.proofs.part_reading.table_of.Goals as goal

pub returns : goal.returns
returns c t fits is =
    let tells = table_tells (value_view c.args.object.now) t is in
    table_same _ t (c.format_by.ensures t.format (c.text_of.ensures (format_name t.format) tells.format)) (c.small_of.ensures t.time fits.time tells.time)
    (c.in_ok-into_of.ensures t.into tells.merged) (c.count_of.ensures t.octets fits.octets tells.octets)
    (c.digest_of.ensures t.digest fits.digest tells.digest) (c.count_of-2.ensures t.rows fits.rows tells.rows) (c.in_ok-sums_of.ensures t.sums fits.sums tells.sums) (c.number_of.ensures t.flows fits.flows tells.flows)
