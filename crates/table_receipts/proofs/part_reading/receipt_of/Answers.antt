use Rattle.std.proofs.Common.{ap, ◌∙◌}
use Rattle.std.specs.Prelude.{codes}
use Rattle.json.specs.Find.{get}
use Rattle.table_receipts.specs.Objects.{counts_json, plan_json, table_json}
use Rattle.table_receipts.proofs.Same.{receipt_same}
use Rattle.table_receipts.proofs.Telling.{receipt_tells}
use Rattle.table_receipts.proofs.part_reading.receipt_of.Goals as goal

pub returns : goal.returns
unfolding plan_json
returns c r fits is =
    let told = receipt_tells _ r is in
    let plan = c.member_of.ensures (plan_json r.plan) told.plan in
    receipt_same _ r (c.in_ok-from_str.ensures.ok ∙ c.text_of.ensures r.collectd told.collectd) (c.in_ok-from_str-2.ensures.ok ∙ c.text_of-2.ensures r.plan (ap (get (codes "text")) plan))
    (c.in_ok-files_of.ensures r.elements fits.elements told.elements) (c.in_ok-files_of-2.ensures r.maps fits.maps told.maps) (c.in_ok-inputs_of.ensures r.inputs fits.inputs told.inputs)
    (c.counts_of.ensures r.records fits.records (c.member_of-2.ensures (counts_json r.records) told.records))
    (c.in_ok-table_of.ensures r.table fits.table (c.member_of-3.ensures (table_json r.table) told.table))
    (c.in_ok-left_out_of.ensures r.left_out told.left_out)
    (c.flag_of.ensures r.complete told.complete)
