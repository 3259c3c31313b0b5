use Rattle.std.proofs.Common.{sym, ◌∙◌}
use Rattle.json.specs.Value.{value_view}
use Rattle.table_receipts.proofs.ListReads.{map_same}
use Rattle.table_receipts.proofs.Same.{input_same}
use Rattle.table_receipts.proofs.Telling.{input_tells}
use Rattle.table_receipts.proofs.part_reading.input_of.Goals as goal

pub returns : goal.returns
returns c i fits is =
    let tells = input_tells (value_view c.args.object.now) i is in
    input_same _ i (c.in_ok-file_of.ensures i.file fits.file tells.file) (c.count_of.ensures i.messages fits.messages tells.messages) (c.count_of-2.ensures i.records fits.records tells.records)
    (c.in_ok-fault_of.ensures i.fault tells.fault) (sym (map_same c.in_ok-domains_of.field-0.items) ∙ c.in_ok-domains_of.ensures i.domains fits.domains tells.domains) (c.in_ok-exporter_of.ensures i.exporter tells.exporter)
