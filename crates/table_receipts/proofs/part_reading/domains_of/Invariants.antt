use Rattle.json.specs.Value.{value_view}
use Rattle.table_receipts.specs.Objects.{domain_json}
use Rattle.table_receipts.specs.declared.receipt.DomainReceipt.{DomainReceipt}
use Rattle.table_receipts.specs.Values.{FitsDomain}
use Rattle.table_receipts.proofs.ListReads.{Reads}
use Rattle.table_receipts.proofs.part_reading.domains_of.Given as goal

abbrev pub invariant-loop-item : goal.invariant-loop-item
invariant-loop-item l = Reads value_view (λ (d : DomainReceipt). d) domain_json FitsDomain l.items l.item-index l.domains.items
