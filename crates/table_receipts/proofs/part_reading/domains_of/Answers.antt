use Rattle.std.proofs.Common.{ap, rules, arith, ◌∙◌}
use Rattle.std.specs.Prelude.{map}
use Rattle.std.proofs.lemmas.Option.{same_Some}
use Rattle.json.specs.Value.{value_view}
use Rattle.table_receipts.specs.Objects.{domain_json}
use Rattle.table_receipts.specs.declared.receipt.DomainReceipt.{DomainReceipt}
use Rattle.table_receipts.specs.Values.{FitsDomain}
use Rattle.table_receipts.proofs.ListReads.{reads_all, reads_none, reads_on}
use Rattle.table_receipts.proofs.part_reading.domains_of.Goals as goal

pub loop-item-init : goal.loop-item-init
loop-item-init c = reads_none value_view (λ (d : DomainReceipt). d) domain_json FitsDomain c.in-Some.items.now _ (search rules)

pub loop-item-preserved : goal.loop-item-preserved
loop-item-preserved c =
    reads_on value_view (λ (d : DomainReceipt). d) domain_json FitsDomain c.in-Some.items.now c.loop-item.item-index c.item-item.result _ _ c.domain_of.result c.loop-item.invariant c.loop-item-test.true
    (λ v fits is. c.domain_of.ensures v fits (ap value_view c.item-item.is ∙ is)) c.in_ok-push.ensures.items

pub returns : goal.returns
returns c vs fits is =
    reads_all value_view (λ (d : DomainReceipt). d) domain_json FitsDomain c.in-Some.items.now c.loop-item.item-index c.loop-item.domains.items vs c.loop-item.invariant (omega (arith, c.loop-item-test.false)) fits
    (same_Some (map value_view c.in-Some.items.now) (map domain_json vs) (c.in-Some.ensures (map domain_json vs) is))
