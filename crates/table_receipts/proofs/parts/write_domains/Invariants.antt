use Rattle.std.proofs.Common.{List}
use Rattle.std.specs.Prelude.{map}
use Rattle.table_receipts.specs.declared.receipt.DomainReceipt.{DomainReceipt}
use Rattle.table_receipts.specs.Objects.{domain_json}
use Rattle.table_receipts.proofs.Listing.{Writing}
use Rattle.table_receipts.proofs.parts.write_domains.Given as goal

abbrev pub invariant-loop-domain : goal.invariant-loop-domain
invariant-loop-domain l = Writing (λ (xs : List DomainReceipt). map domain_json xs) l.domains l.domain-index l.initial.writer l.writer
