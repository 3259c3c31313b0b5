use Rattle.table_receipts.proofs.writing.write_digest_of.Goals as goal

pub returns : goal.returns
returns c = rw c.sha256_of.ensures at c.write_digest_member.ensures
