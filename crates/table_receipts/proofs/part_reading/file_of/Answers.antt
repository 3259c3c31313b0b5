use Rattle.std.proofs.Common.{◌∙◌}
use Rattle.table_receipts.proofs.Same.{file_same}
use Rattle.table_receipts.proofs.part_reading.file_of.Goals as goal

pub returns : goal.returns
returns c f fits tells =
    file_same _ f (c.in_ok-from_str.ensures.ok ∙ c.text_of.ensures f.name tells.name) (c.count_of.ensures f.octets fits.octets tells.octets) (c.digest_of.ensures f.digest fits.digest tells.digest)
