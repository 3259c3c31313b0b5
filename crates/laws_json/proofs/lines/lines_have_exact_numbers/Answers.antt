use Rattle.std.proofs.Common.{[], refl}
use Rattle.laws_json.proofs.LinesRead.{record_is_exact, record_is_natural, record_is_read}
use Rattle.laws_json.proofs.lines.lines_have_exact_numbers.Goals as goal

pub returns : goal.returns
returns c =
    record {
      exact = λ files r octets fits. record_is_read files.known files.plain _ r octets fits (record_is_exact files.known files.plain r octets fits);
      natural = λ r octets fits. record_is_read [] refl _ r octets fits (record_is_natural r octets fits);
    }
