use Rattle.std.proofs.Common.{refl}
use Rattle.laws_json.proofs.LinesRead.{row_is_exact, row_is_read}
use Rattle.laws_json.proofs.Objects.{row_is}
use Rattle.laws_json.proofs.rows.rows_are_objects.Goals as goal

pub returns : goal.returns
returns c =
    record {
      text = λ files. row_is files.known files.plain;
      value = λ files plan row octets. row_is_read files.known files.plain _ plan row octets refl;
      exact = λ files plan row octets. row_is_read files.known files.plain _ plan row octets (row_is_exact files.known files.plain plan row octets);
    }
