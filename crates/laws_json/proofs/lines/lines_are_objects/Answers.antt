use Rattle.std.proofs.Common.{refl}
use Rattle.laws_json.proofs.LinesRead.{record_is_read}
use Rattle.laws_json.proofs.Objects.{line_is}
use Rattle.laws_json.proofs.lines.lines_are_objects.Goals as goal

pub returns : goal.returns
returns c = record { text = λ files. line_is files.known files.plain; value = λ files r octets fits. record_is_read files.known files.plain _ r octets fits refl }
