use Rattle.laws_json.proofs.LinesRead.{record_is_read}
use Rattle.laws_json.proofs.Told.{record_tells}
use Rattle.laws_json.proofs.lines.lines_tell_records.Goals as goal

pub returns : goal.returns
returns c files r octets fits = record_is_read files.known files.plain _ r octets fits (record_tells files.known r octets fits)
