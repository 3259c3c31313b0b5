-- The report in full of a file that is a session by itself.
use Rattle.std.specs.Prelude.{List, length}
use Rattle.ipfix_message.specs.Domains.{Message}
use Rattle.ipfix_session.specs.Given.{records_in}
use Rattle.ipfix_session.specs.Places.{CountsInFull}
use Rattle.ipfix_session.specs.declared.report.FullReport.{FullReport}

-- it is of these messages, and all their records were delivered
abbrev pub CountsAll : FullReport → List Message → Type 0
CountsAll full ms = CountsInFull full ms (length (records_in ms))
