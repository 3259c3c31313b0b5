-- The exit statuses.
use Rattle.std.specs.Prelude.{ℕ}
use Rattle.report_writing.specs.declared.status.Status.{Status}
use Rattle.report_writing.specs.declared.status.Status.TheVariants.{Well, SessionFault, NotOpened, Failed}

abbrev pub number_of : Status → ℕ
number_of Well = 0
number_of SessionFault = 1
number_of NotOpened = 2
number_of Failed = 3
