use Rattle.report_sessions.proofs.Stream.{both}
use Rattle.report_sessions.proofs.laws.spotless_is_unbroken.Goals as goal

pub returns : goal.returns
returns c = both
