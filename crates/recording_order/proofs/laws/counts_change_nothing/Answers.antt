use Rattle.recording_order.proofs.Alike.{begun-twice}
use Rattle.recording_order.proofs.AlikeRuns.{step-alike, finish-alike}
use Rattle.recording_order.proofs.laws.counts_change_nothing.Goals as goal

pub returns-clause-step : goal.returns-clause-step
returns-clause-step c = step-alike

pub returns-clause-finish : goal.returns-clause-finish
returns-clause-finish c = finish-alike

pub returns-clause-told : goal.returns-clause-told
returns-clause-told c = begun-twice
