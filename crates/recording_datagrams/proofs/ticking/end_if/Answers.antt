use Rattle.std.proofs.Common.{[], refl}
use Rattle.recording_datagrams.proofs.Told.{tells_nothing}
use Rattle.recording_datagrams.proofs.ticking.end_if.Goals as goal

pub returns-in-None : goal.returns-in-None
returns-in-None g c = record { lines = []; are = rw c.in-None.is refl; told = tells_nothing }
