use Rattle.std.proofs.Common.{refl, ap}
use Rattle.recording_files.specs.Recorders.{CountsView}
use Rattle.recording_files.proofs.Counts.{counted-turned}
use Rattle.recording_files.proofs.session_counts.SessionCounts.turn.Goals as goal

pub returns-clause-told : goal.returns-clause-told
returns-clause-told c = λ before here counted.
    counted-turned c.args.self.now.told _ before here counted (ap (λ (v : CountsView). v.told.session) c.self.view_is) refl
