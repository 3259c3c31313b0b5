use Rattle.std.proofs.Common.{sym, subst}
use Rattle.recording_files.specs.Recorders.{State, KeepsWithin}
use Rattle.recording_files.proofs.Keeping.{begun}
use Rattle.recording_files.proofs.recorder.Recorder.has_begun.Goals as goal

pub returns : goal.returns
returns c = λ limit before here keeps.
    let inside : State = record { domains = c.self.inside.domains; limit = c.self.inside.limit; due = c.self.inside.due.entries; here = c.self.inside.here.entries; kept = c.self.inside.kept.items } in
    let now : KeepsWithin limit inside before here = subst (λ (s : State). KeepsWithin limit s before here) (sym c.self.view_is) keeps in
    begun inside before here c.is_empty.result now c.is_empty.ensures
