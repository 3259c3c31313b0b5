use Rattle.std.proofs.Common.{◌≡◌, sym, subst, ◌∙◌, rules}
use Rattle.std.specs.Prelude.{nat_eq}
use Rattle.std.specs.Map.{lookup}
use Rattle.std.specs.Option.{option_flatten}
use Rattle.recording_files.specs.Recorders.{State, KeepsWithin}
use Rattle.recording_files.proofs.Leading.{due_is}
use Rattle.recording_files.proofs.recorder.Recorder.due.Goals as goal

pub returns : goal.returns
returns c = λ limit before here keeps.
    let inside : State = record { domains = c.self.inside.domains; limit = c.self.inside.limit; due = c.self.inside.due.entries; here = c.self.inside.here.entries; kept = c.self.inside.kept.items } in
    let now : KeepsWithin limit inside before here = subst (λ (s : State). KeepsWithin limit s before here) (sym c.self.view_is) keeps in
    let found : c.flatten.result ≡ option_flatten (lookup (nat_eq c.args.domain) inside.due) = search rules in
    found ∙ due_is inside before here c.args.domain now
