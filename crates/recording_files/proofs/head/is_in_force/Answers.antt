use Rattle.std.proofs.Common.{◌≡◌, Some, sym, ap, ◌∙◌, rules}
use Rattle.std.specs.Prelude.{option_copied}
use Rattle.recording_files.specs.KeptOptions.{Kept}
use Rattle.recording_files.proofs.HeadsWritten.{force_tells}
use Rattle.recording_files.proofs.head.is_in_force.Goals as goal

pub returns-in-Some : goal.returns-in-Some
returns-in-Some c = λ fresh ds stands.
    let found : option_copied c.lookup.result ≡ Some c.in-Some.known.now = search rules in
    force_tells ds c.template-template.result.now c.in-Some.known.now c.args.kept.now c.kept.inside.domain c.is_same_template.result c.is_same_template.ensures
    (c.template-template.ensures ∙ ap (λ (k : Kept). k.template) c.kept.view_is) (ap (λ (k : Kept). k.domain) c.kept.view_is) (sym (c.lookup.ensures.found fresh ds stands) ∙ found)
