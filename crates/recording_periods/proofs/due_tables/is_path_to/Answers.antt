use Rattle.std.proofs.Common.{subst}
use Rattle.recording_periods.specs.TableStates.{IsPathTo}
use Rattle.recording_periods.specs.Whether.{Whether}
use Rattle.recording_periods.proofs.PathNames.{no_name, slash_tells}
use Rattle.recording_periods.proofs.due_tables.is_path_to.Goals as goal

pub returns-in-Some : goal.returns-in-Some
returns-in-Some c =
    let r = c.ends_with_slash.result in
    let cut = c.in-Some.ensures.cases in
    subst (λ n. Whether r (IsPathTo n c.args.path.now)) c.as_bytes-2.ensures.value
    (subst (λ p. Whether r (IsPathTo c.as_bytes-2.result.now p)) c.as_bytes.ensures.value
    (slash_tells c.as_bytes-2.result.now c.as_bytes.result.now c.in-Some.folder.now r cut.1 cut.0 c.ends_with_slash.ensures.yes c.ends_with_slash.ensures.no))

pub returns-in-None : goal.returns-in-None
returns-in-None c =
    subst (λ n. ¬ IsPathTo n c.args.path.now) c.as_bytes-2.ensures.value
    (subst (λ p. ¬ IsPathTo c.as_bytes-2.result.now p) c.as_bytes.ensures.value (no_name c.as_bytes-2.result.now c.as_bytes.result.now c.in-None.ensures.cases))
