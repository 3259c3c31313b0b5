use Rattle.std.proofs.Common.{◌≡◌, [], ◌∷◌, if◌then◌else◌, refl, rules, subst}
use Rattle.ipfix_session.specs.Sources.{one_more}
use Rattle.recording_folder.specs.Recoveries.{SomeIsLookedAfter}
use Rattle.recording_folder.proofs.recovery.recover.Goals as goal

pub returns-in_err-entry-items : goal.returns-in_err-entry-items
returns-in_err-entry-items g c = ([], tt, refl, search rules)

pub loop-entry-preserved : goal.loop-entry-preserved
loop-entry-preserved g c =
    let inv = c.loop-entry.invariant.2 in
    let stays = c.in_ok-stays.stays in
    let looked =
    subst (λ log. SomeIsLookedAfter g.R.File.Read.remaining g.L.FinishedFiles.tells c.args.folder.now log c.recover_entry.new.log stays) inv.2 c.in_ok-stays.ensures.ok in
    let counted = subst (λ n. c.one_more_if-stayed.result ≡ (if stays then one_more n else n)) inv.3 c.one_more_if-stayed.ensures in
    (tt, tt, (record { stays = stays; log = c.recover_entry.new.log } ∷ inv.0, (looked, inv.1), refl, counted))
