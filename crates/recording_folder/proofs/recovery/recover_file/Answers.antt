use Rattle.std.proofs.Common.{refl}
use Rattle.recording_files.specs.declared.finished_files.Recovered.TheVariants.{Placed, Removed, Stayed}
use Rattle.recording_folder.proofs.Settled.{placed, removed, told_removed}
use Rattle.recording_folder.proofs.recovery.recover_file.Goals as goal

pub returns-in-Ok-Placed : goal.returns-in-Ok-Placed
returns-in-Ok-Placed g c =
    let is = rw c.in-Ok-Placed.field-0-is at c.in-Ok-Placed.ensures in
    let told = rw c.as_str.ensures.value at c.recovered.ensures in
    (_, Placed c.in-Ok-Placed.report c.in-Ok-Placed.end, placed _ _ _ c.in-Ok-Placed.path c.in-Ok-Placed.report c.in-Ok-Placed.end c.in-Ok-Placed.session is, refl, (_, told))

pub returns-in-Ok-Removed-eq0 : goal.returns-in-Ok-Removed-eq0
returns-in-Ok-Removed-eq0 g c =
    let is = rw (c.in-Ok-Removed-eq0.field-0-is, c.in-Ok-Removed-eq0.field-0-0-test) at c.in-Ok-Removed-eq0.ensures in
    (c.args.path.now, Removed 0, removed _ _ _ _ 0 c.requires is, refl, refl)

pub returns-in-Ok-Removed : goal.returns-in-Ok-Removed
returns-in-Ok-Removed g c =
    let is = rw c.in-Ok-Removed.field-0-is at c.in-Ok-Removed.ensures in
    let octets = c.in-Ok-Removed.octets in (
      c.args.path.now,
      Removed octets,
      removed _ _ _ _ octets c.requires is,
      refl,
      told_removed g.R.File.Read.remaining c.args.folder.now c.args.name.now g.L.FinishedFiles.tells c.args.path.now octets _ _ c.in-Ok-Removed.octets-test.1 (_, c.recovered-in-Ok-Removed.ensures),
    )

pub returns-in-Err : goal.returns-in-Err
returns-in-Err g c = (c.args.path.now, Stayed, c.requires, refl, (_, c.recovered-in-Err.ensures))
