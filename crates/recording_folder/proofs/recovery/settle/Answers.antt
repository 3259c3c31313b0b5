use Rattle.recording_folder.proofs.Settled.{settled_by}
use Rattle.recording_folder.proofs.recovery.settle.Goals as goal

pub returns : goal.returns
returns g c = settled_by g.R.File.Read.remaining c.args.folder.now c.args.name.now c.in_ok-contents.contents _ (_, c.in_ok-contents.ensures) c.settle_read.result c.settle_read.ensures
