use Rattle.command_collect.proofs.ReceiptsCollected.{untouched}
use Rattle.command_collect.proofs.receipts.remaking.remake_run.Goals as goal

pub returns-in-Err-clause-not_made : goal.returns-in-Err-clause-not_made
returns-in-Err-clause-not_made g c =
    let run = c.args.run.now in
    let not = rw c.in-Err.is at c.make_run-out.ensures.not_made in
    untouched c.args.job.now c.args.origins.now run.gathered.run.sessions.items run.digests.items run.gathered.run.table _ c.in-Err.fault not
