use Rattle.recording_files.proofs.Counts.{up_to-none}
use Rattle.recording_files.proofs.Gatherings.{nothing_waits}
use Rattle.recording_files.proofs.Going.{with_more-none}
use Rattle.recording_files.proofs.reads.write_gathered.Goals as goal

pub returns-then-is_settled-clause-appends : goal.returns-then-is_settled-clause-appends
returns-then-is_settled-clause-appends g c = λ b text t.
    let settled = c.is_settled.ensures.0 c.if-is_settled.true in
    with_more-none (g.F.FileSeries.seen c.args.files.now) c.args.gathering.now.out.items (nothing_waits b c.args.gathering.now t.messages t.given t.took settled)

pub returns-then-is_settled-clause-counted : goal.returns-then-is_settled-clause-counted
returns-then-is_settled-clause-counted g c = up_to-none c.args.gathering.now.counts.told c.args.gathering.now.counts.waiting (c.is_settled.ensures.0 c.if-is_settled.true)
