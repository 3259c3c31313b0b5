use Rattle.flow_collect.specs.LinkEnds.{WorkerRan}
use Rattle.flow_collect.specs.Sessions.{SessionRan}
use Rattle.flow_collect.proofs.ZipLists.{zip_join}
use Rattle.flow_collect.proofs.threads.running.run_all.Goals as goal

pub returns-clause-sessions : goal.returns-clause-sessions
returns-clause-sessions g c =
    zip_join (λ h. h.promise.start.value) (SessionRan g.S.Source.seen) _ _ _
    (c.start_sessions-sessions.ensures.started c.if-not-all_run.false) (c.join_all-ended.ensures c.in_default-unsent.is)

pub returns-clause-workers : goal.returns-clause-workers
returns-clause-workers g c =
    zip_join (λ h. h.promise.share.value) WorkerRan _ _ _
    (c.start_workers-workers.ensures.started c.if-not-all_work.false) (c.join_all-worked.ensures c.in_default.is)
