use Rattle.std.specs.Prelude.{nat_eq}
use Rattle.indexmap.specs.IndexMap.{get as index_get}
use Rattle.recording_resumption.specs.EarlierFiles.{LeavesOnly}
use Rattle.recording_resumption.proofs.LeftDomains.{LeavesBut}
use Rattle.recording_resumption.proofs.leaving.domains_left.Given as goal

abbrev pub invariant-loop-domain : goal.invariant-loop-domain
invariant-loop-domain l = record {
  only : LeavesOnly (index_get nat_eq l.session.last) l.domains l.left;
  each : LeavesBut (index_get nat_eq l.session.last) l.domain-iterator l.left;
}
