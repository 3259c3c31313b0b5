-- What the report of a session says of its octets as an export.
use Rattle.std.specs.Prelude.{◌≡◌, ◌<◌, All, Some, None}
use Rattle.ipfix_session.specs.declared.report.SessionReport.{SessionReport}
use Rattle.flow_merge.specs.declared.merge_fault.MergeFault.{MergeFault}
use Rattle.flow_merge.specs.declared.merge_fault.MergeFault.TheVariants.{OutOfMemory, SumTooLarge, Session, NotAnExport, Lost, Row, Border}
use Rattle.flow_merge.specs.Merging.{LosesNone}

-- there were messages, and nothing was passed over
abbrev pub ReportsExport : SessionReport → Type 0
ReportsExport r = (0 < r.messages) × (r.skipped_sets ≡ 0) × (r.unknown_sets ≡ 0) × (r.ignored_withdrawals ≡ 0)

abbrev pub ReportsNoLoss : SessionReport → Type 0
ReportsNoLoss r = All LosesNone r.domains.items

-- nothing is against an export
pub record IsWell (r : SessionReport) : Type 0 where
  pub no_fault : r.fault ≡ None
  pub export : ReportsExport r
  pub no_loss : ReportsNoLoss r

-- the first thing that is
abbrev pub IsBadBy : SessionReport → MergeFault → Type 0
IsBadBy r (Session fault) = r.fault ≡ Some fault
IsBadBy r NotAnExport = (r.fault ≡ None) × (ReportsExport r → ⊥)
IsBadBy r Lost = (r.fault ≡ None) × ReportsExport r × (ReportsNoLoss r → ⊥)
IsBadBy r OutOfMemory = ⊥
IsBadBy r SumTooLarge = ⊥
IsBadBy r (Row fault) = ⊥
IsBadBy r (Border row) = ⊥
