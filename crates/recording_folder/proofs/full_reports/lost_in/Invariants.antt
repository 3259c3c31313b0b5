use Rattle.std.proofs.Common.{◌≡◌, take}
use Rattle.std.specs.Prelude.{sum_by}
use Rattle.ipfix_session.specs.Ledger.{capped}
use Rattle.recording_folder.proofs.full_reports.lost_in.Given as goal

-- the sum so far
abbrev pub invariant-loop-domain : goal.invariant-loop-domain
invariant-loop-domain l = l.lost ≡ capped (sum_by (λ d. d.lost) (take l.domain-index l.domains))
