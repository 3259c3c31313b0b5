use Rattle.std.proofs.Common.{◌≡◌, take}
use Rattle.std.specs.Prelude.{sum_by}
use Rattle.ipfix_session.specs.Ledger.{capped}
use Rattle.recording_folder.proofs.full_reports.unaccounted_in.Given as goal

-- the sum so far
abbrev pub invariant-loop-balance : goal.invariant-loop-balance
invariant-loop-balance l = l.unaccounted ≡ capped (sum_by (λ d. d.unaccounted) (take l.balance-index l.balances))
