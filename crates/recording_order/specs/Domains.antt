-- What a run has of one domain.
use Rattle.std.specs.Prelude.{◌≡◌, ◌≢◌, ℕ, filter}
use Rattle.recording_order.specs.Arrivals.{is_in}
use Rattle.recording_order.specs.Releases.{Run}
use Rattle.recording_order.specs.Windows.{WindowView, numbering}

-- the numbers of a domain and its datagrams that wait are the same
pub record KeepsDomain (domain : ℕ) (before after : WindowView) : Type 0 where
  pub numbers : numbering after domain ≡ numbering before domain
  pub waiting : filter (is_in domain) after.waiting ≡ filter (is_in domain) before.waiting

-- and so is what was handed on of it, and what was doubled
pub record LeavesDomain (domain : ℕ) (before after : Run) : Type 0 where
  pub window : KeepsDomain domain before.window after.window
  pub handed_on : filter (is_in domain) after.handed_on ≡ filter (is_in domain) before.handed_on
  pub doubled : filter (is_in domain) after.doubled ≡ filter (is_in domain) before.doubled

-- and so is every other domain than this
abbrev pub LeavesOthers : ℕ → Run → Run → Type 0
LeavesOthers own before after = (domain : ℕ) → domain ≢ own → LeavesDomain domain before after
