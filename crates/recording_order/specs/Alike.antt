-- Runs that are the same but for the counts of their windows: these are told, and begin anew then.
use Rattle.std.specs.Prelude.{◌≡◌}
use Rattle.recording_order.specs.Counts.{with_counts_begun}
use Rattle.recording_order.specs.Releases.{Run}
use Rattle.recording_order.specs.Windows.{WindowView}

abbrev pub SameButCounts : WindowView → WindowView → Type 0
SameButCounts w v = with_counts_begun w ≡ with_counts_begun v

-- they have handed on the same
pub record RunsAlike (r s : Run) : Type 0 where
  pub handed_on : r.handed_on ≡ s.handed_on
  pub window : SameButCounts r.window s.window

-- they go on alike
abbrev pub StayAlike : (Run → Run) → Type 0
StayAlike f = (r s : Run) → RunsAlike r s → RunsAlike (f r) (f s)
