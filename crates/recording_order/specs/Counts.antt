-- What is told of each domain.
use Rattle.std.specs.Prelude.{ℕ, nat_lt, ◌||◌, Bool, List, map, filter}
use Rattle.recording_order.specs.declared.numbering.Numbering.{Numbering}
use Rattle.recording_order.specs.declared.order_counts.OrderCounts.{OrderCounts}
use Rattle.recording_order.specs.Windows.{WindowView}

abbrev pub counts_of : ℕ × Numbering → OrderCounts
counts_of entry = record { domain = entry.0; doubled = entry.1.doubled; reordered = entry.1.reordered }

-- one was doubled, or reordered
abbrev pub is_told : OrderCounts → Bool
is_told c = nat_lt 0 c.doubled || nat_lt 0 c.reordered

-- the domains are in the order in which they first had numbers
abbrev pub told_counts : WindowView → List OrderCounts
told_counts w = filter is_told (map counts_of w.numbers)

-- the counts of each begin anew
abbrev pub none_counted : ℕ × Numbering → ℕ × Numbering
none_counted entry = (entry.0, record entry.1 { doubled = 0; reordered = 0 })

abbrev pub with_counts_begun : WindowView → WindowView
with_counts_begun w = record w { numbers = map none_counted w.numbers }
