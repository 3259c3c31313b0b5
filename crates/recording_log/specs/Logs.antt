-- Lines that wait to be written, and lines that had no room.
use Rattle.std.specs.Prelude.{ℕ, zero, suc, ◌+◌, nat_lt, nat_le, ◌==◌, Bool, ◌&&◌, if◌then◌else◌, List, [], ◌++◌, length, codes, decimal}
use Rattle.ipfix_session.specs.Sources.{one_more}

pub record LogView : Type 0 where
  -- the lines that wait, the oldest first
  pub text : List ℕ
  -- how many they are
  pub lines : ℕ
  -- how many came after them and were dropped
  pub dropped : ℕ

abbrev pub nothing_waits : LogView
nothing_waits = record { text = []; lines = 0; dropped = 0 }

-- a line has room if none before it was dropped, and with it at most 1024 lines wait, of a mebibyte together
abbrev pub has_room : LogView → List ℕ → Bool
has_room log line =
    (log.dropped == 0) && (nat_lt log.lines 1024 && nat_le (length log.text + length line) 1_048_576)

abbrev pub with_line : LogView → List ℕ → LogView
with_line log line = record log { text = log.text ++ line; lines = log.lines + 1 }

abbrev pub with_dropped : LogView → LogView
with_dropped log = record log { dropped = one_more log.dropped }

-- a line is added if it has room, and counted if it has none
abbrev pub pushed : LogView → List ℕ → LogView
pushed log line = if has_room log line then with_line log line else with_dropped log

-- ---- what is written of them

unfoldable pub dropped_line : ℕ → List ℕ
dropped_line count = codes "collectd: lines dropped: " ++ (decimal count ++ codes "\n")

abbrev pub dropped_lines : ℕ → List ℕ
dropped_lines zero = []
dropped_lines (suc n) = dropped_line (suc n)

-- the lines that waited, and then how many were dropped
abbrev pub log_text : LogView → List ℕ
log_text log = log.text ++ dropped_lines log.dropped
