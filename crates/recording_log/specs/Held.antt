-- Lines of sessions whose file could not be written: all but the first of a second are held until it is over.
use Rattle.std.specs.Prelude.{ℕ, ◌+◌, ◌-◌, nat_eq, nat_le, nat_lt, Bool, true, false, ◌&&◌, if◌then◌else◌, List, [], ◌++◌, length, take, drop, codes, decimal, Option, Some, None}
use Rattle.std.specs.List.{position_from, starts_with}
use Rattle.ipfix_session.specs.Sources.{one_more}

pub record HeldView : Type 0 where
  -- whether one was told in this second
  pub is_told : Bool
  -- how many came after it in the second
  pub count : ℕ
  -- the last of these
  pub last : List ℕ

abbrev pub nothing_held : HeldView
nothing_held = record { is_told = false; count = 0; last = [] }

-- where the first space is
abbrev pub space_in : List ℕ → Option ℕ
space_in text = position_from (λ octet. nat_eq octet 32) 0 text

-- the fault is there after a space
abbrev pub is_not_written_from : List ℕ → Option ℕ → Bool
is_not_written_from text None = false
is_not_written_from text (Some space) = starts_with nat_eq (drop (space + 1) text) (codes "fault 19 NotWritten")

abbrev pub peer_not_written : List ℕ → Bool
peer_not_written text = is_not_written_from text (space_in text)

-- after the peer in the line of a session
abbrev pub session_not_written : List ℕ → Bool
session_not_written line = starts_with nat_eq line (codes "collectd: session ") && peer_not_written (drop 18 line)

-- the line of a session whose file could not be written, maybe with the reason; a longer one is none of those that are held
abbrev pub is_not_written : List ℕ → Bool
is_not_written line = nat_le (length line) 256 && session_not_written line

-- it is held if one was told in this second
abbrev pub is_held : HeldView → List ℕ → Bool
is_held held line = is_not_written line && held.is_told

-- one that isn't held is told; of those that are the last is kept, and how many they are
abbrev pub with_line : HeldView → List ℕ → HeldView
with_line held line =
    if is_not_written line then (if held.is_told then record { is_told = true; count = one_more held.count; last = line } else record held { is_told = true }) else held

-- ---- when a second is over

-- the line, and how often one like it came
unfoldable pub held_times : List ℕ → ℕ → List ℕ
held_times line count = take (length line - 1) line ++ (codes " (" ++ (decimal count ++ codes " times)\n"))

abbrev pub held_text : HeldView → List ℕ
held_text held = if nat_eq held.count 0 then [] else if nat_eq held.count 1 then held.last else held_times held.last held.count

-- what was held is told then, and counts as the first line of the next second
abbrev pub after_second : HeldView → HeldView
after_second held = record { is_told = nat_lt 0 held.count; count = 0; last = [] }
