use Rattle.std.proofs.Common.{◌≡◌, ◌++◌, take}
use Rattle.std.specs.List.{flat_map}
use Rattle.std.specs.String.{string_bytes}
use Rattle.recording_names.specs.SessionNames.{next_group}
use Rattle.recording_names.proofs.session_names.groups.Given as goal

-- the groups so far
abbrev pub invariant-loop-segment : goal.invariant-loop-segment
invariant-loop-segment l = string_bytes l.text ≡ string_bytes l.initial.text ++ flat_map next_group (take l.segment-index l.segment-items)
