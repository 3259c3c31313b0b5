use Rattle.std.proofs.Common.{◌≡◌, ℕ, List, Some}
use Rattle.recording_folder.specs.FileReadings.{IsReading}
use Rattle.recording_folder.proofs.file_contents.read_through.Given as goal

-- the text that was read
abbrev pub invariant-loop : goal.invariant-loop
invariant-loop g l = (text : List ℕ) → g.R.Read.remaining l.fn.reader ≡ Some text → IsReading (g.R.Read.remaining l.reader) text l.reading
