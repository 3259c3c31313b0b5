use Rattle.recording_lines.proofs.WrittenLines.{nothing_kept_back}
use Rattle.recording_lines.proofs.laws.ended_lines_are_written.Goals as goal

pub returns : goal.returns
returns g c lines text h = nothing_kept_back (g.E.Write.contents lines.out) lines.line.items text h
