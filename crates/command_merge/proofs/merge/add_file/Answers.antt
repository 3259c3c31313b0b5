use Rattle.std.proofs.Common.{refl}
use Rattle.command_merge.proofs.Merged.{adds_file, fails_file}
use Rattle.report_writing.proofs.LinesTold.{is_told}
use Rattle.command_merge.proofs.merge.add_file.Goals as goal

pub returns-in-Ok-read-clause-added : goal.returns-in-Ok-read-clause-added
returns-in-Ok-read-clause-added g c =
    adds_file _ _ _ _ c.in-Ok.opened.source c.read.new.source (record { asked = c.in-Ok.ensures.named; came = c.in-Ok.ensures.came }) c.in-Ok.ensures.unread c.in-Ok-read.ensures.plan c.in-Ok-read.ensures.intervals c.in-Ok-read.ensures.ok

pub returns-clause-stops : goal.returns-clause-stops
returns-clause-stops g c = (
  refl,
  refl,
  fails_file _ _ _ _ c.in-Ok.opened.source c.read.new.source c.of.result (record { asked = c.in-Ok.ensures.named; came = c.in-Ok.ensures.came }) c.in-Ok.ensures.unread (rw c.of.ensures.fault c.in-Err-read.ensures.fault)
      (record { said = c.failure.result; is_said = c.failure.ensures; reason = rw c.of.ensures.fault c.of.ensures.reason }),
  is_told _ _ _ c.write_file_opened.result _ c.write_file_opened.ensures.told c.write_file_opened.ensures.failed,
)
