-- How `collectd finish` ends.
use Rattle.std.specs.Prelude.{ℕ, ◌==◌, if◌then◌else◌}
use Rattle.report_writing.specs.declared.status.Status.{Status}
use Rattle.report_writing.specs.declared.status.Status.TheVariants.{Well, SessionFault}

-- all was well exactly if no file stays
abbrev pub finish_status : ℕ → Status
finish_status stayed = if stayed == 0 then Well else SessionFault
