-- What a dump of a source wrote, and what its report says.
use Rattle.std.specs.Prelude.{◌≡◌, ℕ, List, length, Option, Some, None}
use Rattle.std.specs.List.{flat_map}
use Rattle.std.specs.Io.KnownBytes.{Appends}
use Rattle.ipfix_message.specs.declared.record.DataRecord.{DataRecord}
use Rattle.ipfix_session.specs.declared.report.FullReport.{FullReport}
use Rattle.ipfix_session.specs.declared.report.SessionReport.{SessionReport}
use Rattle.ipfix_session.specs.declared.stop.Stop.TheVariants.{Clean}
use Rattle.ipfix_session.specs.Given.{records_of, stop_of}
use Rattle.ipfix_session.specs.Sources.{SourceView}
use Rattle.ipfix_session.specs.Drives.{IsGivenWithin}
use Rattle.ipfix_session.specs.Places.{ReportsInFull}
use Rattle.ipfix_session.specs.declared.driver.TheConstants.{READ_LIMIT}
use Rattle.ipfix_session.specs.declared.session_limits.SessionLimits.{SessionLimits}
use Rattle.element_registry.specs.Registries.{Known}
use Rattle.ipfix_dump.specs.DumpLines.{dump_line}
use Rattle.ipfix_dump.specs.JsonLines.{json_line}
use Rattle.ipfix_dump.specs.declared.options.Form.{Form}
use Rattle.ipfix_dump.specs.declared.options.Form.TheVariants.{Text, Json}

-- the line of a record in a form
abbrev pub line_in : Form → List Known → DataRecord → List ℕ
line_in Text = dump_line
line_in Json = json_line

-- what the session of a dump may do: read so often, and its templates may count so much, or anything
abbrev pub limits_with : Option ℕ → SessionLimits
limits_with templates = record { reads = READ_LIMIT; templates = templates }

-- with the line of a record, and what the templates may count
module _ (line_of : DataRecord → List ℕ) (templates : Option ℕ) where
  -- a source gave octets that have these records, as the report tells, and their lines were written
  pub record Dumps {S : Type 0} (seen : S → SourceView) (before after : S) (old new : Option (List ℕ)) (report : SessionReport) : Type 0 where
    pub records : List DataRecord
    pub given : IsGivenWithin seen (limits_with templates) before after report records
    pub written : Appends old new (flat_map line_of records)

  -- the same, and the full report is of these messages: what each domain passed over, what is unaccounted for in it, and
  -- where the first message begins that doesn't count
  pub record DumpsInFull {S : Type 0} (seen : S → SourceView) (before after : S) (old new : Option (List ℕ)) (full : FullReport) : Type 0 where
    pub dumps : Dumps seen before after old new full.report
    pub in_full : ReportsInFull full dumps.given.counted (length dumps.records)

-- if a source tells its octets, the lines of all of them were written, and no fault was met
abbrev pub DumpsAll : (DataRecord → List ℕ) → Option (List ℕ) → Option (List ℕ) → Option (List ℕ) → Type 0
DumpsAll line_of None old new = Unit {0}
DumpsAll line_of (Some whole) old new = (stop_of whole ≡ Clean) × Appends old new (flat_map line_of (records_of whole))
