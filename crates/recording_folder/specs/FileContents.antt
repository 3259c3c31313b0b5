-- What a file has, read by itself as a session.
use Rattle.std.specs.Prelude.{◌≡◌, ℕ, List, []}
use Rattle.ipfix_session.specs.Given.{gives}
use Rattle.ipfix_session.specs.Ledger.{capped}
use Rattle.ipfix_session.specs.WholeMessages.{whole_octets}
use Rattle.recording_files.specs.FileReports.{file_report}
use Rattle.recording_resumption.specs.EarlierFiles.{IsEarlierSession}
use Rattle.recording_folder.specs.declared.file_contents.FileContents.{FileContents}

-- what a file of this text has
pub record AreContents (text : List ℕ) (c : FileContents) : Type 0 where
  -- the octets of its whole messages (RFC 7011, section 3.1)
  pub whole : c.whole ≡ capped (whole_octets text)
  -- the report of its messages before the first that has a fault, where no file is before it
  pub report : c.report ≡ file_report [] (gives text).messages
  -- and what a session that goes on needs of it
  pub session : IsEarlierSession text c.session
