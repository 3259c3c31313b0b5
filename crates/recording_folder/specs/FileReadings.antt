-- A file that is read in pieces.
use Rattle.std.specs.Prelude.{◌≡◌, ℕ, List, ◌++◌, Option, Some}
use Rattle.ipfix_session.specs.MessageCounts.{HasRead}
use Rattle.recording_resumption.specs.Readings.{HasReadSession}
use Rattle.recording_folder.specs.declared.file_reading.FileReading.{FileReading}

-- this text was read: its whole messages are counted, and its session was read
pub record HasReadFile (text : List ℕ) (r : FileReading) : Type 0 where
  pub whole : HasRead r.whole text
  pub session : HasReadSession r.session text

-- of a text some was read, and the rest is left
pub record IsReading (left : Option (List ℕ)) (text : List ℕ) (r : FileReading) : Type 0 where
  pub read : List ℕ
  pub rest : List ℕ
  pub all : text ≡ read ++ rest
  pub left_is : left ≡ Some rest
  pub has_read : HasReadFile read r
