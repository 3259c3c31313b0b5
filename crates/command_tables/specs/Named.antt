-- The names of the parts of a day.
use Rattle.std.specs.Prelude.{◌≡◌, List, ◌++◌, codes, string_bytes}
use Rattle.std.specs.List.{AllZip}
use Rattle.recording_names.specs.PeriodNames.{IsPeriodName}
use Rattle.recording_names.specs.declared.period.Period.{Period}
use Rattle.table_parts.specs.declared.files.PartFiles.{PartFiles}
use Rattle.command_tables.specs.declared.days.names.PartNames.{PartNames}

-- a table has the name of its period, and a receipt that and `.receipt`
pub record IsNamesOf (period : Period) (names : PartNames) : Type 0 where
  pub table : IsPeriodName period.begins (string_bytes names.table)
  pub receipt : string_bytes names.receipt ≡ string_bytes names.table ++ codes ".receipt"

abbrev pub AreNamesOf : List Period → List PartNames → Type 0
AreNamesOf periods names = AllZip IsNamesOf periods names

pub record IsFilesOf (names : PartNames) (files : PartFiles) : Type 0 where
  pub table : files.table.now ≡ string_bytes names.table
  pub receipt : files.receipt.now ≡ string_bytes names.receipt

abbrev pub AreFilesOf : List PartNames → List PartFiles → Type 0
AreFilesOf names files = AllZip IsFilesOf names files

-- so parts have the names of these periods, in their order
pub record AreNamed (periods : List Period) (parts : List PartFiles) : Type 0 where
  pub names : List PartNames
  pub of_periods : AreNamesOf periods names
  pub files : AreFilesOf names parts
