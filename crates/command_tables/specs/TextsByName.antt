-- What stands under the names of periods and of their receipts.
use Rattle.std.specs.Prelude.{◌≡◌, ◌⊎◌, ℕ, List, ◌++◌, None, Some, codes}
use Rattle.exporter_names.specs.Cuts.{HasNo, joined}
use Rattle.exporter_names.specs.RecordedExporters.{slash}
use Rattle.recording_periods.specs.PeriodFolders.{HasNoPeriod, IsPeriodAt}
use Rattle.report_writing.specs.declared.reason.Reason.{Reason}
use Rattle.report_writing.specs.declared.reason.Reason.TheVariants.{NoSuchFile}
use Rattle.period_tables.specs.Standing.{PlaceView}

-- a name is that of the period that begins then
abbrev pub NamesPeriod : ℕ → List ℕ → Type 0
NamesPeriod begins name = (day : List ℕ) × (time : List ℕ) × (name ≡ joined slash day time) × IsPeriodAt begins day time

-- it is that of none: it has no slash, or what stands before and after its last one is none's
abbrev pub NamesNone : List ℕ → Type 0
NamesNone name =
    HasNo slash name ⊎ ((day : List ℕ) × (time : List ℕ) × (name ≡ joined slash day time) × HasNo slash time × HasNoPeriod day time)

-- a path is the name of a receipt, or else of a table
abbrev pub IsOfReceipt : List ℕ → List ℕ → Type 0
IsOfReceipt path name = path ≡ name ++ codes ".receipt"

module _ {T : Type 0} (sees : PlaceView T) (tables : T) where
  -- the table of the period of a name has this text
  abbrev pub IsTableText : List ℕ → List ℕ → Type 0
  IsTableText name text = (begins : ℕ) × NamesPeriod begins name × sees.text_at tables begins text

  -- its receipt has
  abbrev pub IsReceiptText : List ℕ → List ℕ → Type 0
  IsReceiptText name text = (begins : ℕ) × NamesPeriod begins name × sees.receipt_at tables begins (Some text)

  -- under the name of a period is the text of its table, and under that of its receipt the receipt's
  abbrev pub HasText : List ℕ → List ℕ → Type 0
  HasText path text = IsTableText path text ⊎ ((name : List ℕ) × IsOfReceipt path name × IsReceiptText name text)

  -- the place refuses what stands under the name of a period; or it has no receipt; or no period has the name
  abbrev pub RefusesNamed : List ℕ → Reason → Type 0
  RefusesNamed name reason =
      ((begins : ℕ) × NamesPeriod begins name × (sees.refuses tables begins reason ⊎ ((reason ≡ NoSuchFile) × sees.receipt_at tables begins None)))
      ⊎ ((reason ≡ NoSuchFile) × NamesNone name)

  abbrev pub RefusesText : List ℕ → Reason → Type 0
  RefusesText path reason = RefusesNamed path reason ⊎ ((name : List ℕ) × IsOfReceipt path name × RefusesNamed name reason)
