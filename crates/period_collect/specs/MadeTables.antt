-- The table of the files of a period, and its receipt.
use Rattle.std.specs.Prelude.{◌≡◌, ◌<◌, ◌⊎◌, ◌||◌, ℕ, Bool, true, false, List, [], ◌∷◌, ◌++◌, None, Some, IfSome, length, option_map, map, string_bytes}
use Rattle.std.specs.List.{flat_map}
use Rattle.std.specs.Borrow.{Bor}
use Rattle.std.specs.declared.alloc.Global.{Global}
use Rattle.std.specs.declared.string.String.{String}
use Rattle.std.specs.declared.vec.Vec.{Vec}
use Rattle.ipfix_session.specs.declared.source.Source as source
use Rattle.input_sources.specs.declared.opening.OpenSource as opening
use Rattle.report_writing.specs.declared.write_lines.WriteLines as writing
use Rattle.report_writing.specs.Told.{AreToldTo}
use Rattle.report_writing.specs.declared.status.Status.{Status}
use Rattle.report_writing.specs.declared.status.Status.TheVariants.{Well, SessionFault, NotOpened, Failed}
use Rattle.table_receipts.specs.Values.{file_value}
use Rattle.command_collect.specs.declared.job.CollectJob.{CollectJob}
use Rattle.command_collect.specs.ReceiptedRuns.{HinderFiles, ReceiptedFiles}
use Rattle.command_collect.specs.declared.receipts.making.MadeWith.{MadeWith}
use Rattle.command_collect.specs.declared.receipts.run.Ended.{Ended}
use Rattle.command_collect.specs.declared.receipts.run.Hindrance.{Hindrance}
use Rattle.command_collect.specs.declared.receipts.run.Hindrance.TheVariants.{SumTooLarge, InputTwice}
use Rattle.command_collect.specs.declared.receipts.run.Receipted.{Receipted}
use Rattle.period_collect.specs.Exporters.{IsJobWith}
use Rattle.period_collect.specs.LeftOutFiles.{has_any, kept_of, paths_at}
use Rattle.period_collect.specs.ManyRows.{LeavesOutForRows, SaysRows}
use Rattle.period_collect.specs.Parting.{IsParted, IsSameLeftOut}
use Rattle.period_collect.specs.Paths.{AreFilePaths, texts_of}
use Rattle.period_collect.specs.declared.kept_receipt.KeptReceipt.{KeptReceipt}
use Rattle.period_collect.specs.declared.maker.MadeTable.{MadeTable}
use Rattle.period_collect.specs.declared.maker.TableMaker.{TableMaker}
use Rattle.period_collect.specs.declared.table_maker.Tried.{Tried}
use Rattle.period_collect.specs.declared.table_maker.Tried.TheVariants.{Stands, Without}

-- both name the same maker of a table, the same plan and the same files
pub record IsSameMade (one other : MadeWith) : Type 0 where
  pub collectd : string_bytes one.collectd ≡ string_bytes other.collectd
  pub plan : string_bytes one.plan ≡ string_bytes other.plan
  pub elements : map file_value one.elements.items ≡ map file_value other.elements.items
  pub maps : map file_value one.maps.items ≡ map file_value other.maps.items

-- a receipt of this text is kept
abbrev pub Holds : KeptReceipt → List ℕ → Type 0
Holds kept text = option_map (λ v. v.items) kept.text ≡ Some text

-- the status of a run in which a session had a fault, or none had
abbrev pub status_with : Bool → Status
status_with true = SessionFault
status_with false = Well

-- a run ended with this table and its receipt, and a session had a fault or none had
pub record EndsWith (ended : Ended (Vec ℕ Global) KeptReceipt) (table : MadeTable) : Type 0 where
  pub status_is : ended.status ≡ status_with table.had_fault
  pub text_is : ended.out.items ≡ table.text.items
  pub receipt_is : Holds ended.place table.receipt.items

-- the same of a run without some files, which count as a fault
pub record EndsWithoutSome (ended : Ended (Vec ℕ Global) KeptReceipt) (out : List ℕ) (table : MadeTable) : Type 0 where
  pub made : MadeTable
  pub ends : EndsWith ended made
  pub same_text : table.text ≡ made.text
  pub same_receipt : table.receipt ≡ made.receipt
  pub fault_is : table.had_fault ≡ (made.had_fault || has_any out)

-- a run ended without a table: a file could not be opened; or the run failed, or it kept no receipt
abbrev pub EndsWithout : Ended (Vec ℕ Global) KeptReceipt → Status → Type 0
EndsWithout ended NotOpened = ended.status ≡ NotOpened
EndsWithout ended Failed = (ended.status ≡ Failed) ⊎ (ended.place.text ≡ None)
EndsWithout ended status = ⊥

-- there is no table of the rest: a file could not be opened again, or all files are left out, or memory ran out
abbrev pub HasNoRest : Status → Type 0
HasNoRest status = (status ≡ NotOpened) ⊎ (status ≡ Failed)

-- all that is left out, one lot after another
abbrev pub all_out : List (List ℕ) → List ℕ
all_out lots = flat_map (λ (lot : List ℕ). lot) lots

module _ {S O E : Type 0} {as_source : source.Ghosts S} {as_opener : opening.Ghosts O S} {as_writer : writing.Ghosts E} where
  -- the files of exactly these paths but those at some places, in their order, were collected with a receipt, into an empty text, and
  -- the run ended so; the maker opened them, its lines are those of this run, and the receipt names what was left out. It says that its
  -- files hinder a table only where they do
  pub record IsRun (before after : TableMaker S O E as_source as_opener as_writer) (begins : ℕ) (files : List (String Global)) (out : List ℕ) (ended : Ended (Vec ℕ Global) KeptReceipt) : Type 0 where
    pub paths : List (String Global)
    pub words : List (Bor (List ℕ))
    pub with_exporters : CollectJob
    pub to : Receipted (Vec ℕ Global) KeptReceipt
    pub are_paths : AreFilePaths before.job.recordings.now begins files paths
    pub are_words : texts_of words ≡ kept_of out (map string_bytes paths)
    pub is_job : IsJobWith before.job.collect words with_exporters
    pub empty : to.out.items ≡ []
    pub same_made : IsSameMade to.made before.job.made.now
    pub left_out : map string_bytes to.made.left_out.items ≡ paths_at out (map string_bytes paths)
    pub runs : ReceiptedFiles (λ v. Some v.items) Holds to ended as_source.seen as_source.failure with_exporters as_opener.opens as_opener.sizes as_opener.refuses as_opener.coming
        before.opening after.opening words (AreToldTo as_writer.lines before.err after.err)
    pub hindered : IfSome ended.hindrance (HinderFiles as_source.seen with_exporters as_opener.opens as_opener.sizes as_opener.coming before.opening after.opening words)
    pub same_job : after.job ≡ before.job

  -- ---- what is left out, run by run

  -- a run of all but those at some places ended without a table, since its files are so
  pub record IsHindered (before tried : TableMaker S O E as_source as_opener as_writer) (begins : ℕ) (files : List (String Global)) (out : List ℕ) (hindrance : Hindrance) : Type 0 where
    pub ended : Ended (Vec ℕ Global) KeptReceipt
    pub run : IsRun before tried begins files out ended
    pub is : ended.hindrance ≡ Some hindrance

  -- so these go, too: if a sum is too large, those that have most of it, of all files; if two have the same octets, the later
  abbrev pub LeavesOutMore : TableMaker S O E as_source as_opener as_writer → TableMaker S O E as_source as_opener as_writer → ℕ → List (String Global) → List ℕ → List ℕ → Hindrance → Type 0
  LeavesOutMore tried after begins files out lot SumTooLarge = (out ≡ []) × IsParted tried after begins files lot
  LeavesOutMore tried after begins files out lot (InputTwice first second) = IsSameLeftOut tried after begins files out lot first second

  -- after such a run a lot more is left out
  pub record LeavesHindering (before after : TableMaker S O E as_source as_opener as_writer) (begins : ℕ) (files : List (String Global)) (out lot : List ℕ) : Type 0 where
    pub tried : TableMaker S O E as_source as_opener as_writer
    pub hindrance : Hindrance
    pub hindered : IsHindered before tried begins files out hindrance
    pub leaves_out : LeavesOutMore tried after begins files out lot hindrance

  -- a run of all but those at some places ended with this table and its receipt, and with a fault if a session had one or some are left out
  pub record IsRunWith (before after : TableMaker S O E as_source as_opener as_writer) (begins : ℕ) (files : List (String Global)) (out : List ℕ) (table : MadeTable) : Type 0 where
    pub ended : Ended (Vec ℕ Global) KeptReceipt
    pub run : IsRun before after begins files out ended
    pub free : ended.hindrance ≡ None
    pub ends : EndsWithoutSome ended out table

  -- after such a run those are left out that have too many rows, at least one
  pub record LeavesLarge (before after : TableMaker S O E as_source as_opener as_writer) (begins : ℕ) (files : List (String Global)) (out lot : List ℕ) : Type 0 where
    pub tried : TableMaker S O E as_source as_opener as_writer
    pub table : MadeTable
    pub run : IsRunWith before tried begins files out table
    pub leaves_out : LeavesOutForRows tried after begins files out table.receipt.items lot
    pub some : 0 < length lot

  abbrev pub LeavesLot : TableMaker S O E as_source as_opener as_writer → TableMaker S O E as_source as_opener as_writer → ℕ → List (String Global) → List ℕ → List ℕ → Type 0
  LeavesLot before after begins files out lot = LeavesHindering before after begins files out lot ⊎ LeavesLarge before after begins files out lot

  -- one lot after another, beside those at some places
  abbrev pub LeaveLots : TableMaker S O E as_source as_opener as_writer → TableMaker S O E as_source as_opener as_writer → ℕ → List (String Global) → List ℕ → List (List ℕ) → Type 0
  LeaveLots before after begins files out [] = after ≡ before
  LeaveLots before after begins files out (lot ∷ lots) =
      (between : TableMaker S O E as_source as_opener as_writer) × LeavesLot before between begins files out lot × LeaveLots between after begins files (out ++ lot) lots

  -- ---- the table

  -- the run of all but those at some places ended with this table, and none of its files has too many rows
  pub record IsStanding (before after : TableMaker S O E as_source as_opener as_writer) (begins : ℕ) (files : List (String Global)) (out : List ℕ) (table : MadeTable) : Type 0 where
    pub ran : TableMaker S O E as_source as_opener as_writer
    pub run : IsRunWith before ran begins files out table
    pub none_goes : LeavesOutForRows ran after begins files out table.receipt.items []

  -- the table of the run of all but what was left out before, and whether a session had a fault
  pub record IsTableOf (before after : TableMaker S O E as_source as_opener as_writer) (begins : ℕ) (files : List (String Global)) (table : MadeTable) : Type 0 where
    pub lots : List (List ℕ)
    pub between : TableMaker S O E as_source as_opener as_writer
    pub left_out : LeaveLots before between begins files [] lots
    pub stands : IsStanding between after begins files (all_out lots) table

  -- a run ended without a table, and its files did not hinder one
  pub record IsWithoutTable (before after : TableMaker S O E as_source as_opener as_writer) (begins : ℕ) (files : List (String Global)) (out : List ℕ) (status : Status) : Type 0 where
    pub ended : Ended (Vec ℕ Global) KeptReceipt
    pub run : IsRun before after begins files out ended
    pub free : ended.hindrance ≡ None
    pub ends : EndsWithout ended status

  -- which files of a table with this receipt have too many rows isn't known for this reason
  abbrev pub LacksRows : TableMaker S O E as_source as_opener as_writer → TableMaker S O E as_source as_opener as_writer → List ℕ → Status → Type 0
  LacksRows before after receipt status =
      ((status ≡ Failed) × (after ≡ before)) ⊎ ((rows : ℕ) × SaysRows receipt rows × (before.job.rows_of_a_session < rows) × HasNoRest status)

  -- a run ended with a table, and which of its files have too many rows isn't known: memory ran out; or the table has more rows than a
  -- session may have, and a file could not be opened again
  pub record IsNotLookedAt (before after : TableMaker S O E as_source as_opener as_writer) (begins : ℕ) (files : List (String Global)) (out : List ℕ) (status : Status) : Type 0 where
    pub ran : TableMaker S O E as_source as_opener as_writer
    pub table : MadeTable
    pub run : IsRunWith before ran begins files out table
    pub why : LacksRows ran after table.receipt.items status

  -- why there is no table after some were left out: their run ended without one; or its files hinder one, and there is no table of the
  -- rest; or its files with too many rows aren't known; or all are left out, or memory ran out, and there was no run
  abbrev pub HasNoTable : TableMaker S O E as_source as_opener as_writer → TableMaker S O E as_source as_opener as_writer → ℕ → List (String Global) → List ℕ → Status → Type 0
  HasNoTable between after begins files out status =
      IsWithoutTable between after begins files out status
      ⊎ ((tried : TableMaker S O E as_source as_opener as_writer) × (hindrance : Hindrance) × IsHindered between tried begins files out hindrance × HasNoRest status)
      ⊎ IsNotLookedAt between after begins files out status
      ⊎ ((status ≡ Failed) × (after ≡ between))

  pub record IsNotMade (before after : TableMaker S O E as_source as_opener as_writer) (begins : ℕ) (files : List (String Global)) (status : Status) : Type 0 where
    pub lots : List (List ℕ)
    pub between : TableMaker S O E as_source as_opener as_writer
    pub left_out : LeaveLots before between begins files [] lots
    pub ends : HasNoTable between after begins files (all_out lots) status

  -- the table of all but those at some places stands, or a lot more is left out, of at least one
  abbrev pub IsTried : TableMaker S O E as_source as_opener as_writer → TableMaker S O E as_source as_opener as_writer → ℕ → List (String Global) → List ℕ → Tried → Type 0
  IsTried before after begins files out (Stands table) = IsStanding before after begins files out table
  IsTried before after begins files out (Without lot) = LeavesLot before after begins files out lot.items × (0 < length lot.items)
