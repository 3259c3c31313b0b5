-- Which files of a period are left out of its table since they have too many rows.
use Rattle.std.specs.Prelude.{◌≡◌, ◌<◌, ◌≤◌, ℕ, suc, nat_lt, List, [], ◌∷◌, ◌++◌, codes, decimal, Option, None, Some, length, map, string_bytes, if◌then◌else◌}
use Rattle.std.specs.List.{AllZip, flat_map}
use Rattle.std.specs.declared.alloc.Global.{Global}
use Rattle.std.specs.declared.string.String.{String}
use Rattle.ipfix_session.specs.declared.source.Source as source
use Rattle.input_sources.specs.declared.opening.OpenSource as opening
use Rattle.report_writing.specs.declared.write_lines.WriteLines as writing
use Rattle.report_writing.specs.Told.{AreToldTo}
use Rattle.flow_table.specs.Plans.{PlanValue}
use Rattle.flow_table.specs.Tables.{IsTable}
use Rattle.flow_table.specs.declared.table.Table.{Table}
use Rattle.table_receipts.specs.Texts.{receipt_text}
use Rattle.table_receipts.specs.Values.{FitsReceipt, ReceiptValue}
use Rattle.period_collect.specs.LeftOutFiles.{Alone, kept_of, kept_place, paths_at}
use Rattle.period_collect.specs.Parting.{AreAlone, IsAlone}
use Rattle.period_collect.specs.Paths.{AreFilePaths}
use Rattle.period_collect.specs.declared.maker.TableMaker.{TableMaker}

-- the line about one that has more rows than a session may have, and the lines about several
unfoldable pub large_line : ℕ → List ℕ → List ℕ
large_line limit path = codes "collectd: tables: left out, since it has more than " ++ (decimal limit ++ (codes " rows: " ++ (path ++ codes "\n")))

abbrev pub large_lines : ℕ → List (List ℕ) → List ℕ
large_lines limit paths = flat_map (large_line limit) paths

-- ---- how many rows there are

-- the text is that of the receipt of a table with so many rows, and of none with another number of them
pub record SaysRows (text : List ℕ) (rows : ℕ) : Type 0 where
  pub receipt : ReceiptValue
  pub text_is : receipt_text receipt ≡ text
  pub rows_are : receipt.table.rows ≡ rows
  pub no_other : (r : ReceiptValue) → FitsReceipt r → receipt_text r ≡ text → r.table.rows ≡ rows

abbrev pub row_count : Option Table → ℕ
row_count None = 0
row_count (Some table) = length table.rows.items

-- the table of a file by itself has so many rows; where a sum of it is too large there is no table, and no row
abbrev pub HasRows : PlanValue → Alone → ℕ → Type 0
HasRows plan None rows = rows ≡ 0
HasRows plan (Some rs) rows = (table : Table) × IsTable plan rs table × (length table.rows.items ≡ rows)

-- ---- those with more than a limit

-- their places, by the rows of each, counted from one on
abbrev pub places_above : ℕ → ℕ → List ℕ → List ℕ
places_above limit place [] = []
places_above limit place (rows ∷ others) = if nat_lt limit rows then place ∷ places_above limit (suc place) others else places_above limit (suc place) others

-- of files by themselves
pub record AreLarge (plan : PlanValue) (limit : ℕ) (alone : List Alone) (large : List ℕ) : Type 0 where
  pub rows : List ℕ
  pub have : AllZip (HasRows plan) alone rows
  pub are : large ≡ places_above limit 0 rows

module _ {S O E : Type 0} {as_source : source.Ghosts S} {as_opener : opening.Ghosts O S} {as_writer : writing.Ghosts E} where
  -- the file of a path was collected by itself, and has so many rows
  pub record HasRowsAlone (before after : TableMaker S O E as_source as_opener as_writer) (path : List ℕ) (rows : ℕ) : Type 0 where
    pub alone : Alone
    pub is_alone : IsAlone before after path alone
    pub has : HasRows before.job.collect.plan.now alone rows

  -- the files of these paths were collected, each by itself, and these have more rows than the job lets a session have
  pub record FindsLarge (before after : TableMaker S O E as_source as_opener as_writer) (paths : List (List ℕ)) (large : List ℕ) : Type 0 where
    pub alone : List Alone
    pub are_alone : AreAlone before after paths alone
    pub are_large : AreLarge before.job.collect.plan.now before.job.rows_of_a_session alone large

  -- of all files of a period but those at some places these are left out, all at once; and a line was told for each
  pub record AreLeftOutForRows (before after : TableMaker S O E as_source as_opener as_writer) (begins : ℕ) (files : List (String Global)) (out lot : List ℕ) : Type 0 where
    pub paths : List (String Global)
    pub collected : TableMaker S O E as_source as_opener as_writer
    pub large : List ℕ
    pub are_paths : AreFilePaths before.job.recordings.now begins files paths
    pub finds : FindsLarge before collected (kept_of out (map string_bytes paths)) large
    pub are : lot ≡ map (kept_place out (length paths)) large
    pub told : AreToldTo as_writer.lines collected.err after.err (large_lines before.job.rows_of_a_session (paths_at lot (map string_bytes paths)))
    pub same_opening : after.opening ≡ collected.opening
    pub same_job : after.job ≡ collected.job

  -- the receipt of a table of all files but those at some places says so many rows: if a session may have as many, no file is looked at,
  -- and none goes; if they are more, those go that have more by themselves
  pub record LeavesOutForRows (before after : TableMaker S O E as_source as_opener as_writer) (begins : ℕ) (files : List (String Global)) (out receipt lot : List ℕ) : Type 0 where
    pub rows : ℕ
    pub says : SaysRows receipt rows
    pub few : rows ≤ before.job.rows_of_a_session → (lot ≡ []) × (after ≡ before)
    pub many : before.job.rows_of_a_session < rows → AreLeftOutForRows before after begins files out lot
