-- How a table was made again of files, and how that was told.
use Rattle.std.specs.Prelude.{◌≡◌, ◌≢◌, ◌⊎◌, ℕ, List, [], ◌++◌, All, Option, None, Some, map}
use Rattle.element_registry.specs.Registries.{Known}
use Rattle.flow_maps.specs.declared.maps.Maps.{Maps}
use Rattle.flow_plan_fields.specs.declared.named.NamedKey.{NamedKey}
use Rattle.input_sources.specs.Had.{IsUnread, PathsAreOpened}
use Rattle.input_sources.specs.MapsLoaded.{AreMapsOf, TellsNoMaps}
use Rattle.input_sources.specs.Origins.{AreFiles}
use Rattle.input_sources.specs.PlansTold.{IsLoadedPlan, TellsNoText}
use Rattle.input_sources.specs.declared.maps.LoadedMap.{LoadedMap}
use Rattle.input_sources.specs.declared.loaded_plan.LoadedPlan.{LoadedPlan}
use Rattle.ipfix_session.specs.Sources.{SourceView}
use Rattle.report_writing.specs.declared.origin.Origin.{Origin}
use Rattle.report_writing.specs.declared.reason.Reason.{Reason}
use Rattle.report_writing.specs.declared.status.Status.{Status}
use Rattle.report_writing.specs.declared.status.Status.TheVariants.{Well, SessionFault, NotOpened, Failed}
use Rattle.report_writing.specs.declared.verbosity.Verbosity.{Verbosity}
use Rattle.table_receipts.specs.Values.{FileValue, IntoValue, ReceiptValue, file_value}
use Rattle.table_receipts.specs.declared.receipt.FileReceipt.{FileReceipt}
use Rattle.receipt_maps.specs.MapsTold.{AreMapsWith}
use Rattle.receipt_maps.specs.declared.maps.MapsOfPlan.{MapsOfPlan}
use Rattle.receipt_differences.specs.Differences.{table_differs}
use Rattle.receipt_differences.specs.Remade.{elements_differ, maps_differ}
use Rattle.command_collect.specs.CollectLines.{collect_fault_line}
use Rattle.command_collect.specs.Told.{TellsBehind, TellsNotOpened}
use Rattle.command_collect.specs.Faults.{run_fault_line}
use Rattle.command_collect.specs.declared.receipts.remaking.RemakeFault.TheVariants.{Collect, Run}
use Rattle.table_remaking.specs.Again.{IsCompared, said_by}
use Rattle.table_remaking.specs.Faults.{IsDue}
use Rattle.table_remaking.specs.declared.again.AgainFault.{AgainFault}
use Rattle.table_remaking.specs.declared.again.AgainFault.TheVariants.{NotMade, OutOfMemory}
use Rattle.table_remaking.specs.declared.again.MadeBy.{MadeBy}
use Rattle.table_remaking.specs.declared.again.TableThere.{TableThere}
use Rattle.command_verify.specs.Verified.{TellsDifferences, Verifies, memory_line, merged_line}
use Rattle.command_verify.specs.declared.verify.VerifyJob.{VerifyJob}

abbrev pub again_fault_line : AgainFault → List ℕ
again_fault_line (NotMade (Collect fault)) = collect_fault_line fault
again_fault_line (NotMade (Run fault)) = run_fault_line fault
again_fault_line OutOfMemory = memory_line

-- a table that is there, and what its receipt says
pub record ThereValue : Type 0 where
  pub said : ReceiptValue
  pub table : List ℕ

abbrev pub there_value : TableThere → ThereValue
there_value there = record { said = said_by there; table = there.table.now }

-- ---- what it isn't made again by

-- the files of elements that are given have not the octets of those that the receipt tells
abbrev pub given_differ : VerifyJob → ReceiptValue → List ℕ
given_differ job said = elements_differ (map file_value job.element_files.now) said.elements

-- the files of maps have not the octets of those that the receipt tells
abbrev pub files_differ : MapsOfPlan → ReceiptValue → List ℕ
files_differ maps said = maps_differ (map file_value maps.files.items) said.maps

-- the octets of the table differ from what its receipt tells
abbrev pub own_differ : ThereValue → List ℕ
own_differ there = table_differs there.said.table there.table

-- ---- what it is made again by

abbrev pub names_of : List FileValue → List (List ℕ)
names_of files = map (λ (f : FileValue). f.name) files

-- the names of files that a receipt tells
abbrev pub names_said : List FileReceipt → List (List ℕ)
names_said files = names_of (map file_value files)

-- files of these names have texts that gave these maps, each of its own
abbrev pub AreMapsNamed : (List ℕ → List ℕ → Type 0) → List (List ℕ) → List NamedKey → MapsOfPlan → Type 0
AreMapsNamed Has names keys maps = (read : List LoadedMap) × AreMapsOf Has names read × AreMapsWith names read keys maps

-- the first file that gives no map was told, or that there was no memory
abbrev pub HasNoMaps : (List ℕ → List ℕ → Type 0) → (List ℕ → Reason → Type 0) → Verbosity → List (List ℕ) → (List ℕ → Type 0) → Status → Type 0
HasNoMaps Has Refuses verbosity names AreTold NotOpened = TellsNoMaps Has Refuses verbosity names AreTold
HasNoMaps Has Refuses verbosity names AreTold Failed = AreTold memory_line
HasNoMaps Has Refuses verbosity names AreTold Well = ⊥
HasNoMaps Has Refuses verbosity names AreTold SessionFault = ⊥

-- the plan in the receipt, its maps, and the exporters that are told of the files
pub record IsMadeBy (job : VerifyJob) (loaded : LoadedPlan) (maps : Option Maps) (by : MadeBy) : Type 0 where
  pub plan : by.loaded ≡ loaded
  pub maps_are : by.maps ≡ maps
  pub exporters : by.exporters.items ≡ job.exporters.now

-- ---- how it ended

module _ (there : ThereValue) (status : Status) where
  -- the table alone is compared, and this is told after what differs, unless memory runs out
  abbrev pub ComparesAlone : List ℕ → (List ℕ → Type 0) → Type 0
  ComparesAlone behind AreTold =
      TellsDifferences there.said (own_differ there ++ behind) status AreTold
      ⊎ ((status ≡ Failed) × AreTold memory_line)

module _ {S : Type 0} (seen : S → SourceView) (there : ThereValue) (status : Status) where
  -- of these sources it was made again, and what differs was told; or it wasn't made
  abbrev pub TellsAgain : MadeBy → List S → List Origin → (List ℕ → Type 0) → Type 0
  TellsAgain by sources origins AreTold =
      ((lines : List ℕ) × IsCompared seen by there.said sources origins there.table lines × TellsDifferences there.said lines status AreTold)
      ⊎ ((fault : AgainFault) × IsDue seen by there.said sources origins fault × (status ≡ Failed) × AreTold (again_fault_line fault))

module _ {S O : Type 0} (seen : S → SourceView) (job : VerifyJob) (there : ThereValue) (status : Status)
    (opens : O → List ℕ → S → Type 0) (sizes : O → List ℕ → Option ℕ → Type 0) (refuses : O → List ℕ → Reason → Type 0) (coming : O → Option (List S)) (before after : O) (AreTold : List ℕ → Type 0) where
  -- a file can't be opened
  pub record LacksFile : Type 0 where
    pub not_opened : status ≡ NotOpened
    pub told : TellsNotOpened (sizes before) (refuses before) (map (λ path. path.now) job.again.now) job.verbosity AreTold

  -- each was opened once, and none was read before
  pub record OpensFiles (by : MadeBy) : Type 0 where
    pub sources : List S
    pub had : PathsAreOpened opens coming before after job.again.now sources
    pub unread : All (IsUnread seen) sources
    pub told : TellsBehind (AreFiles (sizes before) job.again.now) job.verbosity [] AreTold (TellsAgain seen there status by sources)

  abbrev pub OpensOrLacks : MadeBy → Type 0
  OpensOrLacks by = LacksFile ⊎ OpensFiles by

  -- by this plan and these maps
  pub record OpensWith (loaded : LoadedPlan) (maps : Option Maps) : Type 0 where
    pub by : MadeBy
    pub is_made_by : IsMadeBy job loaded maps by
    pub opens_files : OpensOrLacks by

  -- or memory runs out
  abbrev pub OpensBy : LoadedPlan → Option Maps → Type 0
  OpensBy loaded maps = OpensWith loaded maps ⊎ ((status ≡ Failed) × AreTold memory_line)

  -- with other files of maps than it was made with it isn't made again; else by these
  abbrev pub ComparesWith : LoadedPlan → MapsOfPlan → Type 0
  ComparesWith loaded maps =
      ((files_differ maps there.said ≢ []) × ComparesAlone there status (files_differ maps there.said) AreTold)
      ⊎ ((status ≡ Failed) × AreTold memory_line)
      ⊎ ((files_differ maps there.said ≡ []) × OpensBy loaded maps.maps)

module _ {S O : Type 0} (seen : S → SourceView) (job : VerifyJob) (there : ThereValue) (status : Status)
    (opens : O → List ℕ → S → Type 0) (sizes : O → List ℕ → Option ℕ → Type 0) (refuses : O → List ℕ → Reason → Type 0) (coming : O → Option (List S)) (before after : O) (AreTold : List ℕ → Type 0)
    (Has : List ℕ → List ℕ → Type 0) (RefusesText : List ℕ → Reason → Type 0) where
  -- a file that the receipt names gives no map; or the maps of the plan are those of these files
  abbrev pub ComparesMapped : LoadedPlan → Type 0
  ComparesMapped loaded =
      HasNoMaps Has RefusesText job.verbosity (names_of there.said.maps) AreTold status
      ⊎ ((maps : MapsOfPlan) × AreMapsNamed Has (names_of there.said.maps) loaded.maps.keys.items maps × ComparesWith seen job there status opens sizes refuses coming before after AreTold loaded maps)

  -- if the plan names some
  abbrev pub ComparesLoaded : LoadedPlan → Type 0
  ComparesLoaded loaded =
      ((loaded.maps.maps.items ≡ []) × OpensBy seen job there status opens sizes refuses coming before after AreTold loaded None)
      ⊎ ((loaded.maps.maps.items ≢ []) × ComparesMapped loaded)

  -- the text in the receipt is no plan
  pub record LacksPlan (known : List Known) : Type 0 where
    pub told : TellsNoText known there.said.plan AreTold
    pub not_opened : status ≡ NotOpened

  -- it is that of a plan, with these elements
  pub record HasPlan (known : List Known) : Type 0 where
    pub loaded : LoadedPlan
    pub is_loaded : IsLoadedPlan known there.said.plan loaded
    pub compares : ComparesLoaded loaded

  -- with other files of elements than it was made with it isn't made again; else by the plan of the receipt
  abbrev pub ComparesGiven : List Known → Type 0
  ComparesGiven known =
      ((given_differ job there.said ≢ []) × ComparesAlone there status (given_differ job there.said) AreTold)
      ⊎ ((status ≡ Failed) × AreTold memory_line)
      ⊎ ((given_differ job there.said ≡ []) × (LacksPlan known ⊎ HasPlan known))

  -- if the receipt says that its rows were merged into days or months, that is told, and no file is opened
  abbrev pub ComparesUnmerged : List Known → Option IntoValue → Type 0
  ComparesUnmerged known None = ComparesGiven known
  ComparesUnmerged known (Some into) = (status ≡ NotOpened) × AreTold (merged_line into.interval) × (after ≡ before)

  -- without files to make it of the table alone is compared
  abbrev pub ComparesFiles : List Known → Type 0
  ComparesFiles known =
      ((job.again.now ≡ []) × ComparesAlone there status [] AreTold)
      ⊎ ((job.again.now ≢ []) × ComparesUnmerged known there.said.table.into)

module _ {S O : Type 0} (seen : S → SourceView) (job : VerifyJob) (status : Status)
    (opens : O → List ℕ → S → Type 0) (sizes : O → List ℕ → Option ℕ → Type 0) (refuses : O → List ℕ → Reason → Type 0) (coming : O → Option (List S)) (before after : O) (AreTold : List ℕ → Type 0) where
  -- the receipt was read, and then the table, which is compared; or one of them wasn't read
  abbrev pub RunsVerify : (List ℕ → List ℕ → Type 0) → (List ℕ → Reason → Type 0) → List Known → Type 0
  RunsVerify Has RefusesText known =
      Verifies Has RefusesText job status AreTold (λ said table. ComparesFiles seen job (record { said = said; table = table }) status opens sizes refuses coming before after AreTold Has RefusesText known)
