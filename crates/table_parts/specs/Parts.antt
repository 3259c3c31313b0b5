-- The parts of a table, by their receipts.
use Rattle.std.specs.Prelude.{◌≡◌, ◌↔◌, ℕ, ◌+◌, List, [], ◌∷◌, ◌++◌, IsTrue, Option, Some, None, length, map, Vec}
use Rattle.std.specs.declared.alloc.Global.{Global}
use Rattle.std.specs.List.{AllZip}
use Rattle.std.specs.Str.{IsUtf8}
use Rattle.report_writing.specs.declared.reason.Reason.{Reason}
use Rattle.table_receipts.specs.Texts.{receipt_text}
use Rattle.table_receipts.specs.Values.{FileValue, FitsReceipt, ReceiptValue, file_value}
use Rattle.table_receipts.specs.declared.fault.ReceiptFault.{ReceiptFault}
use Rattle.table_receipts.specs.declared.fault.ReceiptFault.TheVariants as faults
use Rattle.receipt_merging.specs.Parts.{PartValue, part_value}
use Rattle.receipt_merging.specs.declared.parts.Part.{Part}
use Rattle.table_parts.specs.declared.files.PartFiles.{PartFiles}
use Rattle.table_parts.specs.declared.parts.Lack.{Lack}
use Rattle.table_parts.specs.declared.parts.Lack.TheVariants as lacks
use Rattle.table_parts.specs.declared.parts.NotRead.{NotRead}
use Rattle.table_parts.specs.declared.parts.NotRead.TheVariants.{OutOfMemory, Receipt}
use Rattle.table_parts.specs.declared.plan.PlanAtHand.{PlanAtHand}

-- two files have the same octets, by their digests
abbrev pub HasSameOctets : FileValue → FileValue → Type 0
HasSameOctets file other = (file.octets ≡ other.octets) × (file.digest ≡ other.digest)

-- files have, one after another
abbrev pub HaveSameOctets : List FileValue → List FileValue → Type 0
HaveSameOctets files others = AllZip HasSameOctets files others

-- a part was made under the plan at hand
pub record HasPlan (plan : PlanAtHand) (receipt : ReceiptValue) : Type 0 where
  pub text : receipt.plan ≡ plan.text.now
  pub elements : HaveSameOctets receipt.elements (map file_value plan.elements.now)
  pub maps : HaveSameOctets receipt.maps (map file_value plan.maps.now)

abbrev pub part_values : Vec Part Global → List PartValue
part_values parts = map part_value parts.items

module _ (Has : List ℕ → List ℕ → Type 0) (plan : PlanAtHand) where
  -- the path of its receipt has this receipt's text
  pub record IsPart (files : PartFiles) (part : PartValue) : Type 0 where
    pub has : Has files.receipt.now (receipt_text part.receipt)
    pub plan_is : IsTrue part.has_plan ↔ HasPlan plan part.receipt

  -- all of them, in their order
  abbrev pub AreParts : List PartFiles → List PartValue → Type 0
  AreParts files parts = AllZip IsPart files parts

-- a text is no receipt's
abbrev pub IsNoReceipt : List ℕ → Type 0
IsNoReceipt text = IsUtf8 text → (r : ReceiptValue) → FitsReceipt r → receipt_text r ≡ text → ⊥

abbrev pub IsFaultOf : List ℕ → ReceiptFault → Type 0
IsFaultOf text faults.OutOfMemory = Unit {0}
IsFaultOf text faults.NotAReceipt = IsNoReceipt text

-- the path of a receipt has no text, for this reason; or it has one that is no receipt's
abbrev pub LacksReceipt : (Has : List ℕ → Type 0) → (Refuses : Reason → Type 0) → Option Reason → Type 0
LacksReceipt Has Refuses (Some reason) = Refuses reason
LacksReceipt Has Refuses None = (text : List ℕ) × Has text × IsNoReceipt text

-- why the receipt of a part wasn't read: there was no memory, or that
abbrev pub LacksPart : (Has : List ℕ → List ℕ → Type 0) → (Refuses : List ℕ → Reason → Type 0) → PartFiles → Lack → Type 0
LacksPart Has Refuses files lacks.OutOfMemory = Unit {0}
LacksPart Has Refuses files (lacks.Receipt why) = LacksReceipt (Has files.receipt.now) (Refuses files.receipt.now) why

-- the first whose receipt isn't had, by its number, counted from 1
pub record IsFirstUnread (Has : List ℕ → List ℕ → Type 0) (Refuses : List ℕ → Reason → Type 0) (plan : PlanAtHand) (all : List PartFiles) (number : ℕ) (files : PartFiles) (why : Option Reason) : Type 0 where
  pub before : List PartFiles
  pub later : List PartFiles
  pub are : all ≡ before ++ files ∷ later
  pub numbered : number ≡ length before + 1
  pub parts : List PartValue
  pub read : AreParts Has plan before parts
  pub lacks : LacksReceipt (Has files.receipt.now) (Refuses files.receipt.now) why

-- why receipts weren't read: there was no memory, or that
abbrev pub IsNotRead : (Has : List ℕ → List ℕ → Type 0) → (Refuses : List ℕ → Reason → Type 0) → PlanAtHand → List PartFiles → NotRead → Type 0
IsNotRead Has Refuses plan all OutOfMemory = Unit {0}
IsNotRead Has Refuses plan all (Receipt number files why) = IsFirstUnread Has Refuses plan all number files why
