-- What a receipt tells, as a value: texts are lists of octets.
use Rattle.std.specs.Prelude.{◌≡◌, ◌<◌, ◌^◌, ℕ, Bool, List, Option, map, option_map, String, string_bytes, All, length}
use Rattle.std.specs.declared.alloc.Global.{Global}
use Rattle.hex.specs.Hex.{IsBytes}
use Rattle.table_receipts.specs.declared.receipt.FileReceipt.{FileReceipt}
use Rattle.table_receipts.specs.declared.receipt.DomainReceipt.{DomainReceipt}
use Rattle.table_receipts.specs.declared.receipt.ExporterReceipt.{ExporterReceipt}
use Rattle.table_receipts.specs.declared.receipt.ExporterReceipt.TheVariants.{NotAsked, Unknown, Address}
use Rattle.table_receipts.specs.declared.receipt.InputReceipt.{InputReceipt}
use Rattle.table_receipts.specs.declared.receipt.MergedInterval.{MergedInterval}
use Rattle.table_receipts.specs.declared.receipt.MergedInto.{MergedInto}
use Rattle.table_receipts.specs.declared.receipt.RecordCounts.{RecordCounts}
use Rattle.table_receipts.specs.declared.receipt.TableFormat.{TableFormat}
use Rattle.table_receipts.specs.declared.receipt.CounterSum.{CounterSum}
use Rattle.table_receipts.specs.declared.receipt.TableReceipt.{TableReceipt}
use Rattle.table_receipts.specs.declared.receipt.Receipt.{Receipt}

pub record FileValue : Type 0 where
  pub name : List ℕ
  pub octets : ℕ
  pub digest : List ℕ

-- who exported an input: nothing is said of it; it was not known; or the text of an address
pub data ExporterValue : Type 0 where
  not_asked : ExporterValue
  unknown : ExporterValue
  address : (text : List ℕ) → ExporterValue

pub record InputValue : Type 0 where
  pub file : FileValue
  pub messages : ℕ
  pub records : ℕ
  pub fault : Option (List ℕ)
  pub domains : List DomainReceipt
  pub exporter : ExporterValue

-- into what the rows of a table were merged
pub record IntoValue : Type 0 where
  pub interval : MergedInterval
  pub zone : List ℕ

pub record SumValue : Type 0 where
  pub name : List ℕ
  pub total : ℕ

pub record TableValue : Type 0 where
  pub format : TableFormat
  pub time : ℕ
  pub into : Option IntoValue
  pub octets : ℕ
  pub digest : List ℕ
  pub rows : ℕ
  pub sums : List SumValue
  pub flows : ℕ

pub record ReceiptValue : Type 0 where
  pub collectd : List ℕ
  pub plan : List ℕ
  pub elements : List FileValue
  pub maps : List FileValue
  pub inputs : List InputValue
  pub records : RecordCounts
  pub table : TableValue
  pub left_out : List (List ℕ)
  pub complete : Bool

-- ---- the values of Rust's types

abbrev pub file_value : FileReceipt → FileValue
file_value f = record { name = string_bytes f.name; octets = f.octets; digest = f.sha256 }

abbrev pub exporter_value : ExporterReceipt → ExporterValue
exporter_value NotAsked = not_asked
exporter_value Unknown = unknown
exporter_value (Address text) = address (string_bytes text)

-- the name of a fault, if there was one
abbrev pub fault_value : Option (String Global) → Option (List ℕ)
fault_value fault = option_map string_bytes fault

abbrev pub input_value : InputReceipt → InputValue
input_value i = record {
  file = file_value i.file;
  messages = i.messages;
  records = i.records;
  fault = fault_value i.fault;
  domains = i.domains.items;
  exporter = exporter_value i.exporter;
}

abbrev pub sum_value : CounterSum → SumValue
sum_value s = record { name = string_bytes s.name; total = s.sum }

abbrev pub into_value : MergedInto → IntoValue
into_value i = record { interval = i.interval; zone = string_bytes i.zone }

abbrev pub table_value : TableReceipt → TableValue
table_value t = record {
  format = t.format;
  time = t.time;
  into = option_map into_value t.into;
  octets = t.octets;
  digest = t.sha256;
  rows = t.rows;
  sums = map sum_value t.sums.items;
  flows = t.flows;
}

abbrev pub receipt_value : Receipt → ReceiptValue
receipt_value r = record {
  collectd = string_bytes r.collectd;
  plan = string_bytes r.plan;
  elements = map file_value r.elements.items;
  maps = map file_value r.maps.items;
  inputs = map input_value r.inputs.items;
  records = r.records;
  table = table_value r.table;
  left_out = map string_bytes r.left_out.items;
  complete = r.complete;
}

-- ---- values that have room in these types

-- 32 octets
pub record IsDigest (digest : List ℕ) : Type 0 where
  pub size : length digest ≡ 32
  pub octets : IsBytes digest

pub record FitsFile (f : FileValue) : Type 0 where
  pub octets : f.octets < 2 ^ 64
  pub digest : IsDigest f.digest

pub record FitsDomain (d : DomainReceipt) : Type 0 where
  pub domain : d.domain < 2 ^ 32
  pub lost : d.lost < 2 ^ 64
  pub backward : d.backward < 2 ^ 64
  pub unaccounted : d.unaccounted < 2 ^ 64
  pub unknown_sets : d.unknown_sets < 2 ^ 64

pub record FitsInput (i : InputValue) : Type 0 where
  pub file : FitsFile i.file
  pub messages : i.messages < 2 ^ 64
  pub records : i.records < 2 ^ 64
  pub domains : All FitsDomain i.domains

pub record FitsCounts (c : RecordCounts) : Type 0 where
  pub used : c.used < 2 ^ 64
  pub options : c.options < 2 ^ 64
  pub untimed : c.untimed < 2 ^ 64
  pub backward : c.backward < 2 ^ 64
  pub unkeyed : c.unkeyed < 2 ^ 64
  pub too_long : c.too_long < 2 ^ 64

pub record FitsSum (s : SumValue) : Type 0 where
  pub total : s.total < 2 ^ 128

pub record FitsTable (t : TableValue) : Type 0 where
  pub time : t.time < 2 ^ 32
  pub octets : t.octets < 2 ^ 64
  pub digest : IsDigest t.digest
  pub rows : t.rows < 2 ^ 64
  pub sums : All FitsSum t.sums
  pub flows : t.flows < 2 ^ 128

pub record FitsReceipt (r : ReceiptValue) : Type 0 where
  pub elements : All FitsFile r.elements
  pub maps : All FitsFile r.maps
  pub inputs : All FitsInput r.inputs
  pub records : FitsCounts r.records
  pub table : FitsTable r.table
