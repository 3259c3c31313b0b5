-- The value of JSON that a row of a table is written as.
use Rattle.std.specs.Prelude.{◌≡◌, ℕ, ◌<◌, ◌^◌, List, [], ◌∷◌, ◌++◌, map, codes, All, None, Some}
use Rattle.json.specs.Json.{Json}
use Rattle.element_registry.specs.Registries.{IsRegistry, Known, element_by_name}
use Rattle.ipfix_wire.specs.declared.specifier.ElementId.{ElementId}
use Rattle.ipfix_elements.specs.declared.cell.Cell.{Cell}
use Rattle.ipfix_elements.specs.declared.cell.Cell.TheVariants.{Number, Ipv4, Ipv6, Mac}
use Rattle.flow_table.specs.Plans.{IsPlan, PlanValue, context_name}
use Rattle.flow_table.specs.SameTables.{RowValue, value_of}
use Rattle.flow_table.specs.Fitting.{FitsRow}
use Rattle.flow_table.specs.declared.table.Row.{Row}
use Rattle.flow_export.specs.CsvText.{first_of, heading, last_of}
use Rattle.flow_export.specs.JsonText.{row_object}
use Rattle.flow_export.specs.Shown.{shown_cells}
use Rattle.flow_export.specs.PlainNames.{HavePlainNames, PlainElements}
use Rattle.laws_json.specs.Lines.{IsReadAs}
use Rattle.laws_json.specs.Objects.{object_with, value_of_cell}

-- what the columns of a row hold, in the order of the heading: an exporter's address as it is shown
abbrev pub columns : PlanValue → RowValue → List Cell
columns plan row =
    Number (first_of plan row) ∷ Number (last_of plan row)
    ∷ (shown_cells plan.keys row.key ++ (map (λ n. Number n) row.sums ++ Number row.flows ∷ []))

-- each name of the heading with the value of its column, in the order of the heading
abbrev pub object_of_row : List Known → PlanValue → RowValue → Json
object_of_row known plan row = object_with (heading known plan) (map value_of_cell (columns plan row))

-- the octets of an address
abbrev pub address_of : Cell → List ℕ
address_of (Number n) = []
address_of (Ipv4 address) = address
address_of (Ipv6 address) = address
address_of (Mac address) = address

-- the addresses of a row are made of octets
abbrev pub HasAddresses : RowValue → Type 0
HasAddresses row = All (λ cell. All (λ b. b < 256) (address_of cell)) row.key

-- whatever files say, this holds of each row of each plan
abbrev pub ForRows : (List Known → PlanValue → RowValue → Type 0) → Type 0
ForRows P = (files : PlainElements) (plan : PlanValue) (row : RowValue) → HasAddresses row → P files.known plan row

-- the line of each row is read as a value of which P holds
abbrev pub RowsAreReadAs : (List Known → PlanValue → RowValue → Json → Type 0) → Type 0
RowsAreReadAs P = ForRows (λ known plan row. IsReadAs (row_object known plan row) (P known plan row))

-- elements of files whose names can stand in a heading: no two are alike, all are plain, and none is a word of its own
pub record FitsHeading (known : List Known) : Type 0 where
  pub registry : IsRegistry known
  pub plain : HavePlainNames known
  pub start : element_by_name known (codes "start") ≡ None
  pub end : element_by_name known (codes "end") ≡ None
  pub flows : element_by_name known (codes "flows") ≡ None

-- where the keys of a plan have the names of context, files call no other element so
abbrev pub NamesOwn : List Known → ElementId → Type 0
NamesOwn known e = (name : List ℕ) (d : ElementId) → context_name e ≡ Some name → element_by_name known name ≡ Some d → d ≡ e

abbrev pub NamesContext : List Known → PlanValue → Type 0
NamesContext known plan = All (λ k. NamesOwn known k.element) plan.keys

-- for each plan whose heading can be told apart, whatever files say
abbrev pub ForHeadings : (List Known → PlanValue → Type 0) → Type 0
ForHeadings P = (known : List Known) (plan : PlanValue) → FitsHeading known → NamesContext known plan → IsPlan plan → P known plan

-- a row as a table of the plan has it
pub record IsTableRow (plan : PlanValue) (row : Row) : Type 0 where
  pub length : plan.length < 2 ^ 64
  pub fits : FitsRow plan row
  pub addresses : HasAddresses (value_of row)
