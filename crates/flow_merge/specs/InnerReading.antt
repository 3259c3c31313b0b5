-- Fields that are read one after another.
use Rattle.std.specs.Prelude.{◌≡◌, ℕ, ◌^◌, ◌<◌, List, ◌∷◌, ◌++◌, map, zip}
use Rattle.std.specs.List.{AllZip}
use Rattle.ipfix_wire.specs.declared.specifier.ElementId.{ElementId}
use Rattle.ipfix_elements.specs.Cells.{cell_octets}
use Rattle.ipfix_elements.specs.declared.cell.Cell.{Cell}
use Rattle.ipfix_elements.specs.declared.kind.Kind.{Kind}
use Rattle.ipfix_message.specs.Fields.{Field}
use Rattle.flow_table.specs.declared.key.Key.{Key}
use Rattle.flow_table.specs.Fitting.{IsCellOf}
use Rattle.flow_export.specs.IpfixText.{field, key_field, number_field, width_of}
use Rattle.flow_merge.specs.declared.row_fault.RowFault.{RowFault}
use Rattle.flow_merge.specs.declared.row_fault.RowFault.TheVariants.{OutOfMemory, Template, Fields, Interval, Prefix, Flows, Border}
use Rattle.flow_merge.specs.declared.told_values.ToldValues.{ToldValues}
use Rattle.flow_merge.specs.RowFaults.{FieldValues}

-- the octets are those of a cell of this kind, as many as the kind's values have
abbrev pub SpellsCell : Kind → List ℕ → Cell → Type 0
SpellsCell kind octets cell = IsCellOf kind cell × (cell_octets cell (width_of kind) ≡ octets)

-- fields that begin with the one that tells b of a, and go on as `rest`
pub record Begin {A B : Type 0} (telling : A × B → Field) (Fits : A → B → Type 0) (a : A) (fields : List Field) (b : B) (rest : List Field) : Type 0 where
  pub is : fields ≡ telling (a, b) ∷ rest
  pub fits : Fits a b

-- fields that begin with those that tell something of each, one after another
pub record BeginEach {A B : Type 0} (telling : A × B → Field) (Fits : A → B → Type 0) (as' : List A) (fields : List Field) (bs : List B) (rest : List Field) : Type 0 where
  pub are : fields ≡ map telling (zip as' bs) ++ rest
  pub fit : AllZip Fits as' bs

-- a key's cell, of the key's kind, and a number of 64 bits of an element
abbrev pub FitsKey : Key × Kind → Cell → Type 0
FitsKey key cell = IsCellOf key.1 cell

abbrev pub FitsNumber : ElementId → ℕ → Type 0
FitsNumber element n = n < 2 ^ 64

-- fields that begin with one of an element, and go on as `rest`
abbrev pub TellsOctets : ElementId → List Field → List ℕ → List Field → Type 0
TellsOctets element fields octets rest = fields ≡ field element octets ∷ rest

-- fields that begin with a number of an element, or with the cell of a key, and go on as `rest`
abbrev pub TellsNumber : ElementId → List Field → ℕ → List Field → Type 0
TellsNumber element fields n rest = Begin number_field FitsNumber element fields n rest

abbrev pub TellsCell : Key × Kind → List Field → Cell → List Field → Type 0
TellsCell key fields cell rest = Begin key_field FitsKey key fields cell rest

-- the same of numbers and of cells, one after another
abbrev pub TellsNumbers : List ElementId → List Field → List ℕ → List Field → Type 0
TellsNumbers elements fields ns rest = BeginEach number_field FitsNumber elements fields ns rest

abbrev pub TellsCells : List Key → List Kind → List Field → List Cell → List Field → Type 0
TellsCells keys kinds fields cells rest = BeginEach key_field FitsKey (zip keys kinds) fields cells rest

-- something is told, and nothing is
abbrev pub TellsSome : {B : Type 0} → (B → List Field → Type 0) → Type 0
TellsSome {B} Told = (b : B) × (rest : List Field) × Told b rest

abbrev pub TellsNone : {B : Type 0} → (B → List Field → Type 0) → Type 0
TellsNone {B} Told = (b : B) (rest : List Field) → Told b rest → ⊥

-- a fault of fields, where what they should tell isn't told by them
abbrev pub Refuses : Type 0 → RowFault → Type 0
Refuses Told OutOfMemory = Unit {0}
Refuses Told Fields = Told → ⊥
Refuses Told Template = ⊥
Refuses Told Interval = ⊥
Refuses Told Prefix = ⊥
Refuses Told Flows = ⊥
Refuses Told Border = ⊥

-- the values, however their vectors are kept
abbrev pub values_in : ToldValues → FieldValues
values_in v = record { start = v.start; end = v.end; key = v.key.items; sums = v.sums.items; flows = v.flows }
