-- A row has at most 184 octets, and a template at most 124.
use Rattle.std.proofs.Common.{◌≡◌, ◌+◌, ◌*◌, ◌^◌, ◌≤◌, Bool, true, false, cond, eqb, List, [], ◌∷◌, ◌++◌, length, arith}
use Rattle.std.specs.List.{flat_map}
use Rattle.std.proofs.lemmas.List.{length-append}
use Rattle.byteorder.specs.Endian.{big_bytes}
use Rattle.ipfix_wire.specs.FieldSpecifier.{spec_octets}
use Rattle.ipfix_wire.specs.declared.specifier.Spec.{Spec}
use Rattle.flow_table.specs.Plans.{PlanValue, IsPlan}
use Rattle.flow_table.specs.SameTables.{value_of}
use Rattle.flow_table.specs.declared.table.Row.{Row}
use Rattle.flow_export.specs.Fitting.{IsExportable}
use Rattle.flow_export.specs.declared.intervals.Intervals.{Intervals}
use Rattle.flow_export.specs.IpfixText.{row_octets_in, field_specs, template, template_octets}
use Rattle.flow_export.proofs.KeyCells.{same_length}
use Rattle.flow_export.proofs.PlanFacts.{few_keys, has_room}
use Rattle.flow_export.proofs.Room.{HasRoom}
use Rattle.flow_export.proofs.RowFields.{length-row_octets_in}

pub row_short : (intervals : Intervals) (plan : PlanValue) (row : Row) → IsPlan plan → IsExportable plan (value_of row) → length (row_octets_in intervals plan (value_of row)) ≤ 184
row_short intervals plan row is fits = omega (arith, length-row_octets_in intervals plan (value_of row) fits.fields, (has_room plan is).short)

-- a key has at most eight cells, and there are at most four sums
pub few_parts : (plan : PlanValue) (row : Row) → IsPlan plan → IsExportable plan (value_of row) → (length row.key.items ≤ 8) × (length row.sums.items ≤ 4)
few_parts plan row is fits =
    let few = few_keys plan is in
    (omega (arith, few.0, same_length plan.kinds row.key.items fits.fields.key.fit, fits.fields.key.beside), omega (arith, few.1, fits.fields.sums))

-- a specifier has four octets, or eight with an enterprise number
length-spec : (s : Spec) → length (spec_octets s) ≤ 8
length-spec s = by_test (eqb s.element.pen 0)
  where
    by_test : (b : Bool) → length (cond b (big_bytes 2 s.element.number ++ big_bytes 2 s.width) (big_bytes 2 (2 ^ 15 + s.element.number) ++ (big_bytes 2 s.width ++ big_bytes 4 s.element.pen))) ≤ 8
    by_test true = omega arith
    by_test false = omega arith

length-specs : (ss : List Spec) → length (flat_map spec_octets ss) ≤ 8 * length ss
length-specs [] = omega arith
length-specs (s ∷ ss) = omega (arith, length-append (spec_octets s) (flat_map spec_octets ss), length-spec s, length-specs ss)

pub length-template : (plan : PlanValue) → HasRoom plan → length (template_octets (template plan)) ≤ 124
length-template plan room =
    let fields = flat_map spec_octets (field_specs plan) in
    let size : length (template_octets (template plan)) ≡ 4 + length fields = omega arith in
    omega (arith, size, length-specs (field_specs plan), room.few)
