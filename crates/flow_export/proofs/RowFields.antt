-- The octets of a row are spelled by its fields, each as wide as the template says.
use Rattle.std.proofs.Common.{◌≡◌, ℕ, ◌≤◌, false, cond, eqb, List, [], ◌∷◌, ◌++◌, length, map, refl, arith, inl}
use Rattle.std.specs.Prelude.{◌≢◌, zip, flat_map}
use Rattle.std.specs.List.{AllZip}
use Rattle.std.proofs.lemmas.List.{length-append}
use Rattle.byteorder.specs.Numbers.{length-bytes_high_first}
use Rattle.ipfix_wire.specs.declared.specifier.ElementId.{ElementId}
use Rattle.ipfix_wire.specs.declared.specifier.Spec.{Spec}
use Rattle.ipfix_elements.specs.Cells.{cell_octets}
use Rattle.ipfix_elements.specs.Values.{octets_of}
use Rattle.ipfix_elements.specs.declared.cell.Cell.{Cell}
use Rattle.ipfix_elements.specs.declared.cell.Cell.TheVariants as cells
use Rattle.ipfix_elements.specs.declared.kind.Kind.{Kind}
use Rattle.ipfix_elements.specs.declared.kind.Kind.TheVariants.{Unsigned, Ipv4, Ipv6, Mac, Seconds, Millis, Octets}
use Rattle.ipfix_elements.specs.declared.kind.Width.{Width}
use Rattle.ipfix_elements.specs.declared.kind.Width.TheVariants.{One, Two, Four, Eight}
use Rattle.ipfix_message.specs.Fields.{Field}
use Rattle.ipfix_message.specs.DataRecords.{Spells, least}
use Rattle.ipfix_wire.proofs.Choices.{different}
use Rattle.flow_table.specs.declared.key.Key.{Key}
use Rattle.flow_table.specs.Plans.{PlanValue, keys_and_kinds}
use Rattle.flow_table.specs.Fitting.{IsCellOf}
use Rattle.flow_table.specs.SameTables.{RowValue}
use Rattle.flow_export.specs.IpfixText.{width_of, key_spec, number_spec, field_specs, key_field, number_field, row_fields, row_fields_in, row_octets, row_octets_in}
use Rattle.flow_export.specs.declared.intervals.Intervals.{Intervals}
use Rattle.flow_export.specs.declared.intervals.Intervals.TheVariants.{OfPlan}
use Rattle.flow_export.specs.Fitting.{FitsValue}

-- ---- a field as wide as its specifier says

pub record IsFieldOf (s : Spec) (f : Field) : Type 0 where
  pub element : f.element ≡ s.element
  pub fixed : s.width ≢ 65535
  pub size : length f.octets ≡ s.width

abbrev pub octets_in : List Field → List ℕ
octets_in fs = flat_map (λ f. f.octets) fs

pub spelled : (ss : List Spec) (fs : List Field) → AllZip IsFieldOf ss fs → Spells ss fs (octets_in fs)
spelled [] [] h = refl
spelled [] (f ∷ fs) h = absurd h
spelled (s ∷ ss) [] h = absurd h
spelled (s ∷ ss) (f ∷ fs) h = (f.octets, octets_in fs, refl, h.0.element, inl (h.0.fixed, h.0.size, refl), spelled ss fs h.1)

-- a record has as many octets as its template's widths add up to
pub length-octets_in : (ss : List Spec) (fs : List Field) → AllZip IsFieldOf ss fs → length (octets_in fs) ≡ least ss
length-octets_in [] [] h = refl
length-octets_in [] (f ∷ fs) h = absurd h
length-octets_in (s ∷ ss) [] h = absurd h
length-octets_in (s ∷ ss) (f ∷ fs) h =
    let no : eqb s.width 65535 ≡ false = different s.width 65535 h.0.fixed in
    let here : cond (eqb s.width 65535) 1 s.width ≡ s.width = rw no refl in
    omega (arith, length-append f.octets (octets_in fs), h.0.size, here, length-octets_in ss fs h.1)

pub AllZip-append : {A B : Type 0} (R : A → B → Type 0) (as' : List A) (bs : List B) (cs : List A) (ds : List B) → AllZip R as' bs → AllZip R cs ds → AllZip R (as' ++ cs) (bs ++ ds)
AllZip-append R [] [] cs ds p q = q
AllZip-append R [] (b ∷ bs) cs ds p q = absurd p
AllZip-append R (a ∷ as') [] cs ds p q = absurd p
AllZip-append R (a ∷ as') (b ∷ bs) cs ds p q = (p.0, AllZip-append R as' bs cs ds p.1 q)

-- ---- the cells of a key

pub cell_width : (kind : Kind) (cell : Cell) → IsCellOf kind cell → length (cell_octets cell (width_of kind)) ≡ width_of kind
cell_width (Unsigned width) (cells.Number n) fits = length-bytes_high_first (octets_of width) n
cell_width (Unsigned width) (cells.Ipv4 a) fits = absurd fits
cell_width (Unsigned width) (cells.Ipv6 a) fits = absurd fits
cell_width (Unsigned width) (cells.Mac a) fits = absurd fits
cell_width Ipv4 (cells.Number n) fits = absurd fits
cell_width Ipv4 (cells.Ipv4 a) fits = fits
cell_width Ipv4 (cells.Ipv6 a) fits = absurd fits
cell_width Ipv4 (cells.Mac a) fits = absurd fits
cell_width Ipv6 (cells.Number n) fits = absurd fits
cell_width Ipv6 (cells.Ipv4 a) fits = absurd fits
cell_width Ipv6 (cells.Ipv6 a) fits = fits
cell_width Ipv6 (cells.Mac a) fits = absurd fits
cell_width Mac (cells.Number n) fits = absurd fits
cell_width Mac (cells.Ipv4 a) fits = absurd fits
cell_width Mac (cells.Ipv6 a) fits = absurd fits
cell_width Mac (cells.Mac a) fits = fits
cell_width Seconds cell fits = absurd fits
cell_width Millis cell fits = absurd fits
cell_width Octets cell fits = absurd fits

pub narrow_number : (width : Width) → octets_of width ≤ 16
narrow_number One = omega arith
narrow_number Two = omega arith
narrow_number Four = omega arith
narrow_number Eight = omega arith

pub cell_narrow : (kind : Kind) (cell : Cell) → IsCellOf kind cell → width_of kind ≤ 16
cell_narrow (Unsigned width) cell fits = narrow_number width
cell_narrow Ipv4 cell fits = omega arith
cell_narrow Ipv6 cell fits = omega arith
cell_narrow Mac cell fits = omega arith
cell_narrow Seconds cell fits = omega arith
cell_narrow Millis cell fits = omega arith
cell_narrow Octets cell fits = absurd fits

key_fields : (keys : List Key) (kinds : List Kind) (cells : List Cell) → length kinds ≡ length keys → AllZip IsCellOf kinds cells
    → AllZip IsFieldOf (map key_spec (zip keys kinds)) (map key_field (zip (zip keys kinds) cells))
key_fields [] [] [] beside fits = tt
key_fields [] [] (c ∷ cs) beside fits = absurd fits
key_fields [] (kind ∷ kinds) cs beside fits = absurd (omega (arith, beside))
key_fields (k ∷ ks) [] cs beside fits = absurd (omega (arith, beside))
key_fields (k ∷ ks) (kind ∷ kinds) [] beside fits = absurd fits
key_fields (k ∷ ks) (kind ∷ kinds) (c ∷ cs) beside fits =
    let narrow = cell_narrow kind c fits.0 in
    (record { element = refl; fixed = λ e. omega (arith, narrow, e); size = cell_width kind c fits.0 }, key_fields ks kinds cs (omega (arith, beside)) fits.1)

counter_fields : (counters : List ElementId) (sums : List ℕ) → length sums ≡ length counters → AllZip IsFieldOf (map number_spec counters) (map number_field (zip counters sums))
counter_fields [] [] same = tt
counter_fields [] (v ∷ vs) same = absurd (omega (arith, same))
counter_fields (c ∷ cs) [] same = absurd (omega (arith, same))
counter_fields (c ∷ cs) (v ∷ vs) same = (record { element = refl; fixed = λ e. omega (arith, e); size = refl }, counter_fields cs vs (omega (arith, same)))

-- ---- a row

pub row_is_fields : (intervals : Intervals) (plan : PlanValue) (row : RowValue) → FitsValue plan row → AllZip IsFieldOf (field_specs plan) (row_fields_in intervals plan row)
row_is_fields intervals plan row fits =
    let eight : 8 ≢ 65535 = λ e. omega (arith, e) in (
      record { element = refl; fixed = eight; size = refl },
      (
        record { element = refl; fixed = eight; size = refl },
        AllZip-append IsFieldOf (map key_spec (keys_and_kinds plan)) (map key_field (zip (keys_and_kinds plan) row.key)) _ _ (key_fields plan.keys plan.kinds row.key fits.key.beside fits.key.fit)
            (AllZip-append IsFieldOf (map number_spec plan.counters) (map number_field (zip plan.counters row.sums)) _ _ (counter_fields plan.counters row.sums fits.sums)
            (record { element = refl; fixed = eight; size = refl }, tt)),
      ),
    )

-- a row's octets are read as its fields
pub row_spelled : (plan : PlanValue) (row : RowValue) → FitsValue plan row → Spells (field_specs plan) (row_fields plan row) (row_octets plan row)
row_spelled plan row fits = spelled (field_specs plan) (row_fields plan row) (row_is_fields OfPlan plan row fits)

pub length-row_octets_in : (intervals : Intervals) (plan : PlanValue) (row : RowValue) → FitsValue plan row → length (row_octets_in intervals plan row) ≡ least (field_specs plan)
length-row_octets_in intervals plan row fits = length-octets_in (field_specs plan) (row_fields_in intervals plan row) (row_is_fields intervals plan row fits)

pub length-row_octets : (plan : PlanValue) (row : RowValue) → FitsValue plan row → length (row_octets plan row) ≡ least (field_specs plan)
length-row_octets = length-row_octets_in OfPlan
