-- The times, the key and the counters of a row's record are those of the row.
use Rattle.std.proofs.Common.{◌≡◌, ℕ, ◌*◌, ◌^◌, ◌<◌, List, [], ◌∷◌, length, map, All, Option, Some, unwrap_or, option_map, option_and_then, refl, sym, ap, ◌∙◌, arith}
use Rattle.std.specs.Prelude.{zip}
use Rattle.std.specs.List.{AllZip}
use Rattle.std.specs.Option.{option_or}
use Rattle.std.proofs.lemmas.Bool.{eq-eqb, lt-ltb}
use Rattle.std.proofs.lemmas.List.{append-nil}
use Rattle.std.proofs.lemmas.List.Elements.{All-head, All-tail}
use Rattle.byteorder.specs.Endian.{big_bytes, big_number}
use Rattle.byteorder.specs.Numbers.{big_number-reads_back}
use Rattle.ipfix_wire.specs.declared.specifier.ElementId.{ElementId}
use Rattle.ipfix_elements.specs.Cells.{cell_octets}
use Rattle.ipfix_elements.specs.Elements.{elements, iana}
use Rattle.ipfix_elements.specs.Values.{octets_of as width_in, number_in, cell_in}
use Rattle.ipfix_elements.specs.declared.cell.Cell.{Cell}
use Rattle.ipfix_elements.specs.declared.cell.Cell.TheVariants as cells
use Rattle.ipfix_elements.specs.declared.kind.Kind.{Kind}
use Rattle.ipfix_elements.specs.declared.kind.Kind.TheVariants.{Unsigned, Ipv4, Ipv6, Mac, Seconds, Millis, Octets}
use Rattle.ipfix_elements.specs.declared.kind.Width.{Width}
use Rattle.ipfix_elements.specs.declared.kind.Width.TheVariants.{One, Two, Four, Eight}
use Rattle.ipfix_message.specs.Fields.{octets_of}
use Rattle.ipfix_message.specs.declared.record.DataRecord.{DataRecord}
use Rattle.flow_table.specs.declared.key.Key.{Key}
use Rattle.flow_table.specs.Plans.{PlanValue}
use Rattle.flow_table.specs.Fitting.{IsCellOf}
use Rattle.flow_table.specs.declared.choices.Times.{Times}
use Rattle.flow_table.specs.declared.choices.Times.TheVariants as times
use Rattle.flow_table.proofs.UsedFlows.{start_stays, end_stays}
use Rattle.flow_table.specs.Reading.{start_of, end_of, time_in, time_of, number_of, cell_of, cells_of, counter_of}
use Rattle.flow_table.specs.SameTables.{RowValue}
use Rattle.flow_export.specs.CsvText.{first_of, last_of}
use Rattle.flow_export.specs.IpfixText.{width_of, key_field, number_field}
use Rattle.laws_export.specs.ReadBack.{as_exported, row_record}
use Rattle.laws_export.proofs.FieldsFound.{IsFound}

-- ---- numbers and cells in their full width

number_again : (k n : ℕ) → n < 256 ^ k → big_number k (big_bytes k n) ≡ n
number_again k n fits = ap (big_number k) (sym (append-nil (big_bytes k n))) ∙ big_number-reads_back k n [] fits

unsigned_again : (width : Width) (n : ℕ) → n < 256 ^ width_in width → number_in (Unsigned width) (big_bytes (width_in width) n) ≡ Some n
unsigned_again One n fits = ap (λ (m : ℕ). Some m) (number_again 1 n fits)
unsigned_again Two n fits = ap (λ (m : ℕ). Some m) (number_again 2 n fits)
unsigned_again Four n fits = ap (λ (m : ℕ). Some m) (number_again 4 n fits)
unsigned_again Eight n fits = ap (λ (m : ℕ). Some m) (number_again 8 n fits)

millis_again : (n : ℕ) → n < 2 ^ 64 → number_in Millis (big_bytes 8 n) ≡ Some n
millis_again n fits = ap (λ (m : ℕ). Some m) (number_again 8 n (omega (arith, fits)))

pub cell_again : (kind : Kind) (cell : Cell) → IsCellOf kind cell → cell_in kind (cell_octets cell (width_of kind)) ≡ Some cell
cell_again (Unsigned width) (cells.Number n) fits = ap (λ (o : Option ℕ). option_map (λ m. cells.Number m) o) (unsigned_again width n fits)
cell_again (Unsigned width) (cells.Ipv4 a) fits = absurd fits
cell_again (Unsigned width) (cells.Ipv6 a) fits = absurd fits
cell_again (Unsigned width) (cells.Mac a) fits = absurd fits
cell_again Ipv4 (cells.Number n) fits = absurd fits
cell_again Ipv4 (cells.Ipv4 a) fits = rw (eq-eqb (length a) 4 fits) refl
cell_again Ipv4 (cells.Ipv6 a) fits = absurd fits
cell_again Ipv4 (cells.Mac a) fits = absurd fits
cell_again Ipv6 (cells.Number n) fits = absurd fits
cell_again Ipv6 (cells.Ipv4 a) fits = absurd fits
cell_again Ipv6 (cells.Ipv6 a) fits = rw (eq-eqb (length a) 16 fits) refl
cell_again Ipv6 (cells.Mac a) fits = absurd fits
cell_again Mac (cells.Number n) fits = absurd fits
cell_again Mac (cells.Ipv4 a) fits = absurd fits
cell_again Mac (cells.Ipv6 a) fits = absurd fits
cell_again Mac (cells.Mac a) fits = rw (eq-eqb (length a) 6 fits) refl
cell_again Seconds cell fits = absurd fits
cell_again Millis cell fits = absurd fits
cell_again Octets cell fits = absurd fits

-- ---- times

time_again : (n : ℕ) → n < 2 ^ 50 → option_and_then (λ m. time_in (m * 1)) (number_in Millis (big_bytes 8 n)) ≡ Some n
time_again n small =
    let same : n * 1 ≡ n = omega arith in
    ap (λ (o : Option ℕ). option_and_then (λ m. time_in (m * 1)) o) (millis_again n (omega (arith, small))) ∙ rw (same, lt-ltb n (2 ^ 50) small) refl

basic_start_again : (plan : PlanValue) (time : ℕ) (row : RowValue) → first_of plan row < 2 ^ 50 → start_of times.Basic (row_record plan time row) ≡ Some (first_of plan row)
unfolding start_of elements
basic_start_again plan time row small = ap (λ (o : Option ℕ). option_or o (time_of (iana 150) 1000 (row_record plan time row))) (time_again (first_of plan row) small)

basic_end_again : (plan : PlanValue) (time : ℕ) (row : RowValue) → last_of plan row < 2 ^ 50 → end_of times.Basic (row_record plan time row) ≡ Some (last_of plan row)
unfolding end_of elements
basic_end_again plan time row small = ap (λ (o : Option ℕ). option_or o (time_of (iana 151) 1000 (row_record plan time row))) (time_again (last_of plan row) small)

-- rows have their times in milliseconds, which every plan reads first
pub start_again : (choice : Times) (plan : PlanValue) (time : ℕ) (row : RowValue) → first_of plan row < 2 ^ 50 → start_of choice (row_record plan time row) ≡ Some (first_of plan row)
start_again times.Basic plan time row small = basic_start_again plan time row small
start_again times.All plan time row small = start_stays (row_record plan time row) (first_of plan row) (basic_start_again plan time row small)

pub end_again : (choice : Times) (plan : PlanValue) (time : ℕ) (row : RowValue) → last_of plan row < 2 ^ 50 → end_of choice (row_record plan time row) ≡ Some (last_of plan row)
end_again times.Basic plan time row small = basic_end_again plan time row small
end_again times.All plan time row small = end_stays (row_record plan time row) (last_of plan row) (basic_end_again plan time row small)

-- ---- keys

cell_read : (k : Key) (kind : Kind) (c : Cell) (r : DataRecord) → IsCellOf kind c → IsFound r.fields (key_field ((k, kind), c)) → cell_of (as_exported k) kind r ≡ Some c
unfolding cell_of
cell_read k kind c r fits found =
    rw found (ap (λ (o : Option Cell). option_map (λ x. x) o) (cell_again kind c fits))

pub cells_read : (ks : List Key) (kinds : List Kind) (cs : List Cell) (r : DataRecord) → length kinds ≡ length ks → AllZip IsCellOf kinds cs
    → All (IsFound r.fields) (map key_field (zip (zip ks kinds) cs)) → cells_of (map as_exported ks) kinds r ≡ Some cs
cells_read [] [] [] r beside fits found = refl
cells_read [] [] (c ∷ cs) r beside fits found = absurd fits
cells_read [] (kind ∷ kinds) cs r beside fits found = absurd (omega (arith, beside))
cells_read (k ∷ ks) [] cs r beside fits found = absurd (omega (arith, beside))
cells_read (k ∷ ks) (kind ∷ kinds) [] r beside fits found = absurd fits
cells_read (k ∷ ks) (kind ∷ kinds) (c ∷ cs) r beside fits found =
    let here = key_field ((k, kind), c) in
    let rest = map key_field (zip (zip ks kinds) cs) in
    let first = cell_read k kind c r fits.0 (All-head (IsFound r.fields) here rest found) in
    let others = cells_read ks kinds cs r (omega (arith, beside)) fits.1 (All-tail (IsFound r.fields) here rest found) in
    rw (first, others) refl

-- ---- counters

counter_read : (c : ElementId) (v : ℕ) (r : DataRecord) → v < 2 ^ 64 → IsFound r.fields (number_field (c, v)) → counter_of c r ≡ v
counter_read c v r small found =
    let at : number_of c r ≡ Some v =
    ap (λ (o : Option (List ℕ)). option_and_then (number_in (Unsigned Eight)) o) found ∙ unsigned_again Eight v (omega (arith, small)) in
    ap (λ (o : Option ℕ). unwrap_or o 0) at

pub counters_read : (cs : List ElementId) (vs : List ℕ) (r : DataRecord) → length vs ≡ length cs → All (λ v. v < 2 ^ 64) vs → All (IsFound r.fields) (map number_field (zip cs vs))
    → map (λ c. counter_of c r) cs ≡ vs
counters_read [] [] r same small found = refl
counters_read [] (v ∷ vs) r same small found = absurd (omega (arith, same))
counters_read (c ∷ cs) [] r same small found = absurd (omega (arith, same))
counters_read (c ∷ cs) (v ∷ vs) r same small found =
    let first = counter_read c v r (All-head (λ n. n < 2 ^ 64) v vs small) (All-head (IsFound r.fields) (number_field (c, v)) (map number_field (zip cs vs)) found) in
    let others = counters_read cs vs r (omega (arith, same)) (All-tail (λ n. n < 2 ^ 64) v vs small) (All-tail (IsFound r.fields) (number_field (c, v)) (map number_field (zip cs vs)) found) in
    rw (first, others) refl
