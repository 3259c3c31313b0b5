-- A record tells one list of values, and so it is that of one row at most.
use Rattle.std.proofs.Common.{◌≡◌, ℕ, ◌*◌, ◌/◌, ◌^◌, ◌<◌, List, [], ◌∷◌, get_or, Option, unwrap_or, refl, sym, ap, subst, ◌∙◌, arith}
use Rattle.std.specs.Prelude.{◌≢◌}
use Rattle.std.proofs.Math.Nat.{mul-div_cancel}
use Rattle.std.proofs.lemmas.Bool.{ltb-true}
use Rattle.std.proofs.lemmas.List.{append-nil}
use Rattle.byteorder.specs.Endian.{big_bytes, big_number}
use Rattle.byteorder.specs.Numbers.{big_number-reads_back}
use Rattle.ipfix_wire.specs.declared.specifier.ElementId.{ElementId}
use Rattle.ipfix_elements.specs.Elements.{iana}
use Rattle.ipfix_elements.specs.Values.{cell_in}
use Rattle.ipfix_elements.specs.declared.cell.Cell.{Cell}
use Rattle.ipfix_message.specs.Fields.{Field}
use Rattle.ipfix_message.specs.declared.record.DataRecord.{DataRecord}
use Rattle.ipfix_elements.specs.declared.kind.Kind.{Kind}
use Rattle.flow_table.specs.declared.key.Key.{Key}
use Rattle.flow_table.specs.Plans.{PlanValue, IsPlan, keys_and_kinds}
use Rattle.flow_table.specs.SameTables.{RowValue}
use Rattle.flow_export.specs.CsvText.{first_of, last_of}
use Rattle.flow_export.specs.IpfixText.{key_field, number_field}
use Rattle.laws_export.proofs.ValuesRead.{cell_again}
use Rattle.flow_merge.specs.declared.row_fault.RowFault.{RowFault}
use Rattle.flow_merge.specs.declared.row_fault.RowFault.TheVariants.{OutOfMemory, Template, Fields, Interval, Prefix, Flows, Border}
use Rattle.flow_merge.specs.InnerReading.{FitsKey, FitsNumber, TellsCells, TellsNumber, TellsNumbers}
use Rattle.flow_merge.specs.RowFaults.{FieldValues, Tell, IsInterval, IsRowFault}
use Rattle.flow_merge.specs.RowRecords.{AreProjected, IsRowRecord}
use Rattle.flow_merge.proofs.Beginnings.{same_told}
use Rattle.flow_merge.proofs.Telling.{keys_fit, flows_on, sums_on, keys_on, same_after, keys_follow, sums_follow, flows_follow}

-- ---- a field tells one value

one_number : (e : ElementId) (n m : ℕ) → number_field (e, n) ≡ number_field (e, m) → n < 2 ^ 64 → m < 2 ^ 64 → n ≡ m
one_number e n m same small low =
    let back : (k : ℕ) → k < 2 ^ 64 → big_number 8 (big_bytes 8 k) ≡ k = λ k fits. ap (big_number 8) (sym (append-nil (big_bytes 8 k))) ∙ big_number-reads_back 8 k [] (omega (arith, fits)) in
    sym (back n small) ∙ ap (λ (f : Field). big_number 8 f.octets) same ∙ back m low

one_cell : (k : Key × Kind) (c d : Cell) → key_field (k, c) ≡ key_field (k, d) → FitsKey k c → FitsKey k d → c ≡ d
one_cell k c d same fits well =
    ap (λ (o : Option Cell). unwrap_or o c)
    (sym (cell_again k.1 c fits) ∙ ap (λ (f : Field). cell_in k.1 f.octets) same ∙ cell_again k.1 d well)

same_number : (e : ElementId) (fields r q : List Field) (n m : ℕ) → TellsNumber e fields n r → TellsNumber e fields m q → n ≡ m
same_number e fields r q n m one two = one_number e n m (ap (λ (fs : List Field). get_or fs 0 (number_field (e, n))) (sym one.is ∙ two.is)) one.fits two.fits

pub same_values : (plan : PlanValue) (fields : List Field) (v w : FieldValues) → Tell plan fields v → Tell plan fields w → v ≡ w
same_values plan fields v w one two =
    let starts : TellsNumber (iana 152) fields v.start (number_field (iana 153, v.end) ∷ keys_on plan v) = record { is = one.told; fits = one.start } in
    let begins : TellsNumber (iana 152) fields w.start (number_field (iana 153, w.end) ∷ keys_on plan w) = record { is = two.told; fits = two.start } in
    let ends : TellsNumber (iana 153) (number_field (iana 153, v.end) ∷ keys_on plan v) v.end (keys_on plan v) = record { is = refl; fits = one.end } in
    let second = same_after (iana 152) fields _ _ v.start w.start starts begins in
    let closes : TellsNumber (iana 153) (number_field (iana 153, v.end) ∷ keys_on plan v) w.end (keys_on plan w) = record { is = second; fits = two.end } in
    let keys : TellsCells plan.keys plan.kinds (keys_on plan v) v.key (sums_on plan v) = record { are = refl; fit = keys_fit plan v.key one.key } in
    let others : TellsCells plan.keys plan.kinds (keys_on plan v) w.key (sums_on plan w) = keys_follow plan fields _ (keys_on plan v) v.start v.end w two starts ends in
    let counters : TellsNumbers plan.counters (sums_on plan v) v.sums (flows_on v) = sums_follow plan fields _ (keys_on plan v) (sums_on plan v) v.start v.end v.key v one starts ends keys in
    let sums : TellsNumbers plan.counters (sums_on plan v) w.sums (flows_on w) = sums_follow plan fields _ (keys_on plan v) (sums_on plan v) v.start v.end v.key w two starts ends keys in
    let flows : TellsNumber (iana 375) (flows_on v) v.flows [] = record { is = refl; fits = one.few } in
    let number : TellsNumber (iana 375) (flows_on v) w.flows [] = flows_follow plan fields _ (keys_on plan v) (sums_on plan v) (flows_on v) v.start v.end v.key v.sums w two starts ends keys counters in
    rw (
      same_number (iana 152) fields _ _ v.start w.start starts begins,
      same_number (iana 153) _ _ _ v.end w.end ends closes,
      same_told key_field FitsKey one_cell (keys_and_kinds plan) (keys_on plan v) v.key w.key _ _ keys others,
      same_told number_field FitsNumber one_number plan.counters (sums_on plan v) v.sums w.sums _ _ counters sums,
      same_number (iana 375) _ _ _ v.flows w.flows flows number,
    ) refl

-- ---- rows

abbrev values_of : PlanValue → RowValue → FieldValues
values_of plan row = record { start = first_of plan row; end = last_of plan row; key = row.key; sums = row.sums; flows = row.flows }

row_tells : (plan : PlanValue) (r : DataRecord) (row : RowValue) → IsRowRecord plan r row → Tell plan r.fields (values_of plan row)
row_tells plan r row is = record {
  told = is.fields;
  key = is.of_plan.fits.key;
  sums = is.of_plan.fits.sums;
  start = omega (arith, is.of_plan.interval);
  end = is.of_plan.end;
  small = is.of_plan.small;
  few = is.of_plan.few;
}

row_interval : (plan : PlanValue) (r : DataRecord) (row : RowValue) → IsRowRecord plan r row → IsInterval plan row.interval (values_of plan row)
row_interval plan r row is = record { start = refl; end = refl; in_time = is.of_plan.interval }

pub one_row : (plan : PlanValue) (r : DataRecord) (a b : RowValue) → IsPlan plan → IsRowRecord plan r a → IsRowRecord plan r b → a ≡ b
one_row plan r a b is_plan one two =
    let positive : 0 < plan.length = ltb-true 0 plan.length is_plan.positive in
    let same : values_of plan a ≡ values_of plan b = same_values plan r.fields _ _ (row_tells plan r a one) (row_tells plan r b two) in
    let starts : a.interval * plan.length ≡ b.interval * plan.length = ap (λ (v : FieldValues). v.start) same in
    let interval : a.interval ≡ b.interval =
    sym (mul-div_cancel a.interval positive) ∙ ap (λ (n : ℕ). n / plan.length) starts ∙ mul-div_cancel b.interval positive in
    rw (interval, ap (λ (v : FieldValues). v.key) same, ap (λ (v : FieldValues). v.sums) same, ap (λ (v : FieldValues). v.flows) same) refl

pub no_row : (plan : PlanValue) (r : DataRecord) (fault : RowFault) (row : RowValue) → fault ≢ OutOfMemory → IsRowFault plan r fault → IsRowRecord plan r row → ⊥
no_row plan r OutOfMemory row other h is = other refl
no_row plan r Template row other h is = h is.of_template
no_row plan r Fields row other h is = h.1 (values_of plan row) (row_tells plan r row is)
no_row plan r Interval row other h is =
    let same = same_values plan r.fields (values_of plan row) h.1.0 (row_tells plan r row is) h.1.1 in
    h.1.2 row.interval (subst (λ (v : FieldValues). IsInterval plan row.interval v) same (row_interval plan r row is))
no_row plan r Border row other h is = h.1.2
no_row plan r Prefix row other h is =
    let same = same_values plan r.fields (values_of plan row) h.1.0 (row_tells plan r row is) h.1.1 in
    h.1.3 (subst (λ (v : FieldValues). AreProjected plan.keys v.key) same is.of_plan.projected)
no_row plan r Flows row other h is =
    let same = ap (λ (v : FieldValues). v.flows) (same_values plan r.fields (values_of plan row) h.1.0 (row_tells plan r row is) h.1.1) in
    omega (arith, same, h.1.4, is.of_plan.some)
