-- What the fields of a plan's exports tell, part by part.
use Rattle.std.proofs.Common.{◌≡◌, ℕ, ◌^◌, ◌<◌, List, [], ◌∷◌, ◌++◌, length, map, drop, All, refl, sym, ap, ◌∙◌, arith}
use Rattle.std.specs.Prelude.{zip}
use Rattle.std.specs.List.{AllZip}
use Rattle.std.proofs.lemmas.List.Elements.{All-nil, All-cons, All-head, All-tail}
use Rattle.ipfix_wire.specs.declared.specifier.ElementId.{ElementId}
use Rattle.ipfix_elements.specs.declared.cell.Cell.{Cell}
use Rattle.ipfix_elements.specs.declared.kind.Kind.{Kind}
use Rattle.ipfix_message.specs.Fields.{Field}
use Rattle.flow_table.specs.declared.key.Key.{Key}
use Rattle.flow_table.specs.Fitting.{FitsKeys, IsCellOf}
use Rattle.flow_table.specs.Plans.{PlanValue, keys_and_kinds}
use Rattle.ipfix_elements.specs.Elements.{iana}
use Rattle.flow_export.specs.IpfixText.{key_field, number_field}
use Rattle.flow_merge.specs.declared.row_fault.RowFault.{RowFault}
use Rattle.flow_merge.specs.declared.row_fault.RowFault.TheVariants.{OutOfMemory, Template, Fields, Interval, Prefix, Flows, Border}
use Rattle.flow_merge.specs.InnerReading.{FitsKey, FitsNumber, Refuses, TellsCells, TellsNumber, TellsNumbers}
use Rattle.flow_merge.specs.RowFaults.{FieldValues, Tell}
use Rattle.flow_merge.proofs.Beginnings.{same_rest}

-- ---- numbers of 64 bits

numbers_fit : (es : List ElementId) (ns : List ℕ) → length ns ≡ length es → All (λ n. n < 2 ^ 64) ns → AllZip FitsNumber es ns
numbers_fit [] [] same small = tt
numbers_fit [] (n ∷ ns) same small = absurd (omega (arith, same))
numbers_fit (e ∷ es) [] same small = absurd (omega (arith, same))
numbers_fit (e ∷ es) (n ∷ ns) same small = (All-head (λ m. m < 2 ^ 64) n ns small, numbers_fit es ns (omega (arith, same)) (All-tail (λ m. m < 2 ^ 64) n ns small))

numbers_small : (es : List ElementId) (ns : List ℕ) → AllZip FitsNumber es ns → (length ns ≡ length es) × All (λ n. n < 2 ^ 64) ns
numbers_small [] [] fit = (refl, All-nil (λ n. n < 2 ^ 64))
numbers_small [] (n ∷ ns) fit = absurd fit
numbers_small (e ∷ es) [] fit = absurd fit
numbers_small (e ∷ es) (n ∷ ns) fit =
    let others = numbers_small es ns fit.1 in
    (omega (arith, others.0), All-cons (λ m. m < 2 ^ 64) n ns fit.0 others.1)

-- ---- cells of the kinds beside keys

cells_beside : (keys : List Key) (kinds : List Kind) (cells : List Cell) → length kinds ≡ length keys → AllZip IsCellOf kinds cells → AllZip FitsKey (zip keys kinds) cells
cells_beside [] [] [] beside fit = tt
cells_beside [] [] (c ∷ cs) beside fit = absurd fit
cells_beside [] (kind ∷ kinds) cells beside fit = absurd (omega (arith, beside))
cells_beside (k ∷ ks) [] cells beside fit = absurd (omega (arith, beside))
cells_beside (k ∷ ks) (kind ∷ kinds) [] beside fit = absurd fit
cells_beside (k ∷ ks) (kind ∷ kinds) (c ∷ cs) beside fit = (fit.0, cells_beside ks kinds cs (omega (arith, beside)) fit.1)

cells_of_kinds : (keys : List Key) (kinds : List Kind) (cells : List Cell) → length kinds ≡ length keys → AllZip FitsKey (zip keys kinds) cells → AllZip IsCellOf kinds cells
cells_of_kinds [] [] [] beside fit = tt
cells_of_kinds [] [] (c ∷ cs) beside fit = absurd fit
cells_of_kinds [] (kind ∷ kinds) cells beside fit = absurd (omega (arith, beside))
cells_of_kinds (k ∷ ks) [] cells beside fit = absurd (omega (arith, beside))
cells_of_kinds (k ∷ ks) (kind ∷ kinds) [] beside fit = absurd fit
cells_of_kinds (k ∷ ks) (kind ∷ kinds) (c ∷ cs) beside fit = (fit.0, cells_of_kinds ks kinds cs (omega (arith, beside)) fit.1)

pub keys_fit : (plan : PlanValue) (cells : List Cell) → FitsKeys plan cells → AllZip FitsKey (keys_and_kinds plan) cells
keys_fit plan cells fits = cells_beside plan.keys plan.kinds cells fits.beside fits.fit

-- ---- what follows each part

abbrev pub flows_on : FieldValues → List Field
flows_on v = number_field (iana 375, v.flows) ∷ []

abbrev pub sums_on : PlanValue → FieldValues → List Field
sums_on plan v = map number_field (zip plan.counters v.sums) ++ flows_on v

abbrev pub keys_on : PlanValue → FieldValues → List Field
keys_on plan v = map key_field (zip (keys_and_kinds plan) v.key) ++ sums_on plan v

-- ---- what was read, and what a row's fields would tell

pub refuse : {P Q : Type 0} → (Q → P) → (fault : RowFault) → Refuses P fault → Refuses Q fault
refuse f OutOfMemory refused = tt
refuse f Fields refused = λ q. refused (f q)
refuse f Template refused = refused
refuse f Interval refused = refused
refuse f Prefix refused = refused
refuse f Flows refused = refused
refuse f Border refused = refused

pub same_after : (e : ElementId) (fields rest after : List Field) (n m : ℕ) → TellsNumber e fields n rest → TellsNumber e fields m after → rest ≡ after
same_after e fields rest after n m one two = ap (drop 1) (sym one.is ∙ two.is)

-- what follows the two times, and then the cells
pub keys_follow : (plan : PlanValue) (all f g : List Field) (s e : ℕ) (v : FieldValues) → Tell plan all v → TellsNumber (iana 152) all s f → TellsNumber (iana 153) f e g → TellsCells plan.keys plan.kinds g v.key (sums_on plan v)
keys_follow plan all f g s e v tell starts ends =
    let first : f ≡ number_field (iana 153, v.end) ∷ keys_on plan v = ap (drop 1) (sym starts.is ∙ tell.told) in
    let second : g ≡ keys_on plan v = ap (drop 1) (sym ends.is ∙ first) in
    record { are = second; fit = keys_fit plan v.key tell.key }

pub sums_follow : (plan : PlanValue) (all f g h : List Field) (s e : ℕ) (cells : List Cell) (v : FieldValues) → Tell plan all v → TellsNumber (iana 152) all s f → TellsNumber (iana 153) f e g → TellsCells plan.keys plan.kinds g cells h
    → TellsNumbers plan.counters h v.sums (flows_on v)
sums_follow plan all f g h s e cells v tell starts ends keys = record {
  are = same_rest key_field FitsKey (keys_and_kinds plan) g cells v.key h (sums_on plan v) keys (keys_follow plan all f g s e v tell starts ends);
  fit = numbers_fit plan.counters v.sums tell.sums tell.small;
}

-- the last field
pub flows_follow : (plan : PlanValue) (all f g h k : List Field) (s e : ℕ) (cells : List Cell) (sums : List ℕ) (v : FieldValues) → Tell plan all v → TellsNumber (iana 152) all s f → TellsNumber (iana 153) f e g
    → TellsCells plan.keys plan.kinds g cells h → TellsNumbers plan.counters h sums k → TellsNumber (iana 375) k v.flows []
flows_follow plan all f g h k s e cells sums v tell starts ends keys counters = record {
  is = same_rest number_field FitsNumber plan.counters h sums v.sums k (flows_on v) counters (sums_follow plan all f g h s e cells v tell starts ends keys);
  fits = tell.few;
}

-- all that was read
pub values_read : (plan : PlanValue) (all f g h k : List Field) (s e n : ℕ) (cells : List Cell) (sums : List ℕ) → length plan.kinds ≡ length plan.keys → TellsNumber (iana 152) all s f → TellsNumber (iana 153) f e g → TellsCells plan.keys plan.kinds g cells h
    → TellsNumbers plan.counters h sums k → TellsNumber (iana 375) k n [] → Tell plan all (record { start = s; end = e; key = cells; sums = sums; flows = n })
values_read plan all f g h k s e n cells sums beside starts ends keys counters flows =
    let both = numbers_small plan.counters sums counters.fit in
    record {
      told = starts.is ∙ ap (λ (fs : List Field). number_field (iana 152, s) ∷ fs)
          (ends.is ∙ ap (λ (fs : List Field). number_field (iana 153, e) ∷ fs)
          (keys.are ∙ ap (λ (fs : List Field). map key_field (zip (keys_and_kinds plan) cells) ++ fs)
          (counters.are ∙ ap (λ (fs : List Field). map number_field (zip plan.counters sums) ++ fs) flows.is)));
      key = record { beside = beside; fit = cells_of_kinds plan.keys plan.kinds cells beside keys.fit };
      sums = both.0;
      start = starts.fits;
      end = ends.fits;
      small = both.1;
      few = flows.fits;
    }
