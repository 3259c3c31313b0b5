-- The cells of keys are of their kinds, and every table fits its plan.
use Rattle.std.proofs.Common.{◌≡◌, ℕ, zero, suc, ◌+◌, ◌*◌, ◌^◌, ◌<◌, ◌≤◌, inl, inr, Bool, true, false, nat_eq, ◌&&◌, unwrap_or, eqb, leb, ltb, cond, length, List, [], ◌∷◌, ◌++◌, map, find, filter, All, slice_index, Option, Some, None, option_map, option_and_then, refl, sym, ap, ◌∙◌, subst, arith}
use Rattle.std.specs.List.{list_all, list_any, AllZip, Contains}
use Rattle.std.proofs.lemmas.Bool.{cases_Bool, cases_lt, cond-true, cond-false, and_parts, eqb-true, leb-true}
use Rattle.std.proofs.lemmas.List.{length-map}
use Rattle.std.proofs.lemmas.List.Elements.{All-nil, All-cons, All-head, All-tail, All-weaker}
use Rattle.std.proofs.lemmas.Nat.{mul-add-lt}
use Rattle.std.proofs.Math.Nat.{pow-suc, pow-le-pow_right}
use Rattle.byteorder.specs.Endian.{big_from, big_number}
use Rattle.ipfix_wire.specs.declared.specifier.ElementId.{ElementId}
use Rattle.ipfix_elements.proofs.Lookups.{mapped}
use Rattle.ipfix_elements.specs.Values.{octets_of as width_of, is_number_length, number_in, cell_in}
use Rattle.ipfix_elements.specs.declared.cell.Cell.{Cell}
use Rattle.ipfix_elements.specs.declared.cell.Cell.TheVariants as cells
use Rattle.ipfix_elements.specs.declared.kind.Kind.{Kind}
use Rattle.ipfix_elements.specs.declared.kind.Kind.TheVariants.{Unsigned, Ipv4, Ipv6, Mac, Seconds, Millis, Octets}
use Rattle.ipfix_elements.specs.declared.kind.Width.{Width}
use Rattle.ipfix_message.specs.Fields.{Field, octets_of, same_element}
use Rattle.ipfix_message.specs.DataRecords.{HasOctets}
use Rattle.ipfix_message.specs.declared.record.DataRecord.{DataRecord}
use Rattle.flow_table.specs.declared.class.Class.{Class}
use Rattle.flow_table.specs.declared.class.Class.TheVariants as classes
use Rattle.flow_table.specs.declared.key.Key.{Key}
use Rattle.flow_table.specs.declared.table.Row.{Row}
use Rattle.flow_table.specs.declared.table.Table.{Table}
use Rattle.flow_table.specs.Fitting.{IsCellOf, FitsKeys, FitsRow, FitsPlan, KeysFit}
use Rattle.flow_table.specs.Intervals.{covers}
use Rattle.flow_table.specs.Plans.{PlanValue, IsPlan, is_key_kind}
use Rattle.flow_table.specs.Reading.{is_class, projected, cell_of, cells_of, key_of, class_of}
use Rattle.flow_table.specs.Readings.{ReadsAs}
use Rattle.flow_table.specs.declared.reading.Reading.{Reading}
use Rattle.flow_table.specs.declared.reading.Reading.TheVariants as readings
use Rattle.flow_table.specs.Tables.{begin_of, finish_of, key_cmp, is_key, contributes, sum_at, flows_at, IsRow, IsTable, IsTooLarge}
use Rattle.flow_table.proofs.Places.{equal_from, key_equal}
use Rattle.flow_table.proofs.Lacking.{not_used}
use Rattle.flow_table.proofs.Sums.{flows_at-append}
use Rattle.flow_table.proofs.UsedFlows.{used_as, begins_in_time}

-- ---- cells

abbrev pub IsOctets : List ℕ → Type 0
IsOctets octets = All (λ b. b < 256) octets

big_from-small : (i n : ℕ) (xs : List ℕ) → ((k : ℕ) → slice_index xs k < 256) → big_from i n xs < 256 ^ n
big_from-small i zero xs small = omega arith
big_from-small i (suc n) xs small =
    let first = small i in
    let others = big_from-small (suc i) n xs small in
    rw (pow-suc 256 n) (mul-add-lt (slice_index xs i) (256 ^ n) (big_from (suc i) n xs) 256 first others)

each_small : (xs : List ℕ) → IsOctets xs → (k : ℕ) → slice_index xs k < 256
each_small [] small k = omega arith
each_small (x ∷ xs) small zero = All-head (λ b. b < 256) x xs small
each_small (x ∷ xs) small (suc k) = each_small xs (All-tail (λ b. b < 256) x xs small) k

pub number_fits : (width : Width) (octets : List ℕ) (n : ℕ) → IsOctets octets → number_in (Unsigned width) octets ≡ Some n → n < 256 ^ width_of width
number_fits width octets n small h =
    let long = is_number_length (Unsigned width) (length octets) in
    elim (cases_Bool long) as (λ _. n < 256 ^ width_of width) [
      | inl does ↦
          let same : Some (big_number (length octets) octets) ≡ Some n = sym (cond-true long (Some (big_number (length octets) octets)) None does) ∙ h in
          let is : big_number (length octets) octets ≡ n = cc in
          let short : length octets ≤ width_of width = leb-true (length octets) (width_of width) (and_parts (ltb 0 (length octets)) (leb (length octets) (width_of width)) does).1 in
          let bound : big_number (length octets) octets < 256 ^ length octets = big_from-small 0 (length octets) octets (each_small octets small) in
          omega (arith, is, bound, pow-le-pow_right {n = 256} (omega arith) short)
      | inr doesnt ↦
          let none : None ≡ Some n = sym (cond-false long (Some (big_number (length octets) octets)) None doesnt) ∙ h in
          cc
    ]

-- what a value was before it was chosen or read further
chosen : {X : Type 0} (b : Bool) (x y : X) → cond b (Some x) None ≡ Some y → (b ≡ true) × (x ≡ y)
chosen true x y h = (refl, cc)
chosen false x y h = absurd cc

read_further : {X Y : Type 0} (f : X → Option Y) (o : Option X) (y : Y) → option_and_then f o ≡ Some y → (x : X) × (o ≡ Some x) × (f x ≡ Some y)
read_further f None y h = absurd cc
read_further f (Some x) y h = (x, refl, h)

cell_fits : (kind : Kind) (octets : List ℕ) (cell : Cell) → is_key_kind kind ≡ true → IsOctets octets → cell_in kind octets ≡ Some cell → IsCellOf kind cell
cell_fits (Unsigned width) octets cell ok small h =
    let m = mapped (λ n. cells.Number n) (number_in (Unsigned width) octets) cell h in
    subst (IsCellOf (Unsigned width)) m.2 (number_fits width octets m.0 small m.1)
cell_fits Ipv4 octets cell ok small h =
    let m = chosen (eqb (length octets) 4) (cells.Ipv4 octets) cell h in
    subst (IsCellOf Ipv4) m.1 (eqb-true (length octets) 4 m.0)
cell_fits Ipv6 octets cell ok small h =
    let m = chosen (eqb (length octets) 16) (cells.Ipv6 octets) cell h in
    subst (IsCellOf Ipv6) m.1 (eqb-true (length octets) 16 m.0)
cell_fits Mac octets cell ok small h =
    let m = chosen (eqb (length octets) 6) (cells.Mac octets) cell h in
    subst (IsCellOf Mac) m.1 (eqb-true (length octets) 6 m.0)
cell_fits Seconds octets cell ok small h = absurd cc
cell_fits Millis octets cell ok small h = absurd cc
cell_fits Octets octets cell ok small h = absurd cc

pub projected_fits : (kind : Kind) (prefix : Option ℕ) (cell : Cell) → IsCellOf kind cell → IsCellOf kind (projected prefix cell)
projected_fits kind None cell h = h
projected_fits kind (Some bits) (cells.Number n) h = h
projected_fits kind (Some bits) (cells.Mac address) h = h
projected_fits Ipv4 (Some bits) (cells.Ipv4 address) h = refl
projected_fits (Unsigned width) (Some bits) (cells.Ipv4 address) h = h
projected_fits Ipv6 (Some bits) (cells.Ipv4 address) h = h
projected_fits Mac (Some bits) (cells.Ipv4 address) h = h
projected_fits Seconds (Some bits) (cells.Ipv4 address) h = h
projected_fits Millis (Some bits) (cells.Ipv4 address) h = h
projected_fits Octets (Some bits) (cells.Ipv4 address) h = h
projected_fits Ipv6 (Some bits) (cells.Ipv6 address) h = refl
projected_fits (Unsigned width) (Some bits) (cells.Ipv6 address) h = h
projected_fits Ipv4 (Some bits) (cells.Ipv6 address) h = h
projected_fits Mac (Some bits) (cells.Ipv6 address) h = h
projected_fits Seconds (Some bits) (cells.Ipv6 address) h = h
projected_fits Millis (Some bits) (cells.Ipv6 address) h = h
projected_fits Octets (Some bits) (cells.Ipv6 address) h = h

-- ---- keys

found_has : {X : Type 0} (p : X → Bool) (P : X → Type 0) (xs : List X) (x : X) → All P xs → find p xs ≡ Some x → P x
found_has p P [] x all h = absurd cc
found_has {X} p P (y ∷ ys) x all h =
    elim (cases_Bool (p y)) as (λ _. P x) [
      | inl does ↦
          let same : Some y ≡ Some x = sym (cond-true (p y) (Some y) (find p ys) does) ∙ h in
          let is : y ≡ x = cc in
          subst P is (All-head P y ys all)
      | inr doesnt ↦ found_has p P ys x (All-tail P y ys all) (sym (cond-false (p y) (Some y) (find p ys) doesnt) ∙ h)
    ]

cell_of_fits : (key : Key) (kind : Kind) (r : DataRecord) (cell : Cell) → is_key_kind kind ≡ true → HasOctets r → cell_of key kind r ≡ Some cell → IsCellOf kind cell
unfolding cell_of
cell_of_fits key kind r cell ok small h =
    let whole = mapped (projected key.prefix) (option_and_then (cell_in kind) (octets_of key.element r.fields)) cell h in
    let octets = read_further (cell_in kind) (octets_of key.element r.fields) whole.0 whole.1 in
    let field = mapped (λ (f : Field). f.octets) (find (λ (f : Field). same_element f.element key.element) r.fields) octets.0 octets.1 in
    let are_octets = found_has (λ (f : Field). same_element f.element key.element) (λ (f : Field). IsOctets f.octets) r.fields field.0 small field.1 in
    subst (IsCellOf kind) whole.2 (projected_fits kind key.prefix whole.0 (cell_fits kind octets.0 whole.0 ok (subst IsOctets field.2 are_octets) octets.2))

keys_fit : (keys : List Key) (kinds : List Kind) (r : DataRecord) (found : List Cell) → length kinds ≡ length keys → list_all is_key_kind kinds ≡ true → HasOctets r → cells_of keys kinds r ≡ Some found → AllZip IsCellOf kinds found
keys_fit [] [] r found beside ok small h =
    let is : [] ≡ found = cc in
    subst (AllZip IsCellOf []) is tt
keys_fit [] (kind ∷ kinds) r found beside ok small h = absurd (omega (arith, beside))
keys_fit (k ∷ ks) [] r found beside ok small h = absurd (omega (arith, beside))
keys_fit (k ∷ ks) (kind ∷ kinds) r found beside ok small h =
    let both = and_parts (is_key_kind kind) (list_all is_key_kind kinds) ok in
    let first = read_further (λ cell. option_map (λ others. cell ∷ others) (cells_of ks kinds r)) (cell_of k kind r) found h in
    let others = mapped (λ (cs : List Cell). first.0 ∷ cs) (cells_of ks kinds r) found first.2 in
    subst (AllZip IsCellOf (kind ∷ kinds)) others.2 (cell_of_fits k kind r first.0 both.0 small first.1, keys_fit ks kinds r others.0 (omega (arith, beside)) both.1 small others.1)

-- ---- rows

has_key : (key : List Cell) (found : Option (List Cell)) → is_key key found ≡ true → found ≡ Some key
has_key key None h = absurd cc
has_key key (Some found) h = ap (λ (x : List Cell). Some x) (sym (key_equal key found (equal_from (key_cmp key found) h)))

is_used_class : (class : Class) → is_class classes.Used class ≡ true → class ≡ classes.Used
is_used_class classes.Options h = absurd cc
is_used_class classes.Untimed h = absurd cc
is_used_class classes.Backward h = absurd cc
is_used_class classes.Unkeyed h = absurd cc
is_used_class classes.TooLong h = absurd cc
is_used_class classes.Used h = refl

-- where a flow contributes: at an interval in time, under its key
same_covers : (plan : PlanValue) (k a b s e : ℕ) → a ≡ s → b ≡ e → list_any (nat_eq k) (covers plan a b) ≡ true → list_any (nat_eq k) (covers plan s e) ≡ true
same_covers plan k a b s e from to h = rw (← from, ← to) h

pub contributes_at : (plan : PlanValue) (k : ℕ) (key : List Cell) (r : DataRecord) → contributes plan k key r ≡ true
    → (class_of plan r ≡ classes.Used) × (k * plan.length < 2 ^ 50) × (key_of plan r ≡ Some key)
unfolding contributes
contributes_at plan k key r h =
    let given = and_parts (is_class classes.Used (class_of plan r) && list_any (nat_eq k) (covers plan (begin_of plan r) (finish_of plan r))) (is_key key (key_of plan r)) h in
    let used = and_parts (is_class classes.Used (class_of plan r)) (list_any (nat_eq k) (covers plan (begin_of plan r) (finish_of plan r))) given.0 in
    let class = is_used_class (class_of plan r) used.0 in
    let flow = used_as plan r class in
    let is = flow.3 in
    let from : begin_of plan r ≡ flow.0 = ap (λ (o : Option ℕ). unwrap_or o 0) is.start in
    let to : finish_of plan r ≡ flow.1 = ap (λ (o : Option ℕ). unwrap_or o 0) is.end in
    let in_it : list_any (nat_eq k) (covers plan flow.0 flow.1) ≡ true = same_covers plan k (begin_of plan r) (finish_of plan r) flow.0 flow.1 from to used.1 in
    let begin : k * plan.length ≤ flow.1 = begins_in_time plan.method k plan.length flow.0 flow.1 is.forward in_it in
    (class, omega (arith, begin, is.in_time), has_key key (key_of plan r) given.1)

-- what holds by one element that passes holds where some do
from_passing : {X : Type 0} (p : X → Bool) (Q : X → Type 0) (P : Type 0) → ((x : X) → Q x → p x ≡ true → P) → (xs : List X) → All Q xs → 0 < length (filter p xs) → P
from_passing p Q P f [] all some = absurd (omega arith)
from_passing p Q P f (x ∷ xs) all some =
    elim (cases_Bool (p x)) as (λ _. P) [
      | inl does ↦ f x (All-head Q x xs all) does
      | inr doesnt ↦
          let others : filter p (x ∷ xs) ≡ filter p xs = cond-false (p x) (x ∷ filter p xs) (filter p xs) doesnt in
          from_passing p Q P f xs (All-tail Q x xs all) (rw others at some)
    ]

from_flow : (plan : PlanValue) (Q : DataRecord → Type 0) (P : Type 0) (rs : List DataRecord) (k : ℕ) (key : List Cell) → ((r : DataRecord) → Q r → contributes plan k key r ≡ true → P) → All Q rs → 0 < flows_at plan rs k key → P
unfolding flows_at
from_flow plan Q P rs k key f all some = from_passing (contributes plan k key) Q P f rs all some

interval_fits : (plan : PlanValue) (rs : List DataRecord) (k : ℕ) (key : List Cell) → 0 < flows_at plan rs k key → k * plan.length < 2 ^ 50
interval_fits plan rs k key some =
    from_flow plan (λ r. Unit {0}) (k * plan.length < 2 ^ 50) rs k key (λ r any does. (contributes_at plan k key r does).1) (λ i r inside. tt) some

-- ---- tables

-- what is not 2^64 or more is below
below : (n : ℕ) → (2 ^ 64 ≤ n → ⊥) → n < 2 ^ 64
below n not_large = elim (cases_lt n (2 ^ 64)) [ inl less ↦ less | inr large ↦ absurd (not_large large) ]

small_map : (f : ElementId → ℕ) (cs : List ElementId) → ((c : ElementId) → Contains cs c → f c < 2 ^ 64) → All (λ sum. sum < 2 ^ 64) (map f cs)
small_map f [] each = All-nil (λ sum. sum < 2 ^ 64)
small_map f (c ∷ cs) each = All-cons (λ sum. sum < 2 ^ 64) (f c) (map f cs) (each c (zero, omega arith, refl)) (small_map f cs (λ d h. each d (suc h.0, let inside = h.1 in omega (arith, inside), h.2)))

row_fits : (plan : PlanValue) (rs : List DataRecord) → KeysFit plan rs → (IsTooLarge plan rs → ⊥) → (row : Row) → IsRow plan rs row → FitsRow plan row
row_fits plan rs fit not_large row is_row =
    let k = row.interval in
    let key = row.key.items in
    record {
      interval = interval_fits plan rs k key is_row.some;
      key = fit k key is_row.some;
      sums = ap length is_row.sums ∙ length-map plan.counters (sum_at plan rs k key);
      small = subst (λ (sums : List ℕ). All (λ sum. sum < 2 ^ 64) sums) (sym is_row.sums) (small_map (sum_at plan rs k key) plan.counters (λ c h. below (sum_at plan rs k key c) (λ large. not_large (inl (k, key, c, h, large)))));
      few = subst (λ (n : ℕ). n < 2 ^ 64) (sym is_row.flows) (below (flows_at plan rs k key) (λ large. not_large (inr (inl (k, key, large)))));
    }

pub table_fits : (plan : PlanValue) (rs : List DataRecord) (table : Table) → KeysFit plan rs → (IsTooLarge plan rs → ⊥) → IsTable plan rs table → FitsPlan plan table
table_fits plan rs table fit not_large is_table =
    record {
      ascending = is_table.ascending;
      rows = All-weaker (IsRow plan rs) (FitsRow plan) (row_fits plan rs fit not_large) table.rows.items is_table.rows;
    }

-- ---- lists whose keys fit

octets_keys_fit : (plan : PlanValue) (rs : List DataRecord) → IsPlan plan → All HasOctets rs → KeysFit plan rs
octets_keys_fit plan rs is_plan octets k key some =
    from_flow plan HasOctets (FitsKeys plan key) rs k key
    (λ r small does. record { beside = is_plan.beside; fit = keys_fit plan.keys plan.kinds r key is_plan.beside is_plan.kinds small (contributes_at plan k key r does).2 }) octets some

pub tables_fit_of : (plan : PlanValue) (rs : List DataRecord) (table : Table) → IsPlan plan → All HasOctets rs → (IsTooLarge plan rs → ⊥) → IsTable plan rs table → FitsPlan plan table
tables_fit_of plan rs table is_plan octets = table_fits plan rs table (octets_keys_fit plan rs is_plan octets)

no_flows : (plan : PlanValue) (k : ℕ) (key : List Cell) → 0 < flows_at plan [] k key → ⊥
unfolding flows_at
no_flows plan k key some = omega arith

pub no_keys_fit : (plan : PlanValue) → KeysFit plan []
no_keys_fit plan k key some = absurd (no_flows plan k key some)

key_fits : (plan : PlanValue) (r : DataRecord) (words : List ℕ) (q : List Cell) (reading : Reading) → ReadsAs plan r words reading → class_of plan r ≡ classes.Used → key_of plan r ≡ Some q → FitsKeys plan q
key_fits plan r words q (readings.Left left_out) reads used found = absurd (not_used left_out (sym reads.class ∙ used))
key_fits plan r words q (readings.Used flow) reads used found =
    let cells = reads.is.cells in
    let same : reads.key ≡ q = cc in
    subst (FitsKeys plan) same reads.fits

-- the key of a record that was read
pub read_keys_fit : (plan : PlanValue) (r : DataRecord) (words : List ℕ) (reading : Reading) → ReadsAs plan r words reading → KeysFit plan (r ∷ [])
read_keys_fit plan r words reading reads k q some =
    from_flow plan (λ x. r ≡ x) (FitsKeys plan q) (r ∷ []) k q
    (λ x is does. let at = contributes_at plan k q r (subst (λ (y : DataRecord). contributes plan k q y ≡ true) (sym is) does) in key_fits plan r words q reading reads at.0 at.2)
    (All-cons (λ x. r ≡ x) r [] refl (All-nil (λ x. r ≡ x))) some

pub both_keys_fit : (plan : PlanValue) (rs qs : List DataRecord) → KeysFit plan rs → KeysFit plan qs → KeysFit plan (rs ++ qs)
both_keys_fit plan rs qs fit others k key some =
    let sum : flows_at plan (rs ++ qs) k key ≡ flows_at plan rs k key + flows_at plan qs k key = flows_at-append plan rs qs k key in
    elim (cases_lt 0 (flows_at plan rs k key)) as (λ _. FitsKeys plan key)
    [ inl here ↦ fit k key here | inr none ↦ others k key (omega arith) ]
