-- Orders of inputs by how far they are alike.
use Rattle.std.proofs.Common.{◌≡◌, ◌∙◌, ℕ, ◌+◌, ◌<◌, ◌≤◌, List, [], ◌∷◌, length, drop, get_or, refl, sym, ap, subst, arith}
use Rattle.std.specs.Prelude.{Bool, true, false, ◌==◌, ◌&&◌, bytes_eq, not, Option, Some, None}
use Rattle.std.specs.Borrow.{Bor}
use Rattle.std.specs.Cmp.{IsEquivalence, IsStrictWeakOrder, IsTotalOrder, both_tied, first_so, on_total, then_total, nat_cmp_total, unsigned_ties}
use Rattle.std.specs.Cmp.Lexicographic.{lists_ties, lists_total, nat_list_cmp_total, options_total, pointwise, slice_cmp}
use Rattle.std.specs.List.Sorted.{IsPartitionedBy}
use Rattle.std.specs.Option.{option_cmp}
use Rattle.std.specs.Ordering.{is_eq, is_le, is_lt, nat_cmp, ordering_reverse, ordering_then}
use Rattle.std.specs.declared.cmp.Ordering.{Ordering}
use Rattle.std.specs.declared.cmp.Ordering.TheVariants.{Less, Equal, Greater}
use Rattle.std.proofs.lemmas.Cmp.{eq_by_cmp_equiv}
use Rattle.std.proofs.lemmas.List.{get_or-drop, length-drop}
use Rattle.std.proofs.lemmas.List.MinMax.{ranks_by}
use Rattle.std.proofs.lemmas.List.Sorted.{sorted_far}
use Rattle.std.proofs.lemmas.Map.Text.{is_eq-slice_cmp}
use Rattle.table_receipts.specs.Values.{ExporterValue, not_asked, unknown, address, InputValue, input_value}
use Rattle.table_receipts.specs.declared.receipt.DomainReceipt.{DomainReceipt}
use Rattle.table_receipts.specs.declared.receipt.InputReceipt.{InputReceipt}
use Rattle.receipt_differences.specs.declared.likeness.Likeness.{Likeness}
use Rattle.receipt_differences.specs.declared.likeness.Likeness.TheVariants.{Octets, Exporter, Report}
use Rattle.receipt_differences.specs.Inputs.{domain_same, exporter_same, fault_same, is_alike, octets_same, report_same}
use Rattle.receipt_differences.specs.Orders.{Ascends, domain_cmp, exporter_cmp, exporter_place, exporter_text, likeness_cmp, octets_cmp, report_cmp}

-- ---- they are total

octets_total : IsTotalOrder octets_cmp
octets_total = then_total (on_total (λ (i : InputValue). i.file.octets) nat_cmp_total) (on_total (λ (i : InputValue). i.file.digest) nat_list_cmp_total)

exporter_total : IsTotalOrder exporter_cmp
exporter_total = then_total (on_total exporter_place nat_cmp_total) (on_total exporter_text nat_list_cmp_total)

number_total : {X : Type 0} (f : X → ℕ) → IsTotalOrder (λ x y. nat_cmp (f x) (f y))
number_total f = on_total f nat_cmp_total

domain_total : IsTotalOrder domain_cmp
domain_total = then_total (number_total (λ (d : DomainReceipt). d.domain)) (then_total (number_total (λ (d : DomainReceipt). d.lost))
    (then_total (number_total (λ (d : DomainReceipt). d.backward)) (then_total (number_total (λ (d : DomainReceipt). d.unaccounted)) (number_total (λ (d : DomainReceipt). d.unknown_sets)))))

report_total : IsTotalOrder report_cmp
report_total = then_total (number_total (λ (i : InputValue). i.messages)) (then_total (number_total (λ (i : InputValue). i.records))
    (then_total (on_total (λ (i : InputValue). i.fault) (options_total nat_list_cmp_total)) (on_total (λ (i : InputValue). i.domains) (lists_total domain_total))))

origin_total : IsTotalOrder (likeness_cmp Exporter)
origin_total = then_total octets_total (on_total (λ (i : InputValue). i.exporter) exporter_total)

pub likeness_total : (to : Likeness) → IsTotalOrder (likeness_cmp to)
likeness_total Octets = octets_total
likeness_total Exporter = origin_total
likeness_total Report = then_total origin_total report_total

-- ---- those that are alike are equal

text_tied : (xs ys : List ℕ) → bytes_eq xs ys ≡ is_eq (slice_cmp nat_cmp xs ys)
text_tied xs ys = sym (is_eq-slice_cmp xs ys)

number_then : (x y : ℕ) (t : Bool) (b : Ordering) → t ≡ is_eq b → ((x == y) && t) ≡ is_eq (ordering_then (nat_cmp x y) b)
number_then x y t b same = both_tied (x == y) t (nat_cmp x y) b (unsigned_ties x y) same

octets_tied : (i j : InputValue) → octets_same i j ≡ is_eq (octets_cmp i j)
octets_tied i j = number_then i.file.octets j.file.octets (bytes_eq i.file.digest j.file.digest) (slice_cmp nat_cmp i.file.digest j.file.digest) (text_tied i.file.digest j.file.digest)

exporter_tied : (e f : ExporterValue) → exporter_same e f ≡ is_eq (exporter_cmp e f)
exporter_tied not_asked not_asked = refl
exporter_tied not_asked unknown = refl
exporter_tied not_asked (address f) = refl
exporter_tied unknown not_asked = refl
exporter_tied unknown unknown = refl
exporter_tied unknown (address f) = refl
exporter_tied (address e) not_asked = refl
exporter_tied (address e) unknown = refl
exporter_tied (address e) (address f) = text_tied e f

fault_tied : (f g : Option (List ℕ)) → fault_same f g ≡ is_eq (option_cmp (slice_cmp nat_cmp) f g)
fault_tied None None = refl
fault_tied None (Some g) = refl
fault_tied (Some f) None = refl
fault_tied (Some f) (Some g) = text_tied f g

domain_tied : (d e : DomainReceipt) → domain_same d e ≡ is_eq (domain_cmp d e)
domain_tied d e =
    number_then d.domain e.domain _ _ (number_then d.lost e.lost _ _ (number_then d.backward e.backward _ _
    (number_then d.unaccounted e.unaccounted _ (nat_cmp d.unknown_sets e.unknown_sets) (unsigned_ties d.unknown_sets e.unknown_sets))))

report_tied : (i j : InputValue) → report_same i j ≡ is_eq (report_cmp i j)
report_tied i j =
    let domains = lists_ties domain_cmp domain_tied i.domains j.domains in
    let faults = option_cmp (slice_cmp nat_cmp) i.fault j.fault in
    let given = both_tied (fault_same i.fault j.fault) (pointwise domain_same i.domains j.domains) faults (slice_cmp domain_cmp i.domains j.domains) (fault_tied i.fault j.fault) domains in
    number_then i.messages j.messages _ _ (number_then i.records j.records _ (ordering_then faults (slice_cmp domain_cmp i.domains j.domains)) given)

origin_tied : (i j : InputValue) → is_alike Exporter i j ≡ is_eq (likeness_cmp Exporter i j)
origin_tied i j = both_tied (octets_same i j) (exporter_same i.exporter j.exporter) (octets_cmp i j) (exporter_cmp i.exporter j.exporter) (octets_tied i j) (exporter_tied i.exporter j.exporter)

pub alike_tied : (to : Likeness) (i j : InputValue) → is_alike to i j ≡ is_eq (likeness_cmp to i j)
alike_tied Octets i j = octets_tied i j
alike_tied Exporter i j = origin_tied i j
alike_tied Report i j = both_tied (is_alike Exporter i j) (report_same i j) (likeness_cmp Exporter i j) (report_cmp i j) (origin_tied i j) (report_tied i j)

-- so likeness is an equivalence
pub likeness_level : (to : Likeness) → IsEquivalence (is_alike to)
likeness_level to = subst (λ (E : InputValue → InputValue → Bool). IsEquivalence E) (λ k i j. sym (alike_tied to i j) k) (eq_by_cmp_equiv (likeness_total to))

pub level_right : (to : Likeness) (i j k : InputValue) → is_alike to i j ≡ true → is_alike to k i ≡ is_alike to k j
level_right to i j k is = let level = likeness_level to in level.symm k i ∙ level.congr i j k is ∙ level.symm j k

-- ---- one order is finer than another

turned_equal : (r : Ordering) → is_eq (ordering_reverse r) ≡ is_eq r
turned_equal Less = refl
turned_equal Equal = refl
turned_equal Greater = refl

turned_less : (r : Ordering) → is_le r ≡ not (is_lt (ordering_reverse r))
turned_less Less = refl
turned_less Equal = refl
turned_less Greater = refl

first_less : (a b : Ordering) → is_lt (ordering_then a b) ≡ false → is_lt a ≡ false
first_less Less b e = e
first_less Equal b e = refl
first_less Greater b e = refl

level_less : (to : Likeness) (i j : InputValue) → is_lt (likeness_cmp Report i j) ≡ false → is_lt (likeness_cmp to i j) ≡ false
level_less Octets i j e = first_less (octets_cmp i j) (exporter_cmp i.exporter j.exporter) (first_less (likeness_cmp Exporter i j) (report_cmp i j) e)
level_less Exporter i j e = first_less (likeness_cmp Exporter i j) (report_cmp i j) e
level_less Report i j e = e

pub is_equal : (to : Likeness) (i j : InputValue) → is_alike to i j ≡ is_eq (likeness_cmp to j i)
is_equal to i j = alike_tied to i j ∙ ap is_eq ((likeness_total to).antisymm i j) ∙ turned_equal (likeness_cmp to j i)

at_most_less : (to : Likeness) (i j : InputValue) → is_le (likeness_cmp to i j) ≡ not (is_lt (likeness_cmp to j i))
at_most_less to i j = turned_less (likeness_cmp to i j) ∙ ap (λ r. not (is_lt r)) (sym ((likeness_total to).antisymm j i))

not_true : (b : Bool) → not b ≡ true → b ≡ false
not_true true e = sym e
not_true false e = refl

-- ---- a search in them

module _ (to : Likeness) (v : InputValue) (xs : List (Bor InputReceipt)) (up : Ascends xs) where
  abbrev value : Bor InputReceipt → InputValue
  value i = input_value i.now

  weak : IsStrictWeakOrder (λ (i j : InputValue). is_lt (likeness_cmp to i j))
  weak = ranks_by (likeness_total to) (λ (i : InputValue). i)

  far : (i j : ℕ) (d : Bor InputReceipt) → i ≤ j → j < length xs → is_lt (likeness_cmp to (value (get_or xs j d)) (value (get_or xs i d))) ≡ false
  far i j d le lt = level_less to (value (get_or xs j d)) (value (get_or xs i d))
      (sorted_far (λ x y. is_lt (likeness_cmp Report (value x) (value y))) (ranks_by (likeness_total Report) value) xs up i j d le lt)

  pub parted_less : IsPartitionedBy (λ x. is_lt (likeness_cmp to (input_value x.now) v)) xs
  parted_less i j d le lt e = by (is_lt (likeness_cmp to (value (get_or xs i d)) v)) refl
    where
      by : (b : Bool) → is_lt (likeness_cmp to (value (get_or xs i d)) v) ≡ b → is_lt (likeness_cmp to (value (get_or xs i d)) v) ≡ true
      by true is = is
      by false is = let f = weak.chain (value (get_or xs j d)) (value (get_or xs i d)) v (far i j d le lt) is in absurd cc

  pub parted_upto : IsPartitionedBy (λ x. is_le (likeness_cmp to (input_value x.now) v)) xs
  parted_upto i j d le lt e =
      let x = value (get_or xs i d) in
      let y = value (get_or xs j d) in
      let above = not_true (is_lt (likeness_cmp to v y)) (sym (at_most_less to y v) ∙ e) in
      at_most_less to x v ∙ ap not (weak.chain v y x above (far i j d le lt))

pub parted_rest : {X : Type 0} (p : X → Bool) (xs rest : List X) (start : ℕ) → rest ≡ drop start xs → IsPartitionedBy p xs → IsPartitionedBy p rest
parted_rest {X} p xs rest start same parted = subst (λ (r : List X). IsPartitionedBy p r) (sym same) (λ i j d le lt.
    let long = length-drop start xs in
    rw (get_or-drop start xs i d, get_or-drop start xs j d) (parted (start + i) (start + j) d (omega arith) (omega arith)))
