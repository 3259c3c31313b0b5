-- Inputs in an order, counted.
use Rattle.std.proofs.Common.{◌≡◌, ◌∙◌, ℕ, ◌+◌, List, [], ◌∷◌, ◌++◌, map, refl, sym, ap}
use Rattle.std.specs.Prelude.{Bool, cond}
use Rattle.std.specs.Borrow.{Bor}
use Rattle.std.specs.List.{count_by, flat_map}
use Rattle.std.specs.List.Sorted.{IsPermutation}
use Rattle.std.specs.Ordering.{is_eq}
use Rattle.std.proofs.lemmas.List.Sorted.{sum_by-IsPermutation}
use Rattle.std.proofs.lemmas.List.Sums.{sum_by-cons}
use Rattle.table_receipts.specs.Values.{InputValue, input_value}
use Rattle.table_receipts.specs.declared.receipt.InputReceipt.{InputReceipt}
use Rattle.receipt_differences.specs.declared.likeness.Likeness.{Likeness}
use Rattle.receipt_differences.specs.declared.likeness.Likeness.TheVariants.{Octets, Exporter, Report}
use Rattle.receipt_differences.specs.Inputs.{count_alike, file_differs, input_differs, is_alike}
use Rattle.receipt_differences.specs.Orders.{likeness_cmp, values_of}
use Rattle.receipt_differences.proofs.Alike.{is_equal}
use Rattle.receipt_differences.proofs.Counts.{count_same}

count_map : {X Y : Type 0} (p : Y → Bool) (value : X → Y) (xs : List X) → count_by p (map value xs) ≡ count_by (λ x. p (value x)) xs
count_map p value [] = refl
count_map p value (x ∷ xs) =
    sum_by-cons (λ y. cond (p y) 1 0) (value x) (map value xs) ∙ ap (λ n. cond (p (value x)) 1 0 + n) (count_map p value xs) ∙ sym (sum_by-cons (λ z. cond (p (value z)) 1 0) x xs)

-- the values of the same inputs
pub counted : (p : InputValue → Bool) (inputs : List InputReceipt) (ordered : List (Bor InputReceipt)) → IsPermutation inputs (map (λ i. i.now) ordered)
    → count_by p (values_of ordered) ≡ count_by p (map input_value inputs)
counted p inputs ordered same =
    let q = λ (i : InputReceipt). p (input_value i) in
    let through : count_by p (values_of ordered) ≡ count_by q (map (λ i. i.now) ordered) = count_map p (λ (i : Bor InputReceipt). input_value i.now) ordered ∙ sym (count_map q (λ (i : Bor InputReceipt). i.now) ordered) in
    through ∙ sum_by-IsPermutation (λ i. cond (q i) 1 0) inputs (map (λ i. i.now) ordered) same ∙ sym (count_map p input_value inputs)

flat_same : {X : Type 0} (f g : X → List ℕ) → ((x : X) → f x ≡ g x) → (xs : List X) → flat_map f xs ≡ flat_map g xs
flat_same f g each [] = refl
flat_same f g each (x ∷ xs) = ap (λ l. l ++ flat_map f xs) (each x) ∙ ap (λ l. g x ++ l) (flat_same f g each xs)

-- those that are equal in the order are alike
pub count_equal : (to : Likeness) (v : InputValue) (ordered : List (Bor InputReceipt)) → count_alike to v (values_of ordered) ≡ count_by (λ i. is_eq (likeness_cmp to (input_value i.now) v)) ordered
count_equal to v ordered =
    count_map (is_alike to v) (λ (i : Bor InputReceipt). input_value i.now) ordered
    ∙ count_same (λ (i : Bor InputReceipt). is_alike to v (input_value i.now)) (λ i. is_eq (likeness_cmp to (input_value i.now) v)) (λ i. is_equal to v (input_value i.now)) ordered

module _ (inputs files : List InputReceipt) (own others : List (Bor InputReceipt)) (of_inputs : IsPermutation inputs (map (λ i. i.now) own)) (of_files : IsPermutation files (map (λ i. i.now) others)) where
  own_counted : (to : Likeness) (i : InputValue) → count_alike to i (values_of own) ≡ count_alike to i (map input_value inputs)
  own_counted to i = counted (is_alike to i) inputs own of_inputs

  others_counted : (to : Likeness) (i : InputValue) → count_alike to i (values_of others) ≡ count_alike to i (map input_value files)
  others_counted to i = counted (is_alike to i) files others of_files

  input_same : (i : InputValue) → input_differs (values_of own) (values_of others) i ≡ input_differs (map input_value inputs) (map input_value files) i
  input_same i = rw (own_counted Octets i, others_counted Octets i, own_counted Exporter i, others_counted Exporter i, own_counted Report i, others_counted Report i) refl

  file_same : (f : InputValue) → file_differs (values_of own) (values_of others) f ≡ file_differs (map input_value inputs) (map input_value files) f
  file_same f = rw (own_counted Octets f, others_counted Octets f, own_counted Exporter f, others_counted Exporter f) refl

  -- what is told by the ordered ones
  pub told_of_inputs : flat_map (λ (i : InputReceipt). input_differs (values_of own) (values_of others) (input_value i)) inputs
      ≡ flat_map (λ (i : InputReceipt). input_differs (map input_value inputs) (map input_value files) (input_value i)) inputs
  told_of_inputs = flat_same (λ i. input_differs (values_of own) (values_of others) (input_value i)) (λ i. input_differs (map input_value inputs) (map input_value files) (input_value i)) (λ i. input_same (input_value i)) inputs

  pub told_of_files : flat_map (λ (f : InputReceipt). file_differs (values_of own) (values_of others) (input_value f)) files
      ≡ flat_map (λ (f : InputReceipt). file_differs (map input_value inputs) (map input_value files) (input_value f)) files
  told_of_files = flat_same (λ f. file_differs (values_of own) (values_of others) (input_value f)) (λ f. file_differs (map input_value inputs) (map input_value files) (input_value f)) (λ f. file_same (input_value f)) files
