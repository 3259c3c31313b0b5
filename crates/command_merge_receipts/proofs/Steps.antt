-- Tables that are merged in steps: what their receipts say together.
use Rattle.std.proofs.Common.{◌≡◌, ◌∙◌, ℕ, ◌+◌, ◌-◌, ◌<◌, List, [], ◌∷◌, ◌++◌, refl, sym, ap, ap₂, subst, arith}
use Rattle.std.specs.Prelude.{◌^◌, Bool, true, false, not, ◌&&◌, if◌then◌else◌, nat_lt, min}
use Rattle.std.specs.List.{AllZip, list_all}
use Rattle.std.proofs.lemmas.Bool.{lt-ltb, ltb-true}
use Rattle.std.proofs.lemmas.Grind.{flat_map-append}
use Rattle.table_receipts.specs.declared.receipt.RecordCounts.{RecordCounts}
use Rattle.table_receipts.specs.Values.{InputValue}
use Rattle.receipt_merging.specs.Once.{each_once, is_same_input}
use Rattle.receipt_merging.specs.Parts.{PartValue, add_counts, all_complete, counts_from, inputs_in, is_complete, left_out_in, no_counts, sum_of}
use Rattle.command_merge_receipts.specs.Steps.{IsMergedOf, SayTheSame, all_parts}

-- ---- sums that stop

stopped : (m n : ℕ) → sum_of m n ≡ min (m + n) (2 ^ 64 - 1)
stopped m n = by_test (nat_lt (m + n) (2 ^ 64)) refl
  where
    by_test : (b : Bool) → nat_lt (m + n) (2 ^ 64) ≡ b → (if b then m + n else 2 ^ 64 - 1) ≡ min (m + n) (2 ^ 64 - 1)
    by_test true is = let less : m + n < 2 ^ 64 = ltb-true (m + n) (2 ^ 64) is in omega (arith, less)
    by_test false is =
        let not_less : m + n < 2 ^ 64 → ⊥ = λ less. absurd (cc (lt-ltb (m + n) (2 ^ 64) less, is)) in
        omega (arith, not_less)

in_any_order : (a b c : ℕ) → sum_of (sum_of a b) c ≡ sum_of a (sum_of b c)
in_any_order a b c = omega (arith, stopped a b, stopped b c, stopped (sum_of a b) c, stopped a (sum_of b c))

abbrev made : ℕ → ℕ → ℕ → ℕ → ℕ → ℕ → RecordCounts
made used options untimed backward unkeyed too_long =
    record { used = used; options = options; untimed = untimed; backward = backward; unkeyed = unkeyed; too_long = too_long }

same_counts : (a b : RecordCounts) → a.used ≡ b.used → a.options ≡ b.options → a.untimed ≡ b.untimed → a.backward ≡ b.backward → a.unkeyed ≡ b.unkeyed → a.too_long ≡ b.too_long → a ≡ b
same_counts a b used options untimed backward unkeyed too_long =
    ap (λ n. made n a.options a.untimed a.backward a.unkeyed a.too_long) used ∙ ap (λ n. made b.used n a.untimed a.backward a.unkeyed a.too_long) options
    ∙ ap (λ n. made b.used b.options n a.backward a.unkeyed a.too_long) untimed ∙ ap (λ n. made b.used b.options b.untimed n a.unkeyed a.too_long) backward
    ∙ ap (λ n. made b.used b.options b.untimed b.backward n a.too_long) unkeyed ∙ ap (λ n. made b.used b.options b.untimed b.backward b.unkeyed n) too_long

add_in_any_order : (a b c : RecordCounts) → add_counts (add_counts a b) c ≡ add_counts a (add_counts b c)
add_in_any_order a b c =
    same_counts _ _ (in_any_order a.used b.used c.used) (in_any_order a.options b.options c.options) (in_any_order a.untimed b.untimed c.untimed)
    (in_any_order a.backward b.backward c.backward) (in_any_order a.unkeyed b.unkeyed c.unkeyed) (in_any_order a.too_long b.too_long c.too_long)

-- counts that were added to none are as they were
added_to_none : (a b : RecordCounts) → add_counts no_counts (add_counts a b) ≡ add_counts a b
added_to_none a b =
    same_counts _ _ (again a.used b.used) (again a.options b.options) (again a.untimed b.untimed) (again a.backward b.backward) (again a.unkeyed b.unkeyed) (again a.too_long b.too_long)
  where
    again : (m n : ℕ) → sum_of 0 (sum_of m n) ≡ sum_of m n
    again m n = omega (arith, stopped m n, stopped 0 (sum_of m n))

none_added : (a b : RecordCounts) → add_counts (add_counts a b) no_counts ≡ add_counts a b
none_added a b =
    same_counts _ _ (again a.used b.used) (again a.options b.options) (again a.untimed b.untimed) (again a.backward b.backward) (again a.unkeyed b.unkeyed) (again a.too_long b.too_long)
  where
    again : (m n : ℕ) → sum_of (sum_of m n) 0 ≡ sum_of m n
    again m n = omega (arith, stopped m n, stopped (sum_of m n) 0)

-- counts of parts are added to sums as their own sum is
counts_added : (a b : RecordCounts) (parts : List PartValue) → counts_from (add_counts a b) parts ≡ add_counts (add_counts a b) (counts_from no_counts parts)
counts_added a b [] = sym (none_added a b)
counts_added a b (p ∷ parts) =
    let here = p.receipt.records in
    let sum = add_counts a b in
    counts_added sum here parts ∙ add_in_any_order sum here (counts_from no_counts parts)
    ∙ ap (add_counts sum) (sym (added_to_none here (counts_from no_counts parts)) ∙ sym (add_in_any_order no_counts here (counts_from no_counts parts)) ∙ sym (counts_added no_counts here parts))

counts_of_all : (so_far : RecordCounts) (parts others : List PartValue) → counts_from so_far (parts ++ others) ≡ counts_from (counts_from so_far parts) others
counts_of_all so_far [] others = refl
counts_of_all so_far (p ∷ parts) others = counts_of_all (add_counts so_far p.receipt.records) parts others

all_and : (parts others : List PartValue) → all_complete (parts ++ others) ≡ (all_complete parts && all_complete others)
all_and [] others = refl
all_and (p ∷ parts) others = ap (λ (b : Bool). p.receipt.complete && b) (all_and parts others) ∙ sym (and_assoc p.receipt.complete (all_complete parts) (all_complete others))
  where
    and_assoc : (a b c : Bool) → ((a && b) && c) ≡ (a && (b && c))
    and_assoc true b c = refl
    and_assoc false b c = refl

-- ---- steps

inputs_of_steps : (steps : List (List PartValue)) (ones : List PartValue) → AllZip IsMergedOf steps ones → inputs_in ones ≡ inputs_in (all_parts steps)
inputs_of_steps [] [] all = refl
inputs_of_steps [] (one ∷ ones) all = absurd all
inputs_of_steps (parts ∷ steps) [] all = absurd all
inputs_of_steps (parts ∷ steps) (one ∷ ones) all =
    ap₂ (λ xs ys. xs ++ ys) all.0.inputs (inputs_of_steps steps ones all.1) ∙ sym (flat_map-append (λ (p : PartValue). p.receipt.inputs) parts (all_parts steps))

left_out_of_steps : (steps : List (List PartValue)) (ones : List PartValue) → AllZip IsMergedOf steps ones → left_out_in ones ≡ left_out_in (all_parts steps)
left_out_of_steps [] [] all = refl
left_out_of_steps [] (one ∷ ones) all = absurd all
left_out_of_steps (parts ∷ steps) [] all = absurd all
left_out_of_steps (parts ∷ steps) (one ∷ ones) all =
    ap₂ (λ xs ys. xs ++ ys) all.0.left_out (left_out_of_steps steps ones all.1) ∙ sym (flat_map-append (λ (p : PartValue). p.receipt.left_out) parts (all_parts steps))

-- ---- inputs that come once

both : (a b : Bool) → (a && b) ≡ true → (a ≡ true) × (b ≡ true)
both true true is = (refl, refl)
both true false is = absurd cc
both false b is = absurd cc

and_true : (b : Bool) → (b && true) ≡ b
and_true true = refl
and_true false = refl

and_false : (b : Bool) → (b && false) ≡ false
and_false true = refl
and_false false = refl

all_first : (passes : InputValue → Bool) (is js : List InputValue) → list_all passes (is ++ js) ≡ true → list_all passes is ≡ true
all_first passes [] js all = refl
all_first passes (i ∷ is) js all =
    let parts = both (passes i) (list_all passes (is ++ js)) all in
    rw (parts.0, all_first passes is js parts.1) refl

once_first : (is js : List InputValue) → each_once (is ++ js) ≡ true → each_once is ≡ true
once_first [] js once = refl
once_first (i ∷ is) js once =
    let parts = both (list_all (λ j. not (is_same_input i j)) (is ++ js)) (each_once (is ++ js)) once in
    rw (all_first (λ j. not (is_same_input i j)) is js parts.0, once_first is js parts.1) refl

once_then : (is js : List InputValue) → each_once (is ++ js) ≡ true → each_once js ≡ true
once_then [] js once = once
once_then (i ∷ is) js once = once_then is js (both (list_all (λ j. not (is_same_input i j)) (is ++ js)) (each_once (is ++ js)) once).1

-- if each comes once, all are complete exactly if the parts of all steps are
complete_steps : (steps : List (List PartValue)) (ones : List PartValue) → AllZip IsMergedOf steps ones → each_once (inputs_in ones) ≡ true → all_complete ones ≡ all_complete (all_parts steps)
complete_steps [] [] all once = refl
complete_steps [] (one ∷ ones) all once = absurd all
complete_steps (parts ∷ steps) [] all once = absurd all
complete_steps (parts ∷ steps) (one ∷ ones) all once =
    let own : each_once (inputs_in parts) ≡ true = subst (λ is. each_once is ≡ true) all.0.inputs (once_first one.receipt.inputs (inputs_in ones) once) in
    let here : one.receipt.complete ≡ all_complete parts = all.0.complete ∙ ap (λ b. all_complete parts && b) own ∙ and_true (all_complete parts) in
    ap₂ (λ a b. a && b) here (complete_steps steps ones all.1 (once_then one.receipt.inputs (inputs_in ones) once)) ∙ sym (all_and parts (all_parts steps))

complete_of_steps : (steps : List (List PartValue)) (ones : List PartValue) → AllZip IsMergedOf steps ones → is_complete ones ≡ is_complete (all_parts steps)
complete_of_steps steps ones all = by_test (each_once (inputs_in ones)) refl
  where
    same : each_once (inputs_in ones) ≡ each_once (inputs_in (all_parts steps))
    same = ap each_once (inputs_of_steps steps ones all)

    by_test : (b : Bool) → each_once (inputs_in ones) ≡ b → is_complete ones ≡ is_complete (all_parts steps)
    by_test true once = ap₂ (λ a b. a && b) (complete_steps steps ones all once) same
    by_test false twice =
        ap (λ b. all_complete ones && b) twice ∙ and_false (all_complete ones)
        ∙ sym (ap (λ b. all_complete (all_parts steps) && b) (sym same ∙ twice) ∙ and_false (all_complete (all_parts steps)))

count_stops : (parts : List PartValue) → add_counts no_counts (counts_from no_counts parts) ≡ counts_from no_counts parts
count_stops [] = refl
count_stops (p ∷ parts) =
    let rest = counts_from no_counts parts in
    let sum = counts_added no_counts p.receipt.records parts in
    ap (add_counts no_counts) sum ∙ added_to_none (add_counts no_counts p.receipt.records) rest ∙ sym sum

counts_of_steps : (steps : List (List PartValue)) (ones : List PartValue) → AllZip IsMergedOf steps ones → counts_from no_counts ones ≡ counts_from no_counts (all_parts steps)
counts_of_steps [] [] all = refl
counts_of_steps [] (one ∷ ones) all = absurd all
counts_of_steps (parts ∷ steps) [] all = absurd all
counts_of_steps (parts ∷ steps) (one ∷ ones) all =
    let here = counts_from no_counts parts in
    let later = all_parts steps in
    ap (λ c. counts_from (add_counts no_counts c) ones) all.0.records ∙ counts_added no_counts here ones
    ∙ ap (add_counts (add_counts no_counts here)) (counts_of_steps steps ones all.1) ∙ sym (counts_added no_counts here later)
    ∙ ap (λ c. counts_from c later) (count_stops parts) ∙ sym (counts_of_all no_counts parts later)

pub all_steps : (steps : List (List PartValue)) (ones : List PartValue) → AllZip IsMergedOf steps ones → SayTheSame ones (all_parts steps)
all_steps steps ones all = record { inputs = inputs_of_steps steps ones all; records = counts_of_steps steps ones all; left_out = left_out_of_steps steps ones all; complete = complete_of_steps steps ones all }
