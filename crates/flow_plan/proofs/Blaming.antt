-- The test of the first fault fails, and so an element fails it.
use Rattle.std.proofs.Common.{◌≡◌, ℕ, ◌+◌, ◌<◌, Bool, true, false, cond, List, [], ◌∷◌, ◌++◌, ◌&&◌, length, map, Option, Some, None, option_map, option_and_then, refl, sym, ap, subst, ◌∙◌, arith}
use Rattle.std.specs.Prelude.{◌≢◌, ◌-◌, ◌||◌, nat_lt, nat_le, not, Result, Ok, Err, IfOk}
use denote.Bor.{Bor}
use Rattle.std.specs.Option.{ok_or}
use Rattle.std.specs.Result.{result_ok}
use Rattle.std.specs.List.{list_all, position_from}
use Rattle.std.proofs.lemmas.Bool.{false≢true}
use Rattle.std.proofs.lemmas.List.{length-map}
use Rattle.std.proofs.lemmas.Option.{none-some, same_Some}
use Rattle.ipfix_wire.specs.declared.specifier.ElementId.{ElementId}
use Rattle.element_registry.specs.Registries.{Known}
use Rattle.flow_table.specs.declared.choices.Choices.{Choices}
use Rattle.flow_table.specs.declared.key.Key.{Key}
use Rattle.flow_table.specs.declared.plan.TheConstants.{MAX_KEYS, MAX_COUNTERS, MAX_SPREAD}
use Rattle.flow_table.specs.declared.plan_fault.PlanFault.{PlanFault}
use Rattle.flow_table.specs.declared.plan_fault.PlanFault.TheVariants.{Length, Spread, KeyCount, KeyKind, Prefix, CounterCount, CounterKind, Repeated, OutOfMemory}
use Rattle.flow_table.specs.Plans.{is_between, is_prefix_of, exported_element, has_twice, or_else, fault_unless, is_key, is_value, may_count, chosen_fault}
use Rattle.flow_table.proofs.MadePlans.{all_weaker, may_count_is_value}
use Rattle.flow_plan.specs.declared.error.PlanKey.{PlanKey}
use Rattle.flow_plan.specs.declared.error.PlanPlace.{PlanPlace}
use Rattle.flow_plan.specs.declared.error.PlanPlace.TheVariants.{Value, Count, Text}
use Rattle.flow_plan.specs.declared.error.PlanKey.TheVariants.{Keys, Counters}
use Rattle.flow_plan.specs.declared.fault.PlanTextFault.TheVariants.{UnknownElement}
use Rattle.flow_plan.specs.PlanTexts.{Fields, all_of}
use Rattle.flow_plan.specs.Blames.{again_from, elements_of, is_unfit_prefix, place_after, texts_at, blamed, is_unfit_counter, is_unfit_key, NamesAll, IsPlace}
use Rattle.flow_plan.specs.Shown.{shown_all, IsTextAt}
use Rattle.flow_plan.proofs.Told.{given}

-- ---- the tests of a plan, in their order

-- the test of a fault
abbrev test_of : PlanFault → Bool → Bool → Bool → Bool → Bool → Bool → Bool → Bool → Bool
test_of Length a b c d e f g h = a
test_of Spread a b c d e f g h = b
test_of KeyCount a b c d e f g h = c
test_of KeyKind a b c d e f g h = d
test_of Prefix a b c d e f g h = e
test_of CounterCount a b c d e f g h = f
test_of CounterKind a b c d e f g h = g
test_of Repeated a b c d e f g h = h
test_of OutOfMemory a b c d e f g h = false

abbrev first_of : Bool → Bool → Bool → Bool → Bool → Bool → Bool → Bool → Option PlanFault
first_of a b c d e f g h =
    or_else (fault_unless a Length)
    (or_else (fault_unless b Spread)
    (or_else (or_else (fault_unless c KeyCount) (or_else (fault_unless d KeyKind) (fault_unless e Prefix)))
    (or_else (or_else (fault_unless f CounterCount) (fault_unless g CounterKind))
    (fault_unless h Repeated))))

fails : (fault : PlanFault) (a b c d e f g h : Bool) → first_of a b c d e f g h ≡ Some fault → test_of fault a b c d e f g h ≡ false
fails fault false b c d e f g h is = subst (λ x. test_of x false b c d e f g h ≡ false) (same_Some Length fault is) refl
fails fault true false c d e f g h is = subst (λ x. test_of x true false c d e f g h ≡ false) (same_Some Spread fault is) refl
fails fault true true false d e f g h is = subst (λ x. test_of x true true false d e f g h ≡ false) (same_Some KeyCount fault is) refl
fails fault true true true false e f g h is = subst (λ x. test_of x true true true false e f g h ≡ false) (same_Some KeyKind fault is) refl
fails fault true true true true false f g h is = subst (λ x. test_of x true true true true false f g h ≡ false) (same_Some Prefix fault is) refl
fails fault true true true true true false g h is = subst (λ x. test_of x true true true true true false g h ≡ false) (same_Some CounterCount fault is) refl
fails fault true true true true true true false h is = subst (λ x. test_of x true true true true true true false h ≡ false) (same_Some CounterKind fault is) refl
fails fault true true true true true true true false is = subst (λ x. test_of x true true true true true true true false ≡ false) (same_Some Repeated fault is) refl
fails fault true true true true true true true true is = absurd (none-some fault is)

abbrev are_keys : List Known → List Key → Bool
are_keys known keys = list_all (λ k. is_key known k.element) keys

abbrev have_prefixes : List Key → Bool
have_prefixes keys = list_all (λ k. is_prefix_of k.element k.prefix) keys

abbrev are_apart : List Key → List ElementId → Bool
are_apart keys counters = not (has_twice (map (λ k. k.element) keys ++ counters) || has_twice (map exported_element keys ++ counters))

test_fails : (known : List Known) (choices : Choices) (fault : PlanFault) (len : ℕ) (keys : List Key) (counters : List ElementId) (spread : ℕ) → chosen_fault known choices len keys counters spread ≡ Some fault
    → test_of fault (nat_lt 0 len) (is_between 1 MAX_SPREAD spread) (nat_le (length keys) MAX_KEYS) (are_keys known keys) (have_prefixes keys)
    (is_between 1 MAX_COUNTERS (length counters)) (list_all (may_count known choices.totals) counters) (are_apart keys counters) ≡ false
test_fails known choices fault len keys counters spread is = fails fault _ _ _ _ _ _ _ _ is

-- where an element stands twice, each counter may be one
counted : (a b c d e f g h : Bool) → first_of a b c d e f g h ≡ Some Repeated → g ≡ true
counted a b c d e f true h is = refl
counted false b c d e f false h is = absurd cc
counted true false c d e f false h is = absurd cc
counted true true false d e f false h is = absurd cc
counted true true true false e f false h is = absurd cc
counted true true true true false f false h is = absurd cc
counted true true true true true false false h is = absurd cc
counted true true true true true true false h is = absurd cc

pub values_counted : (known : List Known) (choices : Choices) (len : ℕ) (keys : List Key) (counters : List ElementId) (spread : ℕ) (fault : PlanFault) → fault ≡ Repeated
    → (fault ≢ OutOfMemory → chosen_fault known choices len keys counters spread ≡ Some fault) → list_all is_value counters ≡ true
values_counted known choices len keys counters spread fault is first =
    let repeated : chosen_fault known choices len keys counters spread ≡ Some Repeated = subst (λ (f : PlanFault). (f ≢ OutOfMemory → chosen_fault known choices len keys counters spread ≡ Some f)) is first (λ e. cc) in
    let counts : list_all (may_count known choices.totals) counters ≡ true = counted _ _ _ _ _ _ _ _ repeated in
    all_weaker (may_count known choices.totals) is_value (may_count_is_value known choices.totals) counters counts

-- ---- the first that fails a test

step : (b all : Bool) (n len : ℕ) (rest : Option ℕ) → (b && all) ≡ false → (all ≡ false → (i : ℕ) × (rest ≡ Some ((n + 1) + i)) × (i < len))
    → (i : ℕ) × (cond (not b) (Some n) rest ≡ Some (n + i)) × (i < len + 1)
step false all n len rest h next = (0, ap (λ k. Some k) (omega arith), omega arith)
step true all n len rest h next =
    let found = next h in
    let k : (n + 1) + found.0 ≡ n + (found.0 + 1) = omega arith in
    let below : found.0 < len = found.2 in
    (found.0 + 1, found.1 ∙ ap (λ m. Some m) k, omega arith)

failing : {X : Type 0} (test : X → Bool) (xs : List X) (n : ℕ) → list_all test xs ≡ false → (i : ℕ) × (position_from (λ x. not (test x)) n xs ≡ Some (n + i)) × (i < length xs)
failing test [] n h = absurd (false≢true (sym h))
failing test (x ∷ xs) n h =
    let found = step (test x) (list_all test xs) n (length xs) (position_from (λ y. not (test y)) (n + 1) xs) h (failing test xs (n + 1)) in
    let below : found.0 < length xs + 1 = found.2 in
    (found.0, found.1, omega arith)

first_failing : {X : Type 0} (test : X → Bool) (xs : List X) → list_all test xs ≡ false → (i : ℕ) × (position_from (λ x. not (test x)) 0 xs ≡ Some i) × (i < length xs)
first_failing test xs h =
    let found = failing test xs 0 h in
    let k : 0 + found.0 ≡ found.0 = omega arith in
    (found.0, found.1 ∙ ap (λ m. Some m) k, found.2)

-- ---- texts and what they name

longer : {X : Type 0} (first : Option X) (rest : Option (List X)) (xs : List X) (n : ℕ) → option_and_then (λ y. option_map (λ ys. y ∷ ys) rest) first ≡ Some xs
    → ((ys : List X) → rest ≡ Some ys → length ys ≡ n) → length xs ≡ n + 1
longer None rest xs n h next = absurd (none-some xs h)
longer (Some x) None xs n h next = absurd (none-some xs h)
longer (Some x) (Some ys) xs n h next =
    let e : length ys ≡ n = next ys refl in
    let l : length (x ∷ ys) ≡ length xs = ap length (same_Some (x ∷ ys) xs h) in
    omega arith

-- each of a list has something
length-all_of : {A X : Type 0} (f : A → Option X) (ys : List A) (xs : List X) → all_of f ys ≡ Some xs → length xs ≡ length ys
length-all_of f [] xs h = sym (ap length (same_Some [] xs h))
length-all_of f (y ∷ ys) xs h =
    let e : length xs ≡ length ys + 1 = longer (f y) (all_of f ys) xs (length ys) h (length-all_of f ys) in
    omega arith

-- texts that name as many things
pub named_length : {X : Type 0} (f : List ℕ → Option X) (texts : List (Bor (List ℕ))) (xs : List X) → ok_or (all_of f (shown_all texts)) UnknownElement ≡ Ok xs → length xs ≡ length texts
named_length f texts xs named =
    length-all_of f (shown_all texts) xs (sym (given (all_of f (shown_all texts)) UnknownElement) ∙ ap result_ok named) ∙ length-map texts (λ (t : Bor (List ℕ)). t.now)

-- a place that was found is one among the texts
pub within : {X : Type 0} (f : List ℕ → Option X) (texts : List (Bor (List ℕ))) (xs : List X) (place o : Option ℕ) (n : ℕ) → ok_or (all_of f (shown_all texts)) UnknownElement ≡ Ok xs
    → o ≡ place → (i : ℕ) × (place ≡ Some i) × (i < length xs) → o ≡ Some n → n < length texts
within f texts xs place o n named is found chosen =
    let same : found.0 ≡ n = same_Some found.0 n (sym (is ∙ found.1) ∙ chosen) in
    let below : found.0 < length xs = found.2 in
    let each : length xs ≡ length texts = named_length f texts xs named in
    omega arith

-- ---- the first that has the fault

pub key_found : (known : List Known) (choices : Choices) (len : ℕ) (keys : List Key) (counters : List ElementId) (spread : ℕ) (fault : PlanFault) → fault ≡ KeyKind
    → (fault ≢ OutOfMemory → chosen_fault known choices len keys counters spread ≡ Some fault) → (i : ℕ) × (position_from (is_unfit_key known) 0 keys ≡ Some i) × (i < length keys)
key_found known choices len keys counters spread fault is first =
    let fits : chosen_fault known choices len keys counters spread ≡ Some KeyKind = first (λ e. let d : KeyKind ≡ OutOfMemory = sym is ∙ e in cc) ∙ ap (λ (f : PlanFault). Some f) is in
    first_failing (λ k. is_key known k.element) keys (test_fails known choices KeyKind len keys counters spread fits)

pub prefix_found : (known : List Known) (choices : Choices) (len : ℕ) (keys : List Key) (counters : List ElementId) (spread : ℕ) (fault : PlanFault) → fault ≡ Prefix
    → (fault ≢ OutOfMemory → chosen_fault known choices len keys counters spread ≡ Some fault) → (i : ℕ) × (position_from is_unfit_prefix 0 keys ≡ Some i) × (i < length keys)
prefix_found known choices len keys counters spread fault is first =
    let fits : chosen_fault known choices len keys counters spread ≡ Some Prefix = first (λ e. let d : Prefix ≡ OutOfMemory = sym is ∙ e in cc) ∙ ap (λ (f : PlanFault). Some f) is in
    first_failing (λ k. is_prefix_of k.element k.prefix) keys (test_fails known choices Prefix len keys counters spread fits)

pub counter_found : (known : List Known) (choices : Choices) (len : ℕ) (keys : List Key) (counters : List ElementId) (spread : ℕ) (fault : PlanFault) → fault ≡ CounterKind
    → (fault ≢ OutOfMemory → chosen_fault known choices len keys counters spread ≡ Some fault) → (i : ℕ) × (position_from (is_unfit_counter known choices.totals) 0 counters ≡ Some i) × (i < length counters)
counter_found known choices len keys counters spread fault is first =
    let fits : chosen_fault known choices len keys counters spread ≡ Some CounterKind = first (λ e. let d : CounterKind ≡ OutOfMemory = sym is ∙ e in cc) ∙ ap (λ (f : PlanFault). Some f) is in
    first_failing (may_count known choices.totals) counters (test_fails known choices CounterKind len keys counters spread fits)

-- ---- the text at the place that is blamed

blames : (known : List Known) (f : Fields) (fault : PlanFault) (keys : List Key) (counters : List ElementId) (key : PlanKey) (n : ℕ) (place : PlanPlace) → NamesAll known f keys counters
    → blamed known f.choices.totals fault keys counters ≡ Some (key, n) → IsTextAt key (texts_at key f) n place → IsPlace known f fault place
blames known f fault keys counters key n (Text k text) named is here =
    subst (λ x. IsPlace known f fault (Text x text)) here.0 (keys, counters, n, named, is, here.1)
blames known f fault keys counters key n (Value k) named is here = absurd here
blames known f fault keys counters key n (Count k count) named is here = absurd here

-- a counter that stands again
pub counter_again : {E : Type 0} (known : List Known) (f : Fields) (keys : List Key) (counters : List ElementId) (n : ℕ) (r : Result PlanPlace E) → NamesAll known f keys counters
    → again_from [] 0 (elements_of keys counters) ≡ Some n → nat_lt n (length keys) ≡ false → IfOk r (IsTextAt Counters f.counters (n - length keys)) → IfOk r (IsPlace known f Repeated)
counter_again known f keys counters n (Ok place) named is after here =
    blames known f Repeated keys counters Counters (n - length keys) place named
    (ap (option_map (place_after (length keys))) is ∙ ap (λ (b : Bool). Some (cond b (Keys, n) (Counters, n - length keys))) after) here
counter_again known f keys counters n (Err e) named is after here = tt
