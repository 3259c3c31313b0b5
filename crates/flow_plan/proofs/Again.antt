-- An element that stands twice is found again.
use Rattle.std.proofs.Common.{◌≡◌, ℕ, ◌+◌, ◌<◌, Bool, true, false, cond, List, [], ◌∷◌, ◌++◌, ◌||◌, length, map, Option, Some, None, inl, inr, refl, sym, ap, ◌∙◌, arith}
use Rattle.std.specs.Prelude.{not}
use Rattle.std.specs.List.{list_any, list_all}
use Rattle.std.proofs.lemmas.Bool.{and_parts, and_from, or_parts, false≢true}
use Rattle.std.proofs.lemmas.List.{map-append, length-append, length-map}
use Rattle.std.proofs.lemmas.List.Folds.{list_any-append}
use Rattle.std.proofs.lemmas.Option.{none-some, same_Some}
use Rattle.ipfix_wire.specs.declared.specifier.ElementId.{ElementId}
use Rattle.ipfix_elements.proofs.Lookups.{cases_Option}
use Rattle.flow_table.specs.declared.key.Key.{Key}
use Rattle.flow_table.specs.declared.plan_fault.PlanFault.TheVariants.{Repeated}
use Rattle.flow_table.specs.Plans.{same_element, exported_element, exporter_ipv6, has_twice, is_value, repeat_fault}
use Rattle.flow_table.proofs.PlanKeys.{value_is_sent}
use Rattle.flow_plan.specs.PlanTexts.{whole_key}
use Rattle.flow_plan.specs.Blames.{has_one_element, again_from, elements_of}

-- no key has the element of one of these
abbrev apart : List Key → List Key → Bool
apart before ks = list_all (λ k. not (list_any (has_one_element k) before)) ks

not_true : (b : Bool) → not b ≡ true → b ≡ false
not_true false h = refl
not_true true h = absurd (false≢true h)

not_false : (b : Bool) → b ≡ false → not b ≡ true
not_false b h = ap not h

neither : (a b : Bool) → a ≡ false → b ≡ false → (a || b) ≡ false
neither a b h k = rw h k

any_before : (r k : Key) (before : List Key) → list_any (has_one_element r) (before ++ k ∷ []) ≡ false
    → (list_any (has_one_element r) before ≡ false) × (has_one_element r k ≡ false)
any_before r k before h =
    let both = or_parts _ _ (sym (list_any-append (has_one_element r) before (k ∷ [])) ∙ h) in
    (both.0, (or_parts _ _ both.1).0)

-- keys that are apart from these and one more are apart from these, and from that one
less : (view : Key → ElementId) → ((r k : Key) → has_one_element r k ≡ false → same_element (view r) (view k) ≡ false)
    → (before : List Key) (k : Key) (ks : List Key) → apart (before ++ k ∷ []) ks ≡ true
    → (apart before ks ≡ true) × (list_any (λ other. same_element other (view k)) (map view ks) ≡ false)
less view differ before k [] h = (refl, refl)
less view differ before k (r ∷ rs) h =
    let parts = and_parts _ _ h in
    let here = any_before r k before (not_true _ parts.0) in
    let rest = less view differ before k rs parts.1 in
    (and_from _ _ (not_false _ here.0) rest.0, neither _ _ (differ r k here.1) rest.1)

-- what `again_from` passes over
passes : (b : Bool) (n : ℕ) (rest : Option ℕ) → cond b (Some n) rest ≡ None → (b ≡ false) × (rest ≡ None)
passes true n rest h = absurd (none-some n (sym h))
passes false n rest h = (refl, h)

none_again : (view : Key → ElementId) → ((r k : Key) → has_one_element r k ≡ false → same_element (view r) (view k) ≡ false)
    → (before : List Key) (n : ℕ) (ks : List Key) → again_from before n ks ≡ None → (apart before ks ≡ true) × (has_twice (map view ks) ≡ false)
none_again view differ before n [] h = (refl, refl)
none_again view differ before n (k ∷ ks) h =
    let here = passes _ n _ h in
    let rest = none_again view differ (before ++ k ∷ []) (n + 1) ks here.1 in
    let both = less view differ before k ks rest.0 in
    (and_from _ _ (not_false _ here.0) both.0, neither _ _ both.1 rest.1)

stops : (b : Bool) (n m len : ℕ) (rest : Option ℕ) → cond b (Some n) rest ≡ Some m → (rest ≡ Some m → m < (n + 1) + len) → m < n + (len + 1)
stops true n m len rest h next = let e : n ≡ m = same_Some n m h in omega arith
stops false n m len rest h next = let below : m < (n + 1) + len = next h in omega arith

again_within : (before : List Key) (n : ℕ) (ks : List Key) (m : ℕ) → again_from before n ks ≡ Some m → m < n + length ks
again_within before n [] m h = absurd (none-some m h)
again_within before n (k ∷ ks) m h =
    let below : m < n + (length ks + 1) = stops (list_any (has_one_element k) before) n m (length ks) (again_from (before ++ k ∷ []) (n + 1) ks) h (again_within (before ++ k ∷ []) (n + 1) ks m) in
    omega arith

-- ---- the elements of keys and counters

counters_same : (view : Key → ElementId) → ((e : ElementId) → is_value e ≡ true → view (whole_key e) ≡ e) → (cs : List ElementId) → list_all is_value cs ≡ true → map view (map whole_key cs) ≡ cs
counters_same view whole [] values = refl
counters_same view whole (c ∷ cs) values =
    let both = and_parts (is_value c) (list_all is_value cs) values in
    rw (whole c both.0) (ap (λ l. c ∷ l) (counters_same view whole cs both.1))

-- where none is found again, no element stands twice as it is viewed
once : (view : Key → ElementId) → ((r k : Key) → has_one_element r k ≡ false → same_element (view r) (view k) ≡ false)
    → ((e : ElementId) → is_value e ≡ true → view (whole_key e) ≡ e) → (ks : List Key) (cs : List ElementId) → list_all is_value cs ≡ true → again_from [] 0 (elements_of ks cs) ≡ None
    → has_twice (map view ks ++ cs) ≡ false
once view differ whole ks cs values none =
    ap has_twice (sym (map-append view ks (map whole_key cs) ∙ ap (λ l. map view ks ++ l) (counters_same view whole cs values)))
    ∙ (none_again view differ [] 0 (elements_of ks cs) none).1

-- a counter is exported as it is
as_it_is : (e : ElementId) → is_value e ≡ true → exported_element (whole_key e) ≡ e
as_it_is e value = ap (λ (b : Bool). cond b exporter_ipv6 e) (value_is_sent e value)

never : (a b : Bool) → a ≡ false → b ≡ false → cond (not (a || b)) None (Some Repeated) ≡ Some Repeated → ⊥
never a b h k e = none-some Repeated (rw (h, k) at e)

-- where an element stands twice, one is found again
pub found_again : (ks : List Key) (cs : List ElementId) → list_all is_value cs ≡ true → repeat_fault ks cs ≡ Some Repeated
    → (n : ℕ) × (again_from [] 0 (elements_of ks cs) ≡ Some n) × (n < length ks + length cs)
found_again ks cs values h =
    elim (cases_Option (again_from [] 0 (elements_of ks cs))) [
      | inl none ↦
          let read = once (λ (k : Key). k.element) (λ r k e. (or_parts _ _ e).0) (λ e value. refl) ks cs values none in
          let exported = once exported_element (λ r k e. (or_parts _ _ e).1) as_it_is ks cs values none in
          absurd (never _ _ read exported h)
      | inr found ↦
          let within : found.0 < 0 + length (elements_of ks cs) = again_within [] 0 (elements_of ks cs) found.0 found.1 in
          (found.0, found.1, omega (arith, length-append ks (map whole_key cs), length-map cs whole_key))
    ]
