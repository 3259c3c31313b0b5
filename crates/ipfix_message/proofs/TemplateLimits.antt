-- What templates count, by the maps that keep them.
use Rattle.std.proofs.Common.{◌≡◌, ℕ, ◌+◌, ◌≤◌, ◌<◌, Bool, true, false, cond, eqb, ltb, is_some, List, [], ◌∷◌, ◌++◌, drop, Option, Some, None, Result, Ok, Err, refl, sym, ap, ap₂, subst, ◌∙◌, append_assoc, zero, arith, inl, inr}
use Rattle.std.specs.Prelude.{◌⊎◌, ◌||◌, filter, not, option_map, sum_by, unwrap_or, Contains}
use Rattle.std.specs.List.{IsDistinct, list_any}
use Rattle.std.specs.List.Sorted.{IsStrictlySortedBy}
use Rattle.std.specs.Map.{keys_of, lookup, values_of}
use Rattle.std.specs.Ordering.{nat_cmp, eq_by_cmp}
use Rattle.std.specs.Cmp.{nat_eq_equiv}
use Rattle.std.specs.BTreeMap.{BTreeMap, IsOrdered}
use Rattle.std.proofs.lemmas.Bool.{eq-eqb, eqb-true, false_from_ne_true, lt-ltb, le-ltb, ltb-false}
use Rattle.std.proofs.lemmas.Bool.Decides.{eqb_tells}
use Rattle.std.proofs.lemmas.Cmp.{eq_by_cmp_equiv, nat_cmp_total}
use Rattle.std.proofs.lemmas.List.Elements.{All-from_recursion, Contains-append_right}
use Rattle.std.proofs.lemmas.List.Folds.{list_any_none}
use Rattle.std.proofs.lemmas.List.Sums.{sum_by-cons}
use Rattle.std.proofs.lemmas.Map.Keys.{IsDistinct-from_sorted, IsDistinct-head, IsDistinct-tail}
use Rattle.std.proofs.lemmas.Map.Lookups.{exact_unsigned}
use Rattle.std.proofs.lemmas.Map.Views.{any-filter_same, lookup-from_Contains, tells_apart}
use Rattle.ipfix_wire.specs.declared.header.Header.{Header}
use Rattle.ipfix_wire.proofs.Choices.{chosen, or_false}
use Rattle.ipfix_message.specs.declared.fault.MessageFault.{MessageFault}
use Rattle.ipfix_message.specs.declared.fault.MessageFault.TheVariants.{TooManyFields}
use Rattle.ipfix_message.specs.declared.message.Decoded.{Decoded}
use Rattle.ipfix_message.specs.declared.record.Template.{Template}
use Rattle.ipfix_message.specs.declared.template_record.TemplateKind.{TemplateKind}
use Rattle.ipfix_message.specs.declared.template_record.Event.{Event}
use Rattle.ipfix_message.specs.declared.template_record.Event.TheVariants.{Define, Withdraw, WithdrawAll}
use Rattle.ipfix_message.specs.Alike.{knows}
use Rattle.ipfix_message.specs.DataRecords.{records_of_body}
use Rattle.ipfix_message.specs.Domains.{Decodes, History, Message, StandsFor, events_in, message_gives, message_header}
use Rattle.ipfix_message.specs.Held.{Agrees}
use Rattle.ipfix_message.specs.Kept.{kept}
use Rattle.ipfix_message.specs.Messages.{Decoding, before, data_in, one_skipped, one_unknown, set_gives, sets_from, sets_give}
use Rattle.ipfix_message.specs.Outcome.{◌>>=◌, Fails, unless}
use Rattle.ipfix_message.specs.Sets.{Set, fault_after_sets, has_template_set, is_template_set, sets_of}
use Rattle.ipfix_message.specs.TemplatesInForce.{in_force, unless_of}
use Rattle.ipfix_message.specs.TemplateLimits.{IsWithin, domain_fields, fields_in, fields_kept, fields_of, ids_of, message_within, unless_more}
use Rattle.ipfix_message.proofs.History.{events_of, is_some-history}
use Rattle.ipfix_message.proofs.PartsOf.{was_read}
use Rattle.ipfix_message.proofs.Reading.{Fails-of, bind_ok, not_both, ok_is}

-- ---- numbers that stand once in a list

abbrev pub Once : List ℕ → Type 0
Once [] = Unit {0}
Once (x ∷ xs) = (list_any (eqb x) xs ≡ false) × Once xs

any_filter_none : (p q : ℕ → Bool) (xs : List ℕ) → list_any p xs ≡ false → list_any p (filter q xs) ≡ false
any_filter_none p q [] none = refl
any_filter_none p q (x ∷ xs) none =
    let parts = or_false (p x) (list_any p xs) none in
    by_test (q x) parts.0 (any_filter_none p q xs parts.1)
  where
    by_test : (b : Bool) → p x ≡ false → list_any p (filter q xs) ≡ false → list_any p (cond b (x ∷ filter q xs) (filter q xs)) ≡ false
    by_test false here more = more
    by_test true here more = ap₂ (λ (a b : Bool). a || b) here more

once_filter : (q : ℕ → Bool) (xs : List ℕ) → Once xs → Once (filter q xs)
once_filter q [] once = tt
once_filter q (x ∷ xs) once = by_test (q x) (once_filter q xs once.1)
  where
    by_test : (b : Bool) → Once (filter q xs) → Once (cond b (x ∷ filter q xs) (filter q xs))
    by_test false more = more
    by_test true more = (any_filter_none (eqb x) q xs once.0, more)

-- ---- sums

sum_same : {X : Type 0} (f g : X → ℕ) (xs : List X) → ((x : X) → f x ≡ g x) → sum_by f xs ≡ sum_by g xs
sum_same f g [] same = refl
sum_same f g (x ∷ xs) same = sum_by-cons f x xs ∙ ap₂ (λ (a b : ℕ). a + b) (same x) (sum_same f g xs same) ∙ sym (sum_by-cons g x xs)

sum_keys : {X : Type 0} (g : ℕ → ℕ) (es : List (ℕ × X)) → sum_by g (keys_of es) ≡ sum_by (λ e. g e.0) es
sum_keys g [] = refl
sum_keys g (e ∷ es) = sum_by-cons g e.0 (keys_of es) ∙ ap (λ (n : ℕ). g e.0 + n) (sum_keys g es) ∙ sym (sum_by-cons (λ d. g d.0) e es)

-- a number that is none of them changes nothing
sum_none : (k a : ℕ) (g : ℕ → ℕ) (xs : List ℕ) → list_any (eqb k) xs ≡ false → sum_by (λ x. cond (eqb x k) a (g x)) xs ≡ sum_by g xs
sum_none k a g [] none = refl
sum_none k a g (x ∷ xs) none =
    let f : ℕ → ℕ = λ y. cond (eqb y k) a (g y) in
    let parts = or_false (eqb k x) (list_any (eqb k) xs) none in
    let here : f x ≡ g x = elim (eqb_tells x k) [
      | inl same ↦ let is : eqb k x ≡ true = eq-eqb k x (sym same.1) in let no : true ≡ false = sym is ∙ parts.0 in absurd cc
      | inr other ↦ rw other.0 refl
    ] in
    sum_by-cons f x xs ∙ ap₂ (λ (m n : ℕ). m + n) here (sum_none k a g xs parts.1) ∙ sym (sum_by-cons g x xs)

-- one that is among them, and that had nothing, adds what it has now
sum_one : (k a : ℕ) (g : ℕ → ℕ) (xs : List ℕ) → Once xs → list_any (eqb k) xs ≡ true → g k ≡ 0 → sum_by (λ x. cond (eqb x k) a (g x)) xs ≡ a + sum_by g xs
sum_one k a g [] once there none = absurd cc
sum_one k a g (x ∷ xs) once there none =
    let f : ℕ → ℕ = λ y. cond (eqb y k) a (g y) in
    let all = sum_by-cons f x xs in
    let old = sum_by-cons g x xs in
    elim (eqb_tells x k) [
      | inl same ↦
          let here : f x ≡ a = rw same.0 refl in
          let nothing : g x ≡ 0 = ap g same.1 ∙ none in
          let apart : list_any (eqb k) xs ≡ false = ap (λ (y : ℕ). list_any (eqb y) xs) (sym same.1) ∙ once.0 in
          let rest = sum_none k a g xs apart in
          omega (arith, all, old, here, nothing, rest)
      | inr other ↦
          let here : f x ≡ g x = rw other.0 refl in
          let not_here : eqb k x ≡ false = false_from_ne_true (eqb k x) (λ t. other.1 (sym (eqb-true k x t))) in
          let more : list_any (eqb k) xs ≡ true = sym (ap (λ (b : Bool). b || list_any (eqb k) xs) not_here) ∙ there in
          let rest = sum_one k a g xs once.1 more none in
          omega (arith, all, old, here, rest)
    ]

-- ---- what the entries of a map sum up to

same_test : (q k : ℕ) → eq_by_cmp nat_cmp q k ≡ eqb q k
same_test q k = elim (eqb_tells q k) [
  | inl here ↦ subst (λ (x : ℕ). eq_by_cmp nat_cmp q x ≡ true) here.1 ((eq_by_cmp_equiv nat_cmp_total).refl q) ∙ sym here.0
  | inr other ↦ false_from_ne_true (eq_by_cmp nat_cmp q k) (λ t. other.1 (tells_apart exact_unsigned q k t)) ∙ sym other.0
]

same_lookup : {X : Type 0} (q : ℕ) (es : List (ℕ × X)) → lookup (eq_by_cmp nat_cmp q) es ≡ lookup (eqb q) es
same_lookup q [] = refl
same_lookup q (e ∷ es) = ap₂ (λ (b : Bool) (o : Option _). cond b (Some e.1) o) (same_test q e.0) (same_lookup q es)

once_keys : (ks : List ℕ) → IsDistinct (eq_by_cmp nat_cmp) ks → Once ks
once_keys [] distinct = tt
once_keys (k ∷ ks) distinct = (
  same_any ks ∙ list_any_none (eq_by_cmp nat_cmp k) ks (All-from_recursion (λ y. eq_by_cmp nat_cmp k y ≡ false) ks (IsDistinct-head (eq_by_cmp nat_cmp) k ks distinct)),
  once_keys ks (IsDistinct-tail (eq_by_cmp nat_cmp) k ks distinct),
)
  where
    same_any : (xs : List ℕ) → list_any (eqb k) xs ≡ list_any (eq_by_cmp nat_cmp k) xs
    same_any [] = refl
    same_any (x ∷ xs) = ap₂ (λ (a b : Bool). a || b) (sym (same_test k x)) (same_any xs)

lookup_none : {X : Type 0} (k : ℕ) (es : List (ℕ × X)) → list_any (eqb k) (keys_of es) ≡ false → lookup (eqb k) es ≡ None
lookup_none k [] none = refl
lookup_none k (e ∷ es) none =
    let parts = or_false (eqb k e.0) (list_any (eqb k) (keys_of es)) none in
    ap₂ (λ (b : Bool) (o : Option _). cond b (Some e.1) o) parts.0 (lookup_none k es parts.1)

-- what is found at an id
abbrev at_id : {X : Type 0} → (X → ℕ) → Option X → ℕ
at_id f o = unwrap_or (option_map f o) 0

sum_found : {X : Type 0} (f : X → ℕ) (es : List (ℕ × X)) (ids : List ℕ) → Once (keys_of es) → Once ids → ((id : ℕ) → is_some (lookup (eqb id) es) ≡ true → list_any (eqb id) ids ≡ true)
    → sum_by (λ id. at_id f (lookup (eqb id) es)) ids ≡ sum_by f (values_of es)
sum_found f [] ids keys once all = none ids
  where
    none : (xs : List ℕ) → sum_by (λ (x : ℕ). 0) xs ≡ 0
    none [] = refl
    none (x ∷ xs) = let n = sum_by-cons (λ (y : ℕ). 0) x xs in let m = none xs in omega (arith, n, m)
sum_found {X} f (e ∷ es) ids keys once all =
    let g : ℕ → ℕ = λ id. at_id f (lookup (eqb id) es) in
    let nothing : g e.0 ≡ 0 = ap (at_id f) (lookup_none e.0 es keys.0) in
    let there : list_any (eqb e.0) ids ≡ true = all e.0 (ap is_some (ap (λ (b : Bool). cond b (Some e.1) (lookup (eqb e.0) es)) (eq-eqb e.0 e.0 refl))) in
    let more : (id : ℕ) → is_some (lookup (eqb id) es) ≡ true → list_any (eqb id) ids ≡ true = λ id found. all id (still id found (eqb id e.0)) in
    sum_same (λ id. at_id f (lookup (eqb id) (e ∷ es))) (λ id. cond (eqb id e.0) (f e.1) (g id)) ids (λ id. pushed id (eqb id e.0))
    ∙ sum_one e.0 (f e.1) g ids once there nothing
    ∙ ap (λ (n : ℕ). f e.1 + n) (sum_found f es ids keys.1 once more)
    ∙ sym (sum_by-cons f e.1 (values_of es))
  where
    pushed : (id : ℕ) (b : Bool) → at_id f (cond b (Some e.1) (lookup (eqb id) es)) ≡ cond b (f e.1) (at_id f (lookup (eqb id) es))
    pushed id true = refl
    pushed id false = refl

    still : (id : ℕ) → is_some (lookup (eqb id) es) ≡ true → (b : Bool) → is_some (cond b (Some e.1) (lookup (eqb id) es)) ≡ true
    still id found true = refl
    still id found false = found

-- the same by what is known at each id
pub counted : {X : Type 0} (f : X → ℕ) (es : List (ℕ × X)) (known : ℕ → Option X) (ids : List ℕ) → IsStrictlySortedBy nat_cmp (keys_of es) → ((id : ℕ) → lookup (eq_by_cmp nat_cmp id) es ≡ known id)
    → Once ids → ((id : ℕ) → is_some (known id) ≡ true → list_any (eqb id) ids ≡ true) → sum_by (λ id. unwrap_or (option_map f (known id)) 0) ids ≡ sum_by f (values_of es)
counted f es known ids ordered at once all =
    sum_same (λ id. at_id f (known id)) (λ id. at_id f (lookup (eqb id) es)) ids (λ id. ap (at_id f) (sym (at id) ∙ same_lookup id es))
    ∙ sum_found f es ids (once_keys (keys_of es) (IsDistinct-from_sorted nat_cmp (keys_of es) ordered)) once (λ id found. all id (ap is_some (sym (at id) ∙ same_lookup id es) ∙ found))

-- ---- the ids of events

pub once_ids : (es : List Event) → Once (ids_of es)
unfolding ids_of
once_ids [] = tt
once_ids (Define t ∷ es) = (
  any-filter_same (eqb t.id) (λ id. not (eqb id t.id)) false (λ k here. ap not (eq-eqb k t.id (sym (eqb-true t.id k here)))) (ids_of es),
  once_filter (λ id. not (eqb id t.id)) (ids_of es) (once_ids es),
)
once_ids (Withdraw kind id ∷ es) = once_ids es
once_ids (WithdrawAll kind ∷ es) = once_ids es

-- a definition adds its id, and leaves the others
pub defined_id : (t : Template) (es : List Event) (id : ℕ) → list_any (eqb id) (ids_of (Define t ∷ es)) ≡ (eqb id t.id || list_any (eqb id) (ids_of es))
unfolding ids_of
defined_id t es id = elim (eqb_tells id t.id) [
  | inl here ↦ rw here.0 refl
  | inr other ↦
      ap (λ (b : Bool). eqb id t.id || b)
      (any-filter_same (eqb id) (λ k. not (eqb k t.id)) true (λ k found. ap not (ap (λ (x : ℕ). eqb x t.id) (sym (eqb-true id k found)) ∙ other.0)) (ids_of es))
]

pub withdrawn_id : (kind : TemplateKind) (i : ℕ) (es : List Event) → ids_of (Withdraw kind i ∷ es) ≡ ids_of es
unfolding ids_of
withdrawn_id kind i es = refl

pub all_withdrawn_ids : (kind : TemplateKind) (es : List Event) → ids_of (WithdrawAll kind ∷ es) ≡ ids_of es
unfolding ids_of
all_withdrawn_ids kind es = refl

some_before : (kind : TemplateKind) (o : Option Template) → is_some (unless_of kind o) ≡ true → is_some o ≡ true
some_before kind None there = there
some_before kind (Some t) there = refl

pub in_force_ids : (es : List Event) (id : ℕ) → is_some (in_force es id) ≡ true → list_any (eqb id) (ids_of es) ≡ true
unfolding in_force
in_force_ids [] id there = absurd cc
in_force_ids (Define t ∷ es) id there = defined_id t es id ∙ by_test (eqb id t.id) there (in_force_ids es id)
  where
    by_test : (b : Bool) → is_some (cond b (Some t) (in_force es id)) ≡ true → (is_some (in_force es id) ≡ true → list_any (eqb id) (ids_of es) ≡ true) → (b || list_any (eqb id) (ids_of es)) ≡ true
    by_test true there more = refl
    by_test false there more = more there
in_force_ids (Withdraw kind i ∷ es) id there = ap (list_any (eqb id)) (withdrawn_id kind i es) ∙ in_force_ids es id (by_test (eqb id i) there)
  where
    by_test : (b : Bool) → is_some (cond b (unless_of kind (in_force es id)) (in_force es id)) ≡ true → is_some (in_force es id) ≡ true
    by_test true there = some_before kind (in_force es id) there
    by_test false there = there
in_force_ids (WithdrawAll kind ∷ es) id there = ap (list_any (eqb id)) (all_withdrawn_ids kind es) ∙ in_force_ids es id (some_before kind (in_force es id) there)

-- ---- a domain, by its map

pub domain_counted : (m : BTreeMap ℕ Template) (es : List Event) → IsOrdered nat_cmp m → Agrees m.entries es → domain_fields in_force es ≡ fields_kept m
domain_counted m es ordered agrees = ap (λ (n : ℕ). 16 + n) (counted fields_of m.entries (in_force es) (ids_of es) ordered agrees.at (once_ids es) (in_force_ids es))

-- ---- the domains, one by one

abbrev weight : History → ℕ × BTreeMap ℕ Template → ℕ
weight ds e = domain_fields in_force (events_in ds e.0)

pub record Counting (all rest : List (ℕ × BTreeMap ℕ Template)) (limit left : ℕ) : Type 0 where
  pub front : List (ℕ × BTreeMap ℕ Template)
  pub are : all ≡ front ++ rest
  pub left_is : (ds : History) → StandsFor (kept all) ds → limit + sum_by (weight ds) rest ≡ fields_in ds + left

kept_keys : (es : List (ℕ × BTreeMap ℕ Template)) → keys_of (kept es) ≡ keys_of es
kept_keys [] = refl
kept_keys (e ∷ es) = ap (λ (ks : List ℕ). e.0 ∷ ks) (kept_keys es)

pub counting_first : (all : List (ℕ × BTreeMap ℕ Template)) (limit : ℕ) → Counting all all limit limit
counting_first all limit = record {
  front = [];
  are = refl;
  left_is = λ ds stands.
      let g : ℕ → ℕ = λ domain. domain_fields in_force (events_in ds domain) in
      let same : fields_in ds ≡ sum_by (weight ds) all = ap (sum_by g) (sym stands.domains ∙ kept_keys all) ∙ sum_keys g all in
      omega (arith, same);
}

weighed : (all front rest : List (ℕ × BTreeMap ℕ Template)) (d : ℕ) (m : BTreeMap ℕ Template) (ds : History) → IsDistinct eqb (keys_of all) → all ≡ front ++ (d, m) ∷ rest → IsOrdered nat_cmp m
    → StandsFor (kept all) ds → weight ds (d, m) ≡ fields_kept m
weighed all front rest d m ds distinct are ordered stands =
    let among : Contains all (d, m) = subst (λ (xs : List (ℕ × BTreeMap ℕ Template)). Contains xs (d, m)) (sym are) (Contains-append_right front ((d, m) ∷ rest) (d, m) (zero, omega arith, refl)) in
    let at = events_of all ds d m stands (lookup-from_Contains nat_eq_equiv d m all distinct among) in
    domain_counted m (events_in ds d) ordered (subst (Agrees m.entries) (sym at.are) at.agrees)

pub counting_more : (all rest : List (ℕ × BTreeMap ℕ Template)) (d : ℕ) (m : BTreeMap ℕ Template) (limit left less : ℕ) → IsDistinct eqb (keys_of all) → IsOrdered nat_cmp m
    → fields_kept m + less ≡ left → Counting all ((d, m) ∷ rest) limit left → Counting all rest limit less
counting_more all rest d m limit left less distinct ordered one so_far = record {
  front = so_far.front ++ (d, m) ∷ [];
  are = so_far.are ∙ sym (append_assoc so_far.front ((d, m) ∷ []) rest);
  left_is = λ ds stands.
      let here = weighed all so_far.front rest d m ds distinct so_far.are ordered stands in
      let split = sum_by-cons (weight ds) (d, m) rest in
      let is = so_far.left_is ds stands in
      omega (arith, here, split, is, one);
}

pub counting_above : (all rest : List (ℕ × BTreeMap ℕ Template)) (d : ℕ) (m : BTreeMap ℕ Template) (limit left : ℕ) (ds : History) → IsDistinct eqb (keys_of all) → IsOrdered nat_cmp m
    → left < fields_kept m → Counting all ((d, m) ∷ rest) limit left → StandsFor (kept all) ds → limit < fields_in ds
counting_above all rest d m limit left ds distinct ordered above so_far stands =
    let here = weighed all so_far.front rest d m ds distinct so_far.are ordered stands in
    let split = sum_by-cons (weight ds) (d, m) rest in
    let is = so_far.left_is ds stands in
    omega (arith, here, split, is, above)

pub counting_last : (all rest : List (ℕ × BTreeMap ℕ Template)) (limit left : ℕ) (ds : History) → rest ≡ [] → Counting all rest limit left → StandsFor (kept all) ds → fields_in ds ≤ limit
counting_last all rest limit left ds none so_far stands =
    let is : limit + 0 ≡ fields_in ds + left = ap (λ (xs : List (ℕ × BTreeMap ℕ Template)). limit + sum_by (weight ds) xs) (sym none) ∙ so_far.left_is ds stands in
    omega (arith, is)

-- ---- a message without a template set

set_keeps : (h : Header) (d e : Decoding) (s : Set) → is_template_set s ≡ false → set_gives h d s ≡ Ok e → e.events ≡ d.events
unfolding set_gives data_in
set_keeps h d e s none gives =
    let parts = or_false (eqb s.id 2) (eqb s.id 3) none in
    let left : cond (ltb s.id 256) (Ok (record d { passed_over = one_skipped d.passed_over })) (data_in h d s.body (in_force d.events s.id)) ≡ Ok e = rw (parts.0, parts.1) at gives in
    elim (chosen (ltb s.id 256) (Ok (record d { passed_over = one_skipped d.passed_over })) (data_in h d s.body (in_force d.events s.id)) (Ok e) left) [
      | inl skipped ↦ ap (λ (x : Decoding). x.events) (sym (ok_is (record d { passed_over = one_skipped d.passed_over }) e skipped.1))
      | inr taken ↦ by_template (in_force d.events s.id) taken.1
    ]
  where
    by_template : (o : Option Template) → data_in h d s.body o ≡ Ok e → e.events ≡ d.events
    by_template None is = ap (λ (x : Decoding). x.events) (sym (ok_is (record d { passed_over = one_unknown d.passed_over }) e is))
    by_template (Some t) is =
        let rs = bind_ok (records_of_body t.specs s.body) _ e is in
        ap (λ (x : Decoding). x.events) (sym (ok_is _ e rs.2))

sets_keep : (h : Header) (d e : Decoding) (ss : List Set) → list_any is_template_set ss ≡ false → sets_give h d ss ≡ Ok e → e.events ≡ d.events
unfolding sets_give
sets_keep h d e [] none gives = ap (λ (x : Decoding). x.events) (sym (ok_is d e gives))
sets_keep h d e (s ∷ ss) none gives =
    let parts = or_false (is_template_set s) (list_any is_template_set ss) none in
    let one = bind_ok (set_gives h d s) (λ x. sets_give h x ss) e gives in
    sets_keep h one.0 e ss parts.1 one.2 ∙ set_keeps h d one.0 s parts.0 one.1

unless_ok : (f : Option MessageFault) (d e : Decoding) → unless f d ≡ Ok e → d ≡ e
unless_ok None d e is = ok_is d e is
unless_ok (Some f) d e is = absurd (not_both e f (sym is))

all_keep : (h : Header) (d e : Decoding) (w : List ℕ) → has_template_set w ≡ false → sets_from h d w ≡ Ok e → e.events ≡ d.events
unfolding sets_from
all_keep h d e w none gives =
    let got = bind_ok (sets_give h d (sets_of w).items) (λ x. unless (fault_after_sets (sets_of w).rest) x) e gives in
    ap (λ (x : Decoding). x.events) (sym (unless_ok (fault_after_sets (sets_of w).rest) got.0 e got.2)) ∙ sets_keep h d got.0 (sets_of w).items none got.1

-- counts what was counted before it
pub counts_as_before : (ds : History) (m : List ℕ) (x : Message) → message_gives ds m ≡ Ok x → has_template_set (drop 16 m) ≡ false → knows ds x.header.domain ≡ true → fields_in x.domains ≡ fields_in ds
counts_as_before ds m x read none there =
    let r = was_read ds m x read in
    let events = all_keep x.header (before (events_in ds x.header.domain)) x.decoding (drop 16 m) none r.sets in
    let same : (q : ℕ) → events_in x.domains q ≡ events_in ds q = λ q. r.steps.events_at q ∙ by_domain q events (eqb_tells q x.header.domain) in
    ap (sum_by (λ q. domain_fields in_force (events_in x.domains q))) (r.steps.keys ∙ ap (λ (b : Bool). cond b (keys_of ds) (keys_of ds ++ x.header.domain ∷ [])) there)
    ∙ sum_same (λ q. domain_fields in_force (events_in x.domains q)) (λ q. domain_fields in_force (events_in ds q)) (keys_of ds) (λ q. ap (domain_fields in_force) (same q))
  where
    by_domain : (q : ℕ) → x.decoding.events ≡ events_in ds x.header.domain → ((eqb q x.header.domain ≡ true) × (q ≡ x.header.domain)) ⊎ ((eqb q x.header.domain ≡ false) × ¬ (q ≡ x.header.domain))
        → cond (eqb q x.header.domain) x.decoding.events (events_in ds q) ≡ events_in ds q
    by_domain q events (inl here) = rw here.0 (events ∙ ap (events_in ds) (sym here.1))
    by_domain q events (inr other) = rw other.0 refl

-- a message of a domain that is kept, without a template set
pub nothing_added : (xs : List (ℕ × BTreeMap ℕ Template)) (ds : History) (m : List ℕ) (h : Header) (x : Message) → message_header m ≡ Ok h → StandsFor (kept xs) ds → is_some (lookup (eqb h.domain) xs) ≡ true
    → has_template_set (drop 16 m) ≡ false → message_gives ds m ≡ Ok x → fields_in x.domains ≡ fields_in ds
nothing_added xs ds m h x good stands there none read =
    let same : x.header ≡ h = ok_is x.header h (sym (was_read ds m x read).header ∙ good) in
    counts_as_before ds m x read none (ap (λ (k : Header). knows ds k.domain) same ∙ is_some-history xs ds h.domain stands ∙ there)

-- ---- the answer

-- within the limit, and above it
pub message_fits : (limit : ℕ) (ds : History) (m : List ℕ) (x : Message) → message_gives ds m ≡ Ok x → fields_in x.domains ≤ limit → message_within (Some limit) ds m ≡ Ok x
message_fits limit ds m x read fits = ap (λ (r : Result Message MessageFault). r >>= λ y. unless_more limit y) read ∙ ap (λ (b : Bool). cond b (Err TooManyFields) (Ok x)) (le-ltb limit (fields_in x.domains) fits)

pub message_exceeds : (limit : ℕ) (ds : History) (m : List ℕ) (x : Message) → message_gives ds m ≡ Ok x → limit < fields_in x.domains → message_within (Some limit) ds m ≡ Err TooManyFields
message_exceeds limit ds m x read above = ap (λ (r : Result Message MessageFault). r >>= λ y. unless_more limit y) read ∙ ap (λ (b : Bool). cond b (Err TooManyFields) (Ok x)) (lt-ltb limit (fields_in x.domains) above)

-- what is read under a limit leaves no more
pub left_within : (limit : Option ℕ) (ds : History) (m : List ℕ) (x : Message) → message_within limit ds m ≡ Ok x → (message_gives ds m ≡ Ok x) × IsWithin limit x.domains
left_within None ds m x read = (read, tt)
left_within (Some limit) ds m x read =
    let got = bind_ok (message_gives ds m) (λ y. unless_more limit y) x read in
    elim (chosen (ltb limit (fields_in got.0.domains)) (Err TooManyFields) (Ok got.0) (Ok x) got.2) [
      | inl above ↦ absurd (not_both x TooManyFields (sym above.1))
      | inr fits ↦ let same = ok_is got.0 x fits.1 in (got.1 ∙ ap (λ (y : Message). Ok y) same, subst (λ (y : Message). fields_in y.domains ≤ limit) same (ltb-false limit (fields_in got.0.domains) fits.0))
    ]

-- what was within the limit stays so, where nothing was added
pub left_as_before : (limit : ℕ) (ds : History) (x : Message) → fields_in x.domains ≡ fields_in ds → fields_in ds ≤ limit → fields_in x.domains ≤ limit
left_as_before limit ds x same fits = subst (λ (n : ℕ). n ≤ limit) (sym same) fits

-- a message that was decoded, and leaves no more than the limit
pub decoded_within : (limit : ℕ) (ds : History) (m : List ℕ) (decoded : Decoded) (kept : List (ℕ × List (ℕ × Template))) → (read : Decodes (Ok decoded) kept (message_gives ds m)) → fields_in read.0.domains ≤ limit
    → Decodes (Ok decoded) kept (message_within (Some limit) ds m)
decoded_within limit ds m decoded kept read fits = (read.0, message_fits limit ds m read.0 read.1 fits, read.2, read.3)

-- and one that was not
pub fails_within : (limit : ℕ) (ds : History) (m : List ℕ) (f : MessageFault) → Fails f (message_gives ds m) → Fails f (message_within (Some limit) ds m)
fails_within limit ds m f fails = Fails-of f (message_gives ds m) (message_within (Some limit) ds m) (λ e is. ap (λ (r : Result Message MessageFault). r >>= λ y. unless_more limit y) is) fails
