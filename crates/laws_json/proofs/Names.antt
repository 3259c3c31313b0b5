-- The names of a row's members are different under every plan.
use Rattle.std.proofs.Common.{◌≡◌, ℕ, ◌||◌, Bool, true, false, cond, eqb, List, [], ◌∷◌, ◌++◌, map, Option, Some, None, unwrap_or, inl, inr, refl, sym, ap, ap₂, subst, ◌∙◌, arith, append_assoc, append-nil}
use Rattle.std.specs.Prelude.{◌≢◌, codes, decimal, not, All, AllPairs}
use Rattle.std.specs.List.{list_all, list_any}
use Rattle.std.specs.Option.{option_or}
use Rattle.std.proofs.lemmas.Bool.{and_from, and_parts, cases_Bool, false≢true, or_parts, not-true}
use Rattle.std.proofs.lemmas.List.{map-append}
use Rattle.std.proofs.lemmas.List.Elements.{All-append, All-cons, All-head, All-nil, All-tail}
use Rattle.std.proofs.lemmas.List.Kept.{AllPairs-cons}
use Rattle.std.proofs.lemmas.Option.{none-some, same_Some}
use Rattle.ipfix_wire.specs.declared.specifier.ElementId.{ElementId}
use Rattle.std.specs.Fmt.{digits}
use Rattle.ipfix_elements.specs.Elements.{elements}
use Rattle.ipfix_elements.specs.Names.{element_named, numbers_in}
use Rattle.element_registry.specs.Registries.{Known, element_by_name, element_name}
use Rattle.element_registry.proofs.Registered.{written_read}
use Rattle.flow_table.specs.declared.key.Key.{Key}
use Rattle.flow_table.specs.Plans.{PlanValue, IsPlan, context_name, context_named, exporter, exporter_ipv4, exporter_ipv6, has_twice, is_key_element, is_value, observation_domain, same_element}
use Rattle.flow_table.proofs.ContextNames.{is_same, named_back, named_first}
use Rattle.flow_export.specs.CsvText.{heading, key_name, key_text, prefix_text}
use Rattle.flow_export.specs.PlainNames.{is_plain_octet}
use Rattle.flow_export.proofs.PlanFacts.{value_is_element}
use Rattle.laws_json.specs.RowObjects.{FitsHeading, NamesContext, NamesOwn}
use Rattle.laws_json.proofs.Plain.{key_name_octets, name_octets, plain_octet}
use Rattle.laws_json.proofs.Tests.{Pass, weaker}

-- ---- what stands before the first slash

abbrev no_slash : ℕ → Bool
no_slash b = not (eqb b 47)

abbrev HasNoSlash : List ℕ → Type 0
HasNoSlash = Pass no_slash

abbrev base : List ℕ → List ℕ
base [] = []
base (b ∷ bs) = cond (eqb b 47) [] (b ∷ base bs)

base_whole : (text : List ℕ) → HasNoSlash text → base (text ++ []) ≡ text
base_whole [] h = refl
base_whole (b ∷ bs) h =
    let parts = and_parts (no_slash b) (list_all no_slash bs) h in
    rw (not-true (eqb b 47) parts.0, base_whole bs parts.1) refl

base_cut : (text rest : List ℕ) → HasNoSlash text → base (text ++ 47 ∷ rest) ≡ text
base_cut [] rest h = refl
base_cut (b ∷ bs) rest h =
    let parts = and_parts (no_slash b) (list_all no_slash bs) h in
    rw (not-true (eqb b 47) parts.0, base_cut bs rest parts.1) refl

base_of : (text : List ℕ) (prefix : Option ℕ) → HasNoSlash text → base (text ++ prefix_text prefix) ≡ text
base_of text None h = base_whole text h
base_of text (Some bits) h = base_cut text (decimal bits) h

-- ---- different names

abbrev differs : List ℕ → List ℕ → Type 0
differs a b = a ≢ b

itself : (e : ElementId) → same_element e e ≡ true
itself e = and_from (eqb e.pen e.pen) (eqb e.number e.number) (grind arith) (grind arith)

apart : (e d : ElementId) → same_element e d ≡ false → e ≡ d → ⊥
apart e d other same = let no : false ≡ true = sym other ∙ ap (λ (x : ElementId). same_element e x) (sym same) ∙ itself e in absurd cc

single : (x : List ℕ) (last : List ℕ) → x ≢ last → All (differs x) (last ∷ [])
single x last other = All-cons (differs x) last [] other (All-nil (differs x))

no_both : (a b : Bool) → not (a || b) ≡ true → a ≡ false
no_both true b h = absurd cc
no_both false b h = refl

abbrev first_octet : List ℕ → ℕ
first_octet [] = 0
first_octet (b ∷ bs) = b

start_end : codes "start" ≢ codes "end"
start_end same = let no : 115 ≡ 101 = ap first_octet same in absurd (omega (arith, no))

start_flows : codes "start" ≢ codes "flows"
start_flows same = let no : 115 ≡ 102 = ap first_octet same in absurd (omega (arith, no))

end_flows : codes "end" ≢ codes "flows"
end_flows same = let no : 101 ≡ 102 = ap first_octet same in absurd (omega (arith, no))

other_value : (a b : Bool) → a ≡ false → (a || b) ≡ true → b ≡ true
other_value a b not_a either = sym (ap (λ x. x || b) not_a) ∙ either

no_name : (a b c d : Bool) → cond a (Some (codes "exporter")) (cond b (Some (codes "exporterIPv4Address")) (cond c (Some (codes "exporterIPv6Address")) (cond d (Some (codes "observationDomainId")) None))) ≡ None → a ≡ false
no_name true b c d none = absurd cc
no_name false b c d none = refl

not_exporter : (e : ElementId) → context_name e ≡ None → same_element e exporter ≡ false
not_exporter e none = no_name (same_element e exporter) (same_element e exporter_ipv4) (same_element e exporter_ipv6) (same_element e observation_domain) none

-- each key's element is that of a key
or_more : (a b : Bool) → b ≡ true → (a || b) ≡ true
or_more true b h = refl
or_more false b h = h

all_more : (k : Key) (ks js : List Key) → list_all (λ j. list_any (λ i. same_element i.element j.element) ks) js ≡ true → list_all (λ j. list_any (λ i. same_element i.element j.element) (k ∷ ks)) js ≡ true
all_more k ks [] h = refl
all_more k ks (j ∷ js) h =
    let both = and_parts (list_any (λ i. same_element i.element j.element) ks) _ h in
    and_from _ _ (or_more (same_element k.element j.element) (list_any (λ i. same_element i.element j.element) ks) both.0) (all_more k ks js both.1)

each_among : (ks : List Key) → list_all (λ k. list_any (λ j. same_element j.element k.element) ks) ks ≡ true
each_among [] = refl
each_among (k ∷ ks) = and_from _ _ (ap (λ b. b || list_any (λ j. same_element j.element k.element) ks) (itself k.element)) (all_more k ks ks (each_among ks))

-- ---- the names of a heading

-- the element of context that a name names, if it is one of these keys
abbrev context_in : List Key → Option ElementId → Option ElementId
context_in keys None = None
context_in keys (Some e) = cond (list_any (λ k. same_element k.element e) keys) (Some e) None

-- an element that is that of a key has what the elements of keys have
of_key : (P : ElementId → Type 0) (ks : List Key) (e : ElementId) → All (λ k. P k.element) ks → list_any (λ k. same_element k.element e) ks ≡ true → P e
of_key P [] e all any = absurd (false≢true any)
of_key P (k ∷ ks) e all any = elim (cases_Bool (same_element k.element e)) [
  | inl same ↦ subst P (is_same k.element e same) (All-head (λ k. P k.element) k ks all)
  | inr other ↦ of_key P ks e (All-tail (λ k. P k.element) k ks all) (sym (ap (λ b. b || list_any (λ k. same_element k.element e) ks) other) ∙ any)
]

module _ (known : List Known) (fits : FitsHeading known) (all : List Key) (own : All (λ k. NamesOwn known k.element) all) where
  -- the element that a name tells: one of context if it is a key, or else as files have it
  abbrev told_element : List ℕ → Option ElementId
  told_element name = option_or (context_in all (context_named name)) (element_by_name known name)

  -- the element that a name of a member tells
  abbrev element_in : List ℕ → Option ElementId
  element_in text = told_element (base text)

  name_has_none : (e : ElementId) → HasNoSlash (element_name known e)
  name_has_none e = weaker is_plain_octet no_slash (plain_octet no_slash refl) (element_name known e) (name_octets known fits.plain e)

  key_name_has_none : (e : ElementId) → HasNoSlash (key_name known e)
  key_name_has_none e = weaker is_plain_octet no_slash (plain_octet no_slash refl) (key_name known e) (key_name_octets known fits.plain e)

  -- a name that files have of an element, which names no other of context among the keys
  named_by_file : (e : ElementId) (name : List ℕ) (c : Option ElementId) → context_named name ≡ c → element_by_name known name ≡ Some e → option_or (context_in all c) (element_by_name known name) ≡ Some e
  named_by_file e name None context found = found
  named_by_file e name (Some c) context found = elim (cases_Bool (list_any (λ k. same_element k.element c) all)) [
    | inl among ↦
        let same : e ≡ c = of_key (NamesOwn known) all c own among name e (named_first c name context) found in
        rw among (ap (λ (d : ElementId). Some d) (sym same))
    | inr other ↦ rw other found
  ]

  name_tells : (e : ElementId) → is_value e ≡ true → told_element (element_name known e) ≡ Some e
  name_tells e value = named_by_file e (element_name known e) (context_named (element_name known e)) refl (written_read known e fits.registry (value_is_element e value))

  -- a key's name tells its element
  named_by_key : (e : ElementId) → list_any (λ k. same_element k.element e) all ≡ true → is_key_element e ≡ true → (o : Option (List ℕ)) → context_name e ≡ o → told_element (unwrap_or o (element_name known e)) ≡ Some e
  named_by_key e among key (Some name) context = rw (named_back e name context, among) refl
  named_by_key e among key None context = name_tells e (other_value (same_element e exporter) (is_value e) (not_exporter e context) key)

  key_tells : (k : Key) → list_any (λ j. same_element j.element k.element) all ≡ true → is_key_element k.element ≡ true → element_in (key_text known k) ≡ Some k.element
  key_tells k among key =
      ap told_element (base_of (key_name known k.element) k.prefix (key_name_has_none k.element)) ∙ named_by_key k.element among key (context_name k.element) refl

  counter_tells : (e : ElementId) → is_value e ≡ true → element_in (element_name known e) ≡ Some e
  counter_tells e value = ap element_in (sym (append-nil (element_name known e))) ∙ ap told_element (base_of (element_name known e) None (name_has_none e)) ∙ name_tells e value

  keys_tell : (ks : List Key) → list_all (λ k. list_any (λ j. same_element j.element k.element) all) ks ≡ true → list_all (λ k. is_key_element k.element) ks ≡ true
      → map element_in (map (key_text known) ks) ≡ map (λ e. Some e) (map (λ k. k.element) ks)
  keys_tell [] among h = refl
  keys_tell (k ∷ ks) among h =
      let parts = and_parts (is_key_element k.element) _ h in
      let here = and_parts (list_any (λ j. same_element j.element k.element) all) _ among in
      ap₂ (λ (o : Option ElementId) (os : List (Option ElementId)). o ∷ os) (key_tells k here.0 parts.0) (keys_tell ks here.1 parts.1)

  counters_tell : (es : List ElementId) → list_all is_value es ≡ true → map element_in (map (element_name known) es) ≡ map (λ e. Some e) es
  counters_tell [] h = refl
  counters_tell (e ∷ es) h =
      let parts = and_parts (is_value e) _ h in
      ap₂ (λ (o : Option ElementId) (os : List (Option ElementId)). o ∷ os) (counter_tells e parts.0) (counters_tell es parts.1)

  -- a name that tells no element is none of those that do
  no_element : (name : List ℕ) (names : List (List ℕ)) (es : List ElementId) → element_in name ≡ None → map element_in names ≡ map (λ e. Some e) es → All (differs name) names
  no_element name [] es none tell = All-nil (differs name)
  no_element name (n ∷ ns) [] none tell = absurd cc
  no_element name (n ∷ ns) (e ∷ es) none tell =
      let first : element_in n ≡ Some e = cc in
      let rest : map element_in ns ≡ map (λ e. Some e) es = cc in
      All-cons (differs name) n ns (λ same. none-some e (sym none ∙ ap element_in same ∙ first)) (no_element name ns es none rest)

  other_elements : (name : List ℕ) (d : ElementId) (names : List (List ℕ)) (es : List ElementId) → element_in name ≡ Some d → map element_in names ≡ map (λ e. Some e) es
      → list_any (λ e. same_element e d) es ≡ false → All (differs name) names
  other_elements name d [] es is tell other = All-nil (differs name)
  other_elements name d (n ∷ ns) [] is tell other = absurd cc
  other_elements name d (n ∷ ns) (e ∷ es) is tell other =
      let first : element_in n ≡ Some e = cc in
      let rest : map element_in ns ≡ map (λ e. Some e) es = cc in
      let parts = or_parts (same_element e d) _ other in
      All-cons (differs name) n ns (λ same. apart e d parts.0 (same_Some e d (sym first ∙ ap element_in (sym same) ∙ is))) (other_elements name d ns es is rest parts.1)

  -- names of different elements, and a last name that is none of them
  elements_differ : (names : List (List ℕ)) (es : List ElementId) (last : List ℕ) → element_in last ≡ None → map element_in names ≡ map (λ e. Some e) es → has_twice es ≡ false
      → AllPairs differs (names ++ last ∷ [])
  elements_differ [] es last none tell once = AllPairs-cons differs last [] (All-nil (differs last)) (λ i j d less within. absurd (omega arith))
  elements_differ (n ∷ ns) [] last none tell once = absurd cc
  elements_differ (n ∷ ns) (e ∷ es) last none tell once =
      let first : element_in n ≡ Some e = cc in
      let rest : map element_in ns ≡ map (λ e. Some e) es = cc in
      let parts = or_parts (list_any (λ other. same_element other e) es) (has_twice es) once in
      AllPairs-cons differs n (ns ++ last ∷ [])
      (All-append (differs n) ns (last ∷ []) (other_elements n e ns es first rest parts.0) (single n last (λ same. none-some e (sym none ∙ ap element_in (sym same) ∙ first))))
      (elements_differ ns es last none rest parts.1)

  plan_names_differ : (plan : PlanValue) → all ≡ plan.keys → IsPlan plan → AllPairs differs (heading known plan)
  plan_names_differ plan keys_are is =
      let keys = map (key_text known) plan.keys in
      let counters = map (element_name known) plan.counters in
      let es = map (λ (k : Key). k.element) plan.keys ++ plan.counters in
      let flows = codes "flows" in
      let tell : map element_in (keys ++ counters) ≡ map (λ e. Some e) es =
      map-append element_in keys counters ∙ ap₂ (λ (xs ys : List (Option ElementId)). xs ++ ys) (keys_tell plan.keys (subst (λ (ks : List Key). list_all (λ k. list_any (λ j. same_element j.element k.element) ks) plan.keys ≡ true) (sym keys_are) (each_among plan.keys)) is.values) (counters_tell plan.counters is.counters)
      ∙ sym (map-append (λ (e : ElementId). Some e) (map (λ (k : Key). k.element) plan.keys) plan.counters) in
      let once : has_twice es ≡ false = no_both (has_twice es) _ is.apart in
      let names : List (List ℕ) = (keys ++ counters) ++ flows ∷ [] in
      let among : (name : List ℕ) → element_in name ≡ None → name ≢ flows → All (differs name) names =
      λ name none other. All-append (differs name) (keys ++ counters) (flows ∷ []) (no_element name (keys ++ counters) es none tell) (single name flows other) in
      let last : AllPairs differs names = elements_differ (keys ++ counters) es flows fits.flows tell once in
      let end : AllPairs differs (codes "end" ∷ names) = AllPairs-cons differs (codes "end") names (among (codes "end") fits.end end_flows) last in
      let others : All (differs (codes "start")) (codes "end" ∷ names) =
      All-cons (differs (codes "start")) (codes "end") names start_end (among (codes "start") fits.start start_flows) in
      let start : AllPairs differs (codes "start" ∷ codes "end" ∷ names) = AllPairs-cons differs (codes "start") (codes "end" ∷ names) others end in
      let joined : names ≡ keys ++ (counters ++ flows ∷ []) = append_assoc keys counters (flows ∷ []) in
      subst (λ (rest : List (List ℕ)). AllPairs differs (codes "start" ∷ codes "end" ∷ rest)) joined start

pub names_differ : (known : List Known) → FitsHeading known → (plan : PlanValue) → NamesContext known plan → IsPlan plan → AllPairs differs (heading known plan)
names_differ known fits plan own is = plan_names_differ known fits plan.keys own plan refl is

-- without files no element has a name of context
Unnamed : List ℕ → Type 0
Unnamed name = element_by_name [] name ≡ None

unnamed_exporter : Unnamed (codes "exporter")
unfolding Unnamed element_named elements numbers_in digits
unnamed_exporter = refl

unnamed_ipv4 : Unnamed (codes "exporterIPv4Address")
unfolding Unnamed element_named elements numbers_in digits
unnamed_ipv4 = refl

unnamed_ipv6 : Unnamed (codes "exporterIPv6Address")
unfolding Unnamed element_named elements numbers_in digits
unnamed_ipv6 = refl

unnamed_domain : Unnamed (codes "observationDomainId")
unfolding Unnamed element_named elements numbers_in digits
unnamed_domain = refl

unnamed : (e : ElementId) (name : List ℕ) → context_name e ≡ Some name → element_by_name [] name ≡ None
unfolding Unnamed
unnamed e name is = by (same_element e exporter) (same_element e exporter_ipv4) (same_element e exporter_ipv6) (same_element e observation_domain) is
  where
    by : (a b c d : Bool) → cond a (Some (codes "exporter")) (cond b (Some (codes "exporterIPv4Address")) (cond c (Some (codes "exporterIPv6Address")) (cond d (Some (codes "observationDomainId")) None))) ≡ Some name
        → element_by_name [] name ≡ None
    by true b c d h = subst (λ (n : List ℕ). element_by_name [] n ≡ None) (same_Some _ name h) unnamed_exporter
    by false true c d h = subst (λ (n : List ℕ). element_by_name [] n ≡ None) (same_Some _ name h) unnamed_ipv4
    by false false true d h = subst (λ (n : List ℕ). element_by_name [] n ≡ None) (same_Some _ name h) unnamed_ipv6
    by false false false true h = subst (λ (n : List ℕ). element_by_name [] n ≡ None) (same_Some _ name h) unnamed_domain
    by false false false false h = absurd (none-some name h)

pub no_names_differ : (plan : PlanValue) → NamesContext [] plan
no_names_differ plan = each plan.keys
  where
    none : (e : ElementId) → NamesOwn [] e
    none e name d is found = absurd (none-some d (sym (unnamed e name is) ∙ found))

    each : (ks : List Key) → All (λ k. NamesOwn [] k.element) ks
    each [] = All-nil (λ k. NamesOwn [] k.element)
    each (k ∷ ks) = All-cons (λ k. NamesOwn [] k.element) k ks (none k.element) (each ks)

-- a key that has no name of context
pub no_context_named : (known : List Known) (ks : List Key) → All (λ k. context_name k.element ≡ None) ks → All (λ k. NamesOwn known k.element) ks
no_context_named known [] none = All-nil (λ k. NamesOwn known k.element)
no_context_named known (k ∷ ks) none =
    All-cons (λ k. NamesOwn known k.element) k ks (λ name d is found. absurd (none-some name (sym (All-head (λ k. context_name k.element ≡ None) k ks none) ∙ is)))
    (no_context_named known ks (All-tail (λ k. context_name k.element ≡ None) k ks none))
