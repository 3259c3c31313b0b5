-- Each counter of a plan has the kind of unsigned64.
use Rattle.std.proofs.Common.{◌≡◌, ◌&&◌, ◌||◌, Bool, true, false, List, [], ◌∷◌, find, Option, Some, None, is_none, refl, sym, ap, ◌∙◌, inl, inr}
use Rattle.std.specs.Prelude.{All}
use Rattle.std.specs.List.{list_all, list_any}
use Rattle.std.specs.Option.{option_map_or}
use Rattle.std.proofs.lemmas.Bool.{and_parts, cases_Bool}
use Rattle.std.proofs.lemmas.List.Elements.{All-nil, All-cons}
use Rattle.ipfix_wire.specs.declared.specifier.ElementId.{ElementId}
use Rattle.ipfix_elements.specs.Elements.{Entry, elements, entry_of, iana}
use Rattle.ipfix_elements.specs.declared.kind.Kind.TheVariants.{Unsigned, Octets}
use Rattle.ipfix_elements.specs.declared.kind.Width.TheVariants.{Eight}
use Rattle.element_registry.specs.Registries.{Known, IsRegistry, element_kind, is_of}
use Rattle.element_registry.specs.declared.kind.ElementKind.{ElementKind}
use Rattle.element_registry.specs.declared.kind.ElementKind.TheVariants.{Plain}
use Rattle.flow_table.specs.declared.choices.Totals.{Totals}
use Rattle.flow_table.specs.Plans.{PlanValue, first_fault_of, is_built_in_counter, is_counter, is_taken_total, may_count, is_delta_of, is_element, is_unsigned64}
use Rattle.flow_table.proofs.Counting.{counts, counts_once}
use Rattle.flow_table.proofs.MadePlans.{counters_counted, Each, has_number}

IsOfEight : List Known → ElementId → Type 0
IsOfEight known e = element_kind known e ≡ Plain (Unsigned Eight)

built_in : (known : List Known) → Each (λ n. IsOfEight known (iana n)) (1 ∷ 2 ∷ 3 ∷ 23 ∷ 24 ∷ 132 ∷ 133 ∷ [])
unfolding elements IsOfEight
built_in known = (refl, (refl, (refl, (refl, (refl, (refl, (refl, tt)))))))

of_unsigned64 : (kind : ElementKind) → is_unsigned64 kind ≡ true → kind ≡ Plain (Unsigned Eight)
of_unsigned64 (Plain (Unsigned Eight)) is = refl
of_unsigned64 kind is = absurd cc

of_entry : (o : Option Known) → counts o ≡ true → option_map_or (λ (k : Known). k.kind) o (Plain Octets) ≡ Plain (Unsigned Eight)
of_entry None counted = absurd cc
of_entry (Some k) counted = of_unsigned64 k.kind (and_parts k.is_delta (is_unsigned64 k.kind) counted).1

of_file : (o : Option Entry) (kind : ElementKind) → is_none o ≡ true → option_map_or (λ (r : Entry). Plain r.kind) o kind ≡ kind
of_file None kind free = refl
of_file (Some r) kind free = absurd cc

counter_of_eight : (known : List Known) → IsRegistry known → (e : ElementId) → is_counter known e ≡ true → IsOfEight known e
unfolding IsOfEight
counter_of_eight known good e counter = elim (cases_Bool (is_built_in_counter e)) [
  | inl built ↦ has_number (IsOfEight known) (1 ∷ 2 ∷ 3 ∷ 23 ∷ 24 ∷ 132 ∷ 133 ∷ []) e (built_in known) built
  | inr other ↦
      let delta = list_any (is_delta_of e) known in
      let does : (is_element e && (is_none (entry_of e) && delta)) ≡ true = sym (ap (λ b. b || (is_element e && (is_none (entry_of e) && delta))) other) ∙ counter in
      let both = and_parts (is_none (entry_of e)) delta (and_parts (is_element e) (is_none (entry_of e) && delta) does).1 in
      of_file (entry_of e) (option_map_or (λ (k : Known). k.kind) (find (is_of e) known) (Plain Octets)) both.0
      ∙ of_entry (find (is_of e) known) (sym (counts_once e known good) ∙ both.1)
]

-- a counter that isn't a total taken as a delta
abbrev HasKind : List Known → Totals → ElementId → Type 0
HasKind known totals e = is_taken_total totals e ≡ false → IsOfEight known e

count_of_eight : (known : List Known) → IsRegistry known → (totals : Totals) (e : ElementId) → may_count known totals e ≡ true → HasKind known totals e
count_of_eight known good totals e counts other = counter_of_eight known good e (sym (or-false (is_counter known e)) ∙ ap (λ b. is_counter known e || b) (sym other) ∙ counts)
  where
    or-false : (b : Bool) → (b || false) ≡ b
    or-false true = refl
    or-false false = refl

of_one_kind : (known : List Known) → IsRegistry known → (totals : Totals) (counters : List ElementId) → list_all (may_count known totals) counters ≡ true → All (HasKind known totals) counters
of_one_kind known good totals [] all = All-nil (HasKind known totals)
of_one_kind known good totals (c ∷ counters) all =
    let both = and_parts (may_count known totals c) (list_all (may_count known totals) counters) all in
    All-cons (HasKind known totals) c counters (count_of_eight known good totals c both.0) (of_one_kind known good totals counters both.1)

pub counters_of_plan : (known : List Known) (plan : PlanValue) → IsRegistry known → first_fault_of known plan ≡ None
    → All (λ c. is_taken_total plan.choices.totals c ≡ false → element_kind known c ≡ Plain (Unsigned Eight)) plan.counters
unfolding IsOfEight
counters_of_plan known plan good none = of_one_kind known good plan.choices.totals plan.counters (counters_counted known plan none)
