-- What holds of the keys and counters of a plan.
use Rattle.std.proofs.Common.{◌≡◌, ◌^◌, ◌<◌, Bool, true, false, eqb, nat_lt, ◌||◌, not, List, [], ◌∷◌, ◌++◌, map, All, refl, arith, inl, inr}
use Rattle.std.specs.List.{list_all, AllPass}
use Rattle.flow_table.specs.declared.key.Side.TheVariants.{Read, Exported}
use Rattle.std.proofs.lemmas.List.Sums.{AllPass-from_list_all}
use Rattle.std.proofs.lemmas.Bool.{and_parts, cases_Bool, eqb-true, ltb-true}
use Rattle.std.proofs.lemmas.List.Elements.{All-nil, All-cons}
use Rattle.ipfix_wire.specs.declared.specifier.ElementId.{ElementId}
use Rattle.flow_table.specs.declared.key.Key.{Key}
use Rattle.flow_table.specs.Plans.{PlanValue, IsPlan, HasPrefix, is_prefix_of, exporter, is_element, is_key_kind, is_time, is_value, has_twice, elements_in, exported_element, same_element}

have_prefixes : (ks : List Key) → list_all (λ k. is_prefix_of k.element k.prefix) ks ≡ true → All HasPrefix ks
have_prefixes [] h = All-nil HasPrefix
have_prefixes (k ∷ ks) h =
    let both = and_parts (is_prefix_of k.element k.prefix) (list_all (λ k. is_prefix_of k.element k.prefix) ks) h in
    All-cons HasPrefix k ks both.0 (have_prefixes ks both.1)

pub prefixes_of_plan : (p : PlanValue) → IsPlan p → All HasPrefix p.keys
prefixes_of_plan p h = have_prefixes p.keys h.prefixes

pub kinds_of_plan : (p : PlanValue) → IsPlan p → AllPass is_key_kind p.kinds
kinds_of_plan p h = AllPass-from_list_all is_key_kind p.kinds h.kinds

pub counters_of_plan : (p : PlanValue) → IsPlan p → AllPass is_value p.counters
counters_of_plan p h = AllPass-from_list_all is_value p.counters h.counters

-- no element stands twice among those that are exported
pub exported_apart : (p : PlanValue) → IsPlan p → has_twice (map exported_element p.keys ++ p.counters) ≡ false
exported_apart p h = (or_both (has_twice (elements_in Read p.keys p.counters)) (has_twice (elements_in Exported p.keys p.counters)) h.apart).1
  where
    or_both : (a b : Bool) → not (a || b) ≡ true → (a ≡ false) × (b ≡ false)
    or_both true b e = absurd cc
    or_both false true e = absurd cc
    or_both false false e = (refl, refl)

-- what is no flow's time and has 15 bits can stand in a template, where an exporter's own element can't
pub value_is_sent : (e : ElementId) → is_value e ≡ true → same_element e exporter ≡ false
value_is_sent e value = elim (cases_Bool (same_element e exporter)) [
  | inl same ↦
      let number : e.number ≡ 32768 = eqb-true e.number 32768 (and_parts (eqb e.pen 0) (eqb e.number 32768) same).1 in
      let inside = and_parts (nat_lt e.pen (2 ^ 32)) (nat_lt e.number (2 ^ 15)) (and_parts (is_element e) (not (is_time e)) value).0 in
      let small : e.number < 2 ^ 15 = ltb-true e.number (2 ^ 15) inside.1 in
      absurd (omega arith)
  | inr other ↦ other
]
