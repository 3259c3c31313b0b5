use Rattle.std.proofs.Common.{ℕ, ◌^◌, ◌∙◌, List, ap, subst, sym, refl, rules}
use Rattle.std.specs.Prelude.{All, nat_lt}
use Rattle.std.specs.List.{take_while}
use Rattle.std.specs.List.Sorted.{IsNonDecreasingBy}
use Rattle.std.proofs.lemmas.List.Sorted.{All-permutation, IsNonDecreasingBy-from_sort_by_key}
use Rattle.prefix_numbers.specs.declared.row.NumberedPrefix.{NumberedPrefix}
use Rattle.prefix_numbers.specs.Flat.{IsFlat}
use Rattle.prefix_numbers.specs.Spans.{HasZeros}
use Rattle.prefix_numbers.proofs.MapsMade.{map_made, small_ascend}
use Rattle.prefix_numbers.proofs.prefix_map.PrefixMap.of_rows.Goals as goal

pub flatten-requires-clause-ascending : goal.flatten-requires-clause-ascending
flatten-requires-clause-ascending c =
    let up = IsNonDecreasingBy-from_sort_by_key (λ (row : NumberedPrefix). row.prefix.length) c.sort_unstable_by_key.new.self.items c.sort_unstable_by_key.ensures.sorted (λ a r q k. search rules) in
    subst (λ (l : List NumberedPrefix). IsNonDecreasingBy (λ (row : NumberedPrefix). row.prefix.length) l) (sym c.deref.ensures.value) up

pub flatten-requires-clause-zeros : goal.flatten-requires-clause-zeros
flatten-requires-clause-zeros c =
    subst (λ (l : List NumberedPrefix). All HasZeros l) (sym c.deref.ensures.value)
    (All-permutation HasZeros c.args.rows.items c.sort_unstable_by_key.new.self.items c.sort_unstable_by_key.ensures.permutation c.requires)

pub flatten-requires-2-clause-ascending : goal.flatten-requires-2-clause-ascending
flatten-requires-2-clause-ascending c =
    let up = IsNonDecreasingBy-from_sort_by_key (λ (row : NumberedPrefix). row.prefix.length) c.sort_unstable_by_key.new.self.items c.sort_unstable_by_key.ensures.sorted (λ a r q k. search rules) in
    subst (λ (l : List NumberedPrefix). IsNonDecreasingBy (λ (row : NumberedPrefix). row.prefix.length) l) (sym c.deref-2.ensures.value) up

pub flatten-requires-2-clause-zeros : goal.flatten-requires-2-clause-zeros
flatten-requires-2-clause-zeros c =
    subst (λ (l : List NumberedPrefix). All HasZeros l) (sym c.deref-2.ensures.value)
    (All-permutation HasZeros c.args.rows.items c.sort_unstable_by_key.new.self.items c.sort_unstable_by_key.ensures.permutation c.requires)

pub invariant_of-result : goal.invariant_of-result
invariant_of-result c = record {
  ipv4_ascending = small_ascend c.in_ok-ipv4.ipv4.starts.items c.deref-3.result.now c.in_ok-ipv4_starts.ipv4_starts.items c.in_ok-ipv4_starts.ensures c.deref-3.ensures.value c.in_ok-ipv4.ensures.ascending;
  ipv6_ascending = c.in_ok-ipv6.ensures.ascending;
}

pub returns : goal.returns
returns c =
    map_made c.args.rows.items c.sort_unstable_by_key.new.self.items c.in_ok-ipv4.ipv4 c.in_ok-ipv6.ipv6 _ c.sort_unstable_by_key.ensures.permutation c.in_ok-ipv4.ensures.ascending
    (subst (λ (l : List NumberedPrefix). IsFlat l 32 c.in_ok-ipv4.ipv4) c.deref.ensures.value c.in_ok-ipv4.ensures.flat)
    (subst (λ (l : List NumberedPrefix). IsFlat l 128 c.in_ok-ipv6.ipv6) c.deref-2.ensures.value c.in_ok-ipv6.ensures.flat)
    (c.in_ok-ipv4_starts.ensures ∙ ap (λ (l : List ℕ). take_while (λ start. nat_lt start (2 ^ 32)) l) c.deref-3.ensures.value)
    refl refl refl
