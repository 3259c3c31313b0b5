-- The octets of a template, part by part.
use Rattle.std.proofs.Common.{◌≡◌, ℕ, zero, suc, ◌+◌, ◌<◌, get_or, take, add-one, List, [], ◌∷◌, ◌++◌, length, map, refl, sym, ap, ◌∙◌, append_assoc, arith}
use Rattle.std.specs.List.{flat_map, zip}
use Rattle.std.proofs.lemmas.List.{append-nil, length-append, length-map}
use Rattle.std.proofs.lemmas.List.Folds.{flat_map-map}
use Rattle.std.proofs.lemmas.Grind.{flat_map-append}
use Rattle.byteorder.specs.Endian.{big_bytes}
use Rattle.ipfix_wire.specs.FieldSpecifier.{spec_octets}
use Rattle.ipfix_wire.specs.declared.set.TheConstants.{FIRST_TEMPLATE_ID}
use Rattle.ipfix_wire.specs.declared.specifier.ElementId.{ElementId}
use Rattle.ipfix_wire.specs.declared.specifier.Spec.{Spec}
use Rattle.ipfix_elements.specs.declared.iana.TheConstants.{FLOW_START_MILLISECONDS, FLOW_END_MILLISECONDS, ORIGINAL_FLOWS_PRESENT}
use Rattle.ipfix_elements.specs.declared.kind.Kind.{Kind}
use Rattle.flow_table.specs.declared.key.Key.{Key}
use Rattle.flow_table.specs.Plans.{PlanValue, keys_and_kinds}
use Rattle.ipfix_elements.specs.Elements.{iana}
use Rattle.flow_export.specs.IpfixText.{field_specs, key_spec, number_spec, template, template_octets}
use Rattle.flow_export.specs.SpecOctets.{counter_octets, counters_octets, key_octets, keys_octets}

specs_parts : (keys : List (Key × Kind)) (counters : List ElementId) (last : Spec) → flat_map spec_octets (map key_spec keys ++ (map number_spec counters ++ last ∷ [])) ≡ keys_octets keys ++ (counters_octets counters ++ spec_octets last)
specs_parts keys counters last =
    flat_map-append spec_octets (map key_spec keys) (map number_spec counters ++ last ∷ [])
    ∙ ap (λ (t : List ℕ). t ++ flat_map spec_octets (map number_spec counters ++ last ∷ [])) (flat_map-map spec_octets key_spec keys)
    ∙ ap (λ (t : List ℕ). keys_octets keys ++ t)
    (flat_map-append spec_octets (map number_spec counters) (last ∷ [])
    ∙ ap (λ (t : List ℕ). t ++ (spec_octets last ++ [])) (flat_map-map spec_octets number_spec counters)
    ∙ ap (λ (t : List ℕ). counters_octets counters ++ t) (append-nil (spec_octets last)))

-- the specifiers of the first keys, and of one more
next_specs : (keys : List Key) (kinds : List Kind) (i : ℕ) (d : Key) (k : Kind) → i < length keys → i < length kinds
    → keys_octets (zip (take (suc i) keys) (take (suc i) kinds)) ≡ keys_octets (zip (take i keys) (take i kinds)) ++ key_octets (get_or keys i d, get_or kinds i k)
next_specs [] kinds i d k inside beside = absurd (omega (arith, inside))
next_specs (key ∷ keys) [] i d k inside beside = absurd (omega (arith, beside))
next_specs (key ∷ keys) (kind ∷ kinds) zero d k inside beside = append-nil (key_octets (key, kind))
next_specs (key ∷ keys) (kind ∷ kinds) (suc i) d k inside beside =
    ap (λ (t : List ℕ). key_octets (key, kind) ++ t) (next_specs keys kinds i d k (omega (arith, inside)) (omega (arith, beside)))
    ∙ sym (append_assoc (key_octets (key, kind)) (keys_octets (zip (take i keys) (take i kinds))) (key_octets (get_or keys i d, get_or kinds i k)))

pub specs_more : (keys : List Key) (kinds : List Kind) (i : ℕ) (d : Key) (k : Kind) (o p q : List ℕ) → i < length keys → i < length kinds
    → p ≡ o ++ keys_octets (zip (take i keys) (take i kinds)) → q ≡ p ++ key_octets (get_or keys i d, get_or kinds i k)
    → q ≡ o ++ keys_octets (zip (take (i + 1) keys) (take (i + 1) kinds))
specs_more keys kinds i d k o p q inside beside before here =
    here ∙ ap (λ (t : List ℕ). t ++ key_octets (get_or keys i d, get_or kinds i k)) before
    ∙ append_assoc o (keys_octets (zip (take i keys) (take i kinds))) (key_octets (get_or keys i d, get_or kinds i k))
    ∙ ap (λ (t : List ℕ). o ++ t) (sym (next_specs keys kinds i d k inside beside))
    ∙ ap (λ (n : ℕ). o ++ keys_octets (zip (take n keys) (take n kinds))) (sym (add-one i))

zip_long : (keys : List Key) (kinds : List Kind) → length kinds ≡ length keys → length (zip keys kinds) ≡ length keys
zip_long [] kinds beside = refl
zip_long (k ∷ ks) [] beside = absurd (omega (arith, beside))
zip_long (k ∷ ks) (kind ∷ kinds) beside = ap suc (zip_long ks kinds (omega (arith, beside)))

field_count : (plan : PlanValue) → length plan.kinds ≡ length plan.keys → length (field_specs plan) ≡ 3 + length plan.keys + length plan.counters
field_count plan beside =
    let counters = map number_spec plan.counters in
    let last : List Spec = number_spec (record { pen = 0; number = 375 }) ∷ [] in
    let keys_length : length (map key_spec (keys_and_kinds plan)) ≡ length plan.keys = length-map _ _ ∙ zip_long plan.keys plan.kinds beside in
    let counters_length : length counters ≡ length plan.counters = length-map _ _ in
    omega (arith, length-append (map key_spec (keys_and_kinds plan)) (counters ++ last), length-append counters last, keys_length, counters_length)

-- six parts, one after another, the first of two
six_parts : (o p q r s t u a a' b c d e f : List ℕ) → p ≡ o ++ (a ++ a') → q ≡ p ++ b → r ≡ q ++ c → s ≡ r ++ d → t ≡ s ++ e → u ≡ t ++ f → u ≡ o ++ (a ++ (a' ++ (b ++ (c ++ (d ++ (e ++ f))))))
six_parts o p q r s t u a a' b c d e f is_p is_q is_r is_s is_t is_u = rw (is_u, is_t, is_s, is_r, is_q, is_p) (simp append_assoc)

pub template_appended : (plan : PlanValue) (n : ℕ) (keys : List Key) (kinds : List Kind) (counters : List ElementId) (start end last : ElementId) (o p q r s t u : List ℕ)
    → length plan.kinds ≡ length plan.keys → n ≡ 3 + length keys + length counters → keys ≡ plan.keys → kinds ≡ plan.kinds → counters ≡ plan.counters
    → start ≡ iana FLOW_START_MILLISECONDS → end ≡ iana FLOW_END_MILLISECONDS → last ≡ iana ORIGINAL_FLOWS_PRESENT
    → p ≡ o ++ (big_bytes 2 FIRST_TEMPLATE_ID ++ big_bytes 2 n) → q ≡ p ++ counter_octets start → r ≡ q ++ counter_octets end → s ≡ r ++ keys_octets (zip keys kinds) → t ≡ s ++ counters_octets counters → u ≡ t ++ counter_octets last
    → u ≡ o ++ template_octets (template plan)
template_appended plan n keys kinds counters start end last o p q r s t u beside is_n is_keys is_kinds is_counters is_start is_end is_last is_p is_q is_r is_s is_t is_u =
    let flows = number_spec (iana ORIGINAL_FLOWS_PRESENT) in
    let times : List ℕ → List ℕ = λ (x : List ℕ). counter_octets (iana FLOW_START_MILLISECONDS) ++ (counter_octets (iana FLOW_END_MILLISECONDS) ++ x) in
    let fields : counter_octets start ++ (counter_octets end ++ (keys_octets (zip keys kinds) ++ (counters_octets counters ++ counter_octets last))) ≡ flat_map spec_octets (field_specs plan) =
    rw (is_start, is_end, is_last, is_keys, is_kinds, is_counters) (ap times (sym (specs_parts (keys_and_kinds plan) plan.counters flows))) in
    let count : n ≡ length (field_specs plan) = is_n ∙ rw (is_keys, is_counters) (sym (field_count plan beside)) in
    six_parts o p q r s t u (big_bytes 2 FIRST_TEMPLATE_ID) (big_bytes 2 n) (counter_octets start) (counter_octets end) (keys_octets (zip keys kinds)) (counters_octets counters) (counter_octets last) is_p is_q is_r is_s is_t is_u
    ∙ ap (λ (x : List ℕ). o ++ (big_bytes 2 FIRST_TEMPLATE_ID ++ (big_bytes 2 n ++ x))) fields
    ∙ ap (λ (m : ℕ). o ++ (big_bytes 2 FIRST_TEMPLATE_ID ++ (big_bytes 2 m ++ flat_map spec_octets (field_specs plan)))) count
