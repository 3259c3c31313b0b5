-- Lists gone through one after another.
use Rattle.std.proofs.Common.{◌≡◌, ◌≤◌, ◌-◌, ◌+◌, ℕ, Some, List, [], ◌∷◌, ◌++◌, length, map, take, drop, refl, sym, ap, subst, ◌∙◌, arith}
use Rattle.std.specs.Prelude.{Result, Ok, Err, slice_index_or}
use Rattle.std.proofs.Math.Seq.{take-length}
use Rattle.std.proofs.lemmas.List.{map_push}
use Rattle.toml.specs.Data.{Data, as_table}
use Rattle.toml.specs.View.{view}
use Rattle.toml.specs.declared.value.Value.{Value}
use Rattle.element_registry.specs.Faults.{Fails, Gives, Read}
use Rattle.element_registry.specs.Files.{with_entry}
use Rattle.element_registry.specs.Registries.{Known}
use Rattle.element_registry.specs.Rows.{and_then}
use Rattle.element_registry.specs.declared.fault.ElementsFault.{ElementsFault}
use Rattle.element_registry.proofs.Steps.{fails_then}
use Rattle.flow_plan.specs.declared.error.PlanTextError.TheVariants as texts
use Rattle.flow_plan_fields.specs.Errors.{ReadsMapAt, ReadsMaps}
use Rattle.flow_plan_fields.specs.Keys.{KeyValue, key_value}
use Rattle.flow_plan_fields.specs.Known.{known_key, with_keys, AddsKeys}
use Rattle.flow_plan_fields.specs.Maps.{MapValue, map_of_table, map_value, maps_after, placed}
use Rattle.flow_plan_fields.specs.declared.error.MapTableFault.{MapTableFault}
use Rattle.flow_plan_fields.specs.declared.error.PlanMapsError.{PlanMapsError}
use Rattle.flow_plan_fields.specs.declared.error.PlanMapsError.TheVariants.{Document, NoMaps, Map}
use Rattle.flow_plan_fields.specs.declared.named.NamedKey.{NamedKey}
use Rattle.flow_plan_fields.specs.declared.named.NamedMap.{NamedMap}

-- those after the first
pub rest_of : {X : Type 0} (x : X) (xs : List X) → take (length (x ∷ xs) - 1) (drop 1 (x ∷ xs)) ≡ xs
rest_of x xs = let left : length (x ∷ xs) - 1 ≡ length xs = omega arith in ap (λ (n : ℕ). take n xs) left ∙ take-length xs

-- ---- maps

pub maps_go_on : (before : List MapValue) (values : List Value) (d value : Value) (m : MapValue) → 1 ≤ length values → value ≡ slice_index_or values 0 d → map_of_table before (as_table (view value)) ≡ Ok m
    → maps_after (before ++ m ∷ []) (map view (take (length values - 1) (drop 1 values))) ≡ maps_after before (map view values)
maps_go_on before [] d value m some is h = absurd (omega (arith, some))
maps_go_on before (v ∷ values) d value m some is h =
    let first : map_of_table before (as_table (view v)) ≡ Ok m = ap (λ (x : Value). map_of_table before (as_table (view x))) (sym is) ∙ h in
    ap (λ (xs : List Value). maps_after (before ++ m ∷ []) (map view xs)) (rest_of v values)
    ∙ sym (ap (λ (r : Result MapValue MapTableFault). placed (length before + 1) r (λ m. maps_after (before ++ m ∷ []) (map view values))) first)

pub maps_pushed : (old new : List NamedMap) (m : NamedMap) (values : List Value) (d value : Value) (read : Result (List MapValue) (ℕ × MapTableFault)) → 1 ≤ length values → value ≡ slice_index_or values 0 d
    → map_of_table (map map_value old) (as_table (view value)) ≡ Ok (map_value m) → new ≡ old ++ m ∷ [] → maps_after (map map_value old) (map view values) ≡ read
    → maps_after (map map_value new) (map view (take (length values - 1) (drop 1 values))) ≡ read
maps_pushed old new m values d value read some is h pushed same =
    let rest = map view (take (length values - 1) (drop 1 values)) in
    ap (λ (l : List NamedMap). maps_after (map map_value l) rest) pushed ∙ ap (λ (l : List MapValue). maps_after l rest) (map_push map_value old m)
    ∙ maps_go_on (map map_value old) values d value (map_value m) some is h ∙ same

pub maps_fail : (before : List MapValue) (values : List Value) (d value : Value) (all : List Data) (error : PlanMapsError) → 1 ≤ length values → value ≡ slice_index_or values 0 d
    → maps_after before (map view values) ≡ maps_after [] all → ReadsMapAt before (view value) (Err error) → ReadsMaps (Some all) (Err error)
maps_fail before values d value all (Document texts.OutOfMemory) some is same h = tt
maps_fail before values d value all (Document error) some is same h = absurd h
maps_fail before values d value all NoMaps some is same h = absurd h
maps_fail before [] d value all (Map place fault) some is same h = absurd (omega (arith, some))
maps_fail before (v ∷ values) d value all (Map place fault) some is same h =
    let first : map_of_table before (as_table (view v)) ≡ Err fault = ap (λ (x : Value). map_of_table before (as_table (view x))) (sym is) ∙ h.1 in
    sym same ∙ ap (λ (r : Result MapValue MapTableFault). placed (length before + 1) r (λ m. maps_after (before ++ m ∷ []) (map view values))) first
    ∙ ap (λ (n : ℕ). Err (n, fault)) (sym h.0)

-- ---- keys as elements

pub keys_go_on : (known more : List Known) (keys : List NamedKey) (d key : NamedKey) → 1 ≤ length keys → key ≡ slice_index_or keys 0 d → with_entry known (known_key (key_value key)) ≡ Ok more
    → with_keys more (map key_value (take (length keys - 1) (drop 1 keys))) ≡ with_keys known (map key_value keys)
keys_go_on known more [] d key some is h = absurd (omega (arith, some))
keys_go_on known more (k ∷ keys) d key some is h =
    let first : with_entry known (known_key (key_value k)) ≡ Ok more = ap (λ (x : NamedKey). with_entry known (known_key (key_value x))) (sym is) ∙ h in
    ap (λ (xs : List NamedKey). with_keys more (map key_value xs)) (rest_of k keys)
    ∙ sym (ap (λ (r : Read (List Known)). and_then r (λ more. with_keys more (map key_value keys))) first)

pub keys_fail : (known : List Known) (keys : List NamedKey) (d key : NamedKey) (read : Read (List Known)) (fault : ElementsFault) → 1 ≤ length keys → key ≡ slice_index_or keys 0 d → with_keys known (map key_value keys) ≡ read
    → Fails fault (with_entry known (known_key (key_value key))) → Fails fault read
keys_fail known [] d key read fault some is same h = absurd (omega (arith, some))
keys_fail known (k ∷ keys) d key read fault some is same h =
    let first : Fails fault (with_entry known (known_key (key_value k))) = subst (λ (x : NamedKey). Fails fault (with_entry known (known_key (key_value x)))) is h in
    subst (Fails fault) same (fails_then fault _ (λ more. with_keys more (map key_value keys)) first)
