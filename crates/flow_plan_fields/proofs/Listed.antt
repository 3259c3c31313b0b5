-- The conditions of all [[where]].
use Rattle.std.proofs.Common.{◌≡◌, ℕ, ◌+◌, ◌<◌, List, [], ◌∷◌, ◌++◌, length, map, take, get_or, option_map, Some, Err, refl, sym, ap, ◌∙◌, subst}
use Rattle.std.specs.List.{AllZip, flat_map}
use Rattle.std.proofs.lemmas.List.{flat_map_more, map_push, take_more, take-map}
use Rattle.std.proofs.lemmas.Option.{slice_get-get_or, slice_get-map}
use Rattle.toml.specs.Data.{Data, Items, as_array}
use Rattle.toml.specs.View.{items_view, view}
use Rattle.toml.specs.declared.value.Value.{Value}
use Rattle.element_registry.specs.Registries.{Known}
use Rattle.flow_filter.specs.declared.condition.Condition.{Condition}
use Rattle.flow_plan_fields.specs.FilteredPlans.{values_of, AreConditions}
use Rattle.flow_plan_fields.specs.FilteredErrors.{AreNoConditions, IsFirstFault, IsNoFilter, PlacesFault}
use Rattle.flow_plan_fields.specs.Wheres.{conditions_of, IsNoWhere, IsWhere, ReadsWhere}
use Rattle.flow_plan.specs.declared.error.PlanTextError.TheVariants as texts
use Rattle.flow_plan_fields.specs.declared.place.FilteredPlanError.{FilteredPlanError}
use Rattle.flow_plan_fields.specs.declared.place.FilteredPlanError.TheVariants.{Plan, NoConditions}
use Rattle.flow_plan_fields.specs.declared.place.WhereFault.{WhereFault}
use Rattle.flow_plan_fields.specs.declared.place.WhereFault.TheVariants.{OutOfMemory}
use Rattle.flow_plan_fields.specs.declared.place.Sides.{Sides}

zip_more : {A B : Type 0} (P : A → B → Type 0) (xs : List A) (ys : List B) (x : A) (y : B) → AllZip P xs ys → P x y → AllZip P (xs ++ x ∷ []) (ys ++ y ∷ [])
zip_more P [] [] x y e p = (p, tt)
zip_more P [] (b ∷ ys) x y e p = absurd e
zip_more P (a ∷ xs) [] x y e p = absurd e
zip_more P (a ∷ xs) (b ∷ ys) x y e p = (e.0, zip_more P xs ys x y e.1 p)

-- one more
pub conditions_more : (known : List Known) (vs : List Value) (i : ℕ) (d : Value) (sides : Sides) (conditions more : List Condition) → i < length vs → AreConditions known (map view (take i vs)) conditions
    → IsWhere known (view (get_or vs i d)) sides → more ≡ conditions ++ conditions_of sides → AreConditions known (map view (take (i + 1) vs)) more
conditions_more known vs i d sides conditions more less are is same =
    let values : map view (take (i + 1) vs) ≡ map view (take i vs) ++ view (get_or vs i d) ∷ [] = ap (map view) (take_more vs i d less) ∙ map_push view (take i vs) (get_or vs i d) in
    let all : more ≡ flat_map conditions_of (are.0 ++ sides ∷ []) = same ∙ ap (λ (l : List Condition). l ++ conditions_of sides) are.2 ∙ flat_map_more conditions_of [] are.0 sides in
    subst (λ (l : List Data). AreConditions known l more) (sym values) (are.0 ++ sides ∷ [], zip_more (IsWhere known) (map view (take i vs)) are.0 (view (get_or vs i d)) sides are.1 is, all)

-- the values of an array, as a list
pub values_view : (vs : List Value) → values_of (items_view vs) ≡ map view vs
values_view [] = refl
values_view (v ∷ vs) = ap (λ (l : List Data). view v ∷ l) (values_view vs)

-- the first that makes none
first_here : (known : List Known) (vs : List Value) (i : ℕ) (d : Value) (fault : WhereFault) (conditions : List Condition) → i < length vs → AreConditions known (map view (take i vs)) conditions
    → IsNoWhere known (view (get_or vs i d)) fault → IsFirstFault known (map view vs) (i + 1) fault
first_here known vs i d fault conditions less are faulty =
    record {
      before = i;
      place_is = refl;
      value = view (get_or vs i d);
      here = slice_get-map view vs i ∙ ap (option_map view) (slice_get-get_or vs i d less);
      faulty = faulty;
      said = conditions;
      others = subst (λ (l : List Data). AreConditions known l conditions) (sym (take-map view i vs)) are;
    }

pub first_fault : (known : List Known) (vs : List Value) (i : ℕ) (d : Value) (fault : WhereFault) (told : FilteredPlanError) (conditions : List Condition) → i < length vs → AreConditions known (map view (take i vs)) conditions
    → ReadsWhere known (view (get_or vs i d)) (Err fault) → PlacesFault (i + 1) fault told → AreNoConditions known (map view vs) told
first_fault known vs i d OutOfMemory told conditions less are reads places = subst (AreNoConditions known (map view vs)) (sym places) tt
first_fault known vs i d fault told conditions less are reads places = subst (AreNoConditions known (map view vs)) (sym places) (first_here known vs i d fault conditions less are reads)

pub no_filter : (known : List Known) (value : Data) (items : Items) (error : FilteredPlanError) → as_array value ≡ Some items → AreNoConditions known (values_of items) error → IsNoFilter known (Some value) error
no_filter known value items (Plan texts.OutOfMemory) is h = tt
no_filter known value items NoConditions is h = absurd h
no_filter known value items error is h = (items, is, h)
