-- The members of a document, and the entries of the map that holds them.
use Rattle.std.proofs.Common.{◌≡◌, ℕ, Bool, true, false, cond, List, [], ◌∷◌, map, Option, Some, None, option_map, String, Global, nat_cmp, string_bytes, refl, ap, ◌∙◌}
use Rattle.std.specs.Prelude.{not, find}
use Rattle.std.specs.BTreeMap.{is_at}
use Rattle.std.specs.Cmp.Lexicographic.{slice_cmp}
use Rattle.std.specs.Map.{lookup, remove_entry}
use denote.Bor.{Bor}
use Rattle.toml.specs.Data.{Members, member, get_member, same_key}
use Rattle.toml.specs.View.{members_view, view}
use Rattle.toml.specs.declared.value.Value.{Value}
use Rattle.toml.proofs.Views.{view-lookup}
use Rattle.flow_plan.specs.Places.{names}
use Rattle.flow_plan_fields.specs.FilteredPlans.{where_key, map_key, sampling_key, without, plan_members}

-- ---- the first name that fails a test

choice : {A B : Type 0} (f : A → B) (b : Bool) (x : A) (rest : Option A) (more : Option B) → option_map f rest ≡ more → option_map f (cond b (Some x) rest) ≡ cond b (Some (f x)) more
choice f true x rest more h = refl
choice f false x rest more h = h

found_names : (p : List ℕ → Bool) (es : List (String Global × Value)) → option_map string_bytes (find (λ k. not (p (string_bytes k))) (map (λ e. e.0) es)) ≡ find (λ name. not (p name)) (names (members_view es))
found_names p [] = refl
found_names p (e ∷ es) = choice string_bytes (not (p (string_bytes e.0))) e.0 _ _ (found_names p es)

lent : (r : Option (Bor (String Global))) → option_map (λ name. string_bytes name.now) r ≡ option_map string_bytes (option_map (λ name. name.now) r)
lent None = refl
lent (Some name) = refl

pub unknown_names : (p : List ℕ → Bool) (es : List (String Global × Value)) (r : Option (Bor (String Global))) → option_map (λ name. name.now) r ≡ find (λ k. not (p (string_bytes k))) (map (λ e. e.0) es)
    → option_map (λ name. string_bytes name.now) r ≡ find (λ name. not (p name)) (names (members_view es))
unknown_names p es r h = lent r ∙ ap (option_map string_bytes) h ∙ found_names p es

-- ---- without a member

chosen : (b : Bool) (es : List (String Global × Value)) (e : String Global × Value) (rest : List (String Global × Value)) (d : Members) → members_view rest ≡ d
    → members_view (cond b es (e ∷ rest)) ≡ cond b (members_view es) (member (string_bytes e.0) (view e.1) d)
chosen true es e rest d h = refl
chosen false es e rest d h = ap (λ (m : Members). member (string_bytes e.0) (view e.1) m) h

pub view-without : (name : List ℕ) (es : List (String Global × Value)) → members_view (remove_entry (is_at (λ k. slice_cmp nat_cmp name (string_bytes k))) es) ≡ without name (members_view es)
view-without name [] = refl
view-without name (e ∷ es) = chosen (same_key name (string_bytes e.0)) es e _ _ (view-without name es)

-- what was removed, and what is left
pub left : (es others more rest : List (String Global × Value)) → others ≡ remove_entry (is_at (λ k. slice_cmp nat_cmp where_key (string_bytes k))) es
    → more ≡ remove_entry (is_at (λ k. slice_cmp nat_cmp map_key (string_bytes k))) others → rest ≡ remove_entry (is_at (λ k. slice_cmp nat_cmp sampling_key (string_bytes k))) more
    → members_view rest ≡ plan_members (members_view es)
left es others more rest without_where without_maps is =
    ap members_view is ∙ view-without sampling_key more
    ∙ ap (without sampling_key) (ap members_view without_maps ∙ view-without map_key others ∙ ap (without map_key) (ap members_view without_where ∙ view-without where_key es))

pub removed : (es : List (String Global × Value)) (value : Option Value) → value ≡ lookup (is_at (λ k. slice_cmp nat_cmp where_key (string_bytes k))) es → option_map view value ≡ get_member where_key (members_view es)
removed es value is = ap (option_map view) is ∙ view-lookup where_key es
