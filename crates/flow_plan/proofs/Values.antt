-- The keys of a document.
use Rattle.std.proofs.Common.{◌≡◌, ℕ, Bool, true, false, cond, List, [], ◌∷◌, ◌&&◌, map, Option, Some, None, option_map, refl, sym, ap, ◌∙◌}
use Rattle.std.specs.Prelude.{String, string_bytes, not, find}
use Rattle.std.specs.declared.alloc.Global.{Global}
use Rattle.std.proofs.lemmas.Option.{none-some}
use denote.Bor.{Bor}
use Rattle.toml.specs.Data.{Members, no_members, member}
use Rattle.toml.specs.View.{members_view}
use Rattle.toml.specs.declared.value.Value.{Value}
use Rattle.flow_plan.specs.PlanTexts.{is_field, has_known_fields}
use Rattle.flow_plan.specs.Places.{unknown_field}

choice : {A B : Type 0} (f : A → B) (b : Bool) (x : A) (rest : Option A) (more : Option B) → option_map f rest ≡ more → option_map f (cond b (Some x) rest) ≡ cond b (Some (f x)) more
choice f true x rest more h = refl
choice f false x rest more h = h

found_names : (es : List (String Global × Value)) → option_map string_bytes (find (λ k. not (is_field (string_bytes k))) (map (λ e. e.0) es)) ≡ unknown_field (members_view es)
found_names [] = refl
found_names (e ∷ es) = choice string_bytes (not (is_field (string_bytes e.0))) e.0 _ _ (found_names es)

lent : (r : Option (Bor (String Global))) → option_map (λ name. string_bytes name.now) r ≡ option_map string_bytes (option_map (λ name. name.now) r)
lent None = refl
lent (Some name) = refl

pub unknown_names : (es : List (String Global × Value)) (r : Option (Bor (String Global))) → option_map (λ name. name.now) r ≡ find (λ k. not (is_field (string_bytes k))) (map (λ e. e.0) es)
    → option_map (λ name. string_bytes name.now) r ≡ unknown_field (members_view es)
unknown_names es r h = lent r ∙ ap (option_map string_bytes) h ∙ found_names es

-- ---- a document has the keys of a plan alone, or one that is none

known_step : (b rest : Bool) (x : List ℕ) (more : Option (List ℕ)) → cond (not b) (Some x) more ≡ None → (more ≡ None → rest ≡ true) → (b && rest) ≡ true
known_step true rest x more h next = next h
known_step false rest x more h next = absurd (none-some x (sym h))

pub all_known : (d : Members) → unknown_field d ≡ None → has_known_fields d ≡ true
all_known no_members h = refl
all_known (member name value rest) h = known_step (is_field name) (has_known_fields rest) name (unknown_field rest) h (all_known rest)

unknown_step : (b rest : Bool) (x s : List ℕ) (more : Option (List ℕ)) → cond (not b) (Some x) more ≡ Some s → (more ≡ Some s → rest ≡ false) → (b && rest) ≡ false
unknown_step true rest x s more h next = next h
unknown_step false rest x s more h next = refl

pub some_unknown : (d : Members) (s : List ℕ) → unknown_field d ≡ Some s → has_known_fields d ≡ false
some_unknown no_members s h = absurd (none-some s h)
some_unknown (member name value rest) s h = unknown_step (is_field name) (has_known_fields rest) name s (unknown_field rest) h (some_unknown rest s)
