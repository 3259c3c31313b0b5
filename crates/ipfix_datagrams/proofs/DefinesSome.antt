-- Whether a datagram defines a template, by its last definitions.
use Rattle.std.proofs.Common.{◌≡◌, ℕ, length, Bool, true, false, cond, eqb, List, [], ◌∷◌, ◌++◌, Option, Some, None, Ordering, Equal, refl, sym, ap, ap₂, ◌∙◌}
use Rattle.std.specs.Prelude.{not, reverse, ◌||◌}
use Rattle.std.specs.Cmp.{nat_cmp_is}
use Rattle.std.specs.List.{list_any}
use Rattle.std.specs.Map.{lookup}
use Rattle.std.specs.Ordering.{nat_cmp, eq_by_cmp, is_eq}
use Rattle.std.specs.BTreeMap.{BTreeMap, get}
use Rattle.std.proofs.lemmas.List.{reverse-append}
use Rattle.std.proofs.lemmas.List.Folds.{list_any-append}
use Rattle.std.proofs.lemmas.Bool.{eq-eqb}
use Rattle.ipfix_message.specs.declared.record.Template.{Template}
use Rattle.ipfix_message.specs.declared.template_record.Event.{Event}
use Rattle.ipfix_message.specs.declared.template_record.Event.TheVariants.{Define, Withdraw, WithdrawAll}
use Rattle.ipfix_datagrams.specs.Datagrams.{definition_of, defines_template, events_of_message, is_withdrawal, last_definition}

abbrev is_definition : Event → Bool
is_definition e = not (is_withdrawal e)

none_some : (t : Template) → None ≡ Some t → ⊥
none_some t e = cc

-- ---- by events

some_defined : (es : List Event) (id : ℕ) (t : Template) → definition_of es id ≡ Some t → list_any is_definition es ≡ true
unfolding definition_of
some_defined [] id t e = absurd (none_some t e)
some_defined (Define u ∷ es) id t e = refl
some_defined (Withdraw kind i ∷ es) id t e = some_defined es id t e
some_defined (WithdrawAll kind ∷ es) id t e = some_defined es id t e

none_defined : (es : List Event) → ((id : ℕ) → definition_of es id ≡ None) → list_any is_definition es ≡ false
unfolding definition_of
none_defined [] none = refl
none_defined (Define u ∷ es) none = absurd (none_some u (sym (none u.id) ∙ ap (λ (b : Bool). cond b (Some u) (definition_of es u.id)) (eq-eqb u.id u.id refl)))
none_defined (Withdraw kind i ∷ es) none = none_defined es none
none_defined (WithdrawAll kind ∷ es) none = none_defined es none

or_turned : (a b : Bool) → (a || b) ≡ (b || (a || false))
or_turned true true = refl
or_turned true false = refl
or_turned false true = refl
or_turned false false = refl

-- in either order
any_turned : (es : List Event) → list_any is_definition (reverse es) ≡ list_any is_definition es
any_turned [] = refl
any_turned (e ∷ es) =
    ap (list_any is_definition) (reverse-append (e ∷ []) es) ∙ list_any-append is_definition (reverse es) (reverse (e ∷ []))
    ∙ ap (λ (b : Bool). b || (is_definition e || false)) (any_turned es) ∙ sym (or_turned (is_definition e) (list_any is_definition es))

-- ---- by a map

itself : (k : ℕ) → eq_by_cmp nat_cmp k k ≡ true
itself k = ap is_eq (sym (nat_cmp_is k k Equal refl))

pub defines_is : (last : BTreeMap ℕ Template) (m : List ℕ) (b : Bool) → ((id : ℕ) → get nat_cmp last id ≡ last_definition m id) → (last.entries ≡ [] → b ≡ false) → ((last.entries ≡ [] → ⊥) → b ≡ true) → b ≡ defines_template m
defines_is last m b same empty some = by_entries last.entries refl
  where
    first_found : (e : ℕ × Template) (es : List (ℕ × Template)) → lookup (eq_by_cmp nat_cmp e.0) (e ∷ es) ≡ Some e.1
    first_found e es = ap (λ (c : Bool). cond c (Some e.1) (lookup (eq_by_cmp nat_cmp e.0) es)) (itself e.0)

    not_empty : (e : ℕ × Template) (es : List (ℕ × Template)) → e ∷ es ≡ [] → ⊥
    not_empty e es h = cc

    by_entries : (es : List (ℕ × Template)) → last.entries ≡ es → b ≡ defines_template m
    by_entries [] is =
        empty is ∙ sym (none_defined (reverse (events_of_message m)) (λ id. sym (same id) ∙ ap (λ (es : List (ℕ × Template)). lookup (eq_by_cmp nat_cmp id) es) is)) ∙ any_turned (events_of_message m)
    by_entries (e ∷ es) is =
        let found : get nat_cmp last e.0 ≡ Some e.1 = ap (λ (fs : List (ℕ × Template)). lookup (eq_by_cmp nat_cmp e.0) fs) is ∙ first_found e es in
        some (λ none. not_empty e es (sym is ∙ none)) ∙ sym (some_defined (reverse (events_of_message m)) e.0 e.1 (sym (same e.0) ∙ found)) ∙ any_turned (events_of_message m)

no_entries : (es : List (ℕ × Template)) → length es ≡ 0 → es ≡ []
no_entries [] e = refl
no_entries (x ∷ xs) e = absurd cc

-- it defines one where the map isn't empty
pub defines_by : (last : BTreeMap ℕ Template) (m : List ℕ) (b : Bool) → ((id : ℕ) → get nat_cmp last id ≡ last_definition m id) → (b ≡ true → length last.entries ≡ 0) → (length last.entries ≡ 0 → b ≡ true) → not b ≡ defines_template m
defines_by last m b same empty none = defines_is last m (not b) same (λ e. ap not (none (ap length e))) (λ some. by_test b refl some)
  where
    by_test : (c : Bool) → b ≡ c → (last.entries ≡ [] → ⊥) → not c ≡ true
    by_test false e some = refl
    by_test true e some = absurd (some (no_entries last.entries (empty e)))
