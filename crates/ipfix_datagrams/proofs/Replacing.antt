-- Templates by their ids, and those that they replace.
use Rattle.std.proofs.Common.{◌≡◌, ℕ, Bool, true, false, cond, List, [], ◌∷◌, ◌++◌, append_assoc, map, length, Option, Some, None, refl, sym, ap, ap₂, subst, ◌∙◌, arith}
use Rattle.std.specs.Prelude.{All, Contains, flat_map, not, ◌==◌}
use Rattle.std.specs.Bool.{Decides}
use Rattle.std.specs.List.Sorted.{IsStrictlySortedBy}
use Rattle.std.specs.Ordering.{nat_cmp}
use Rattle.std.specs.BTreeMap.{BTreeMap, get, values, IsOrdered}
use Rattle.std.proofs.lemmas.List.{append-nil, length-map, get_or-map}
use Rattle.std.proofs.lemmas.Cmp.{nat_cmp_total}
use Rattle.std.proofs.lemmas.Map.Lookups.{exact_unsigned}
use Rattle.std.proofs.lemmas.Map.Views.{All-found, btree_map_get_iff}
use Rattle.std.proofs.lemmas.List.Elements.{All-nil, All-cons, All-head, All-tail, All-append, All-map, All-weaker}
use Rattle.ipfix_message.specs.declared.record.Template.{Template}
use Rattle.ipfix_message.specs.TemplatesInForce.{same_template}
use Rattle.ipfix_message.specs.WrittenTemplates.{IsTemplate}
use Rattle.ipfix_message.specs.Domains.{History, events_in, template_for}
use Rattle.ipfix_message.proofs.Same.{is_same_template}
use Rattle.ipfix_datagrams.specs.declared.withdrawn_template.WithdrawnTemplate.{WithdrawnTemplate}
use Rattle.ipfix_datagrams.specs.Withdrawals.{HasTemplateId}
use Rattle.ipfix_datagrams.specs.Datagrams.{AreTemplatesOf, replaced, replaced_by}
use Rattle.ipfix_datagrams.proofs.Readings.{template_is}

-- ---- by their ids

-- the ids of a map's templates are its keys
ids_are : (es : List (ℕ × Template)) → All (λ e. e.1.id ≡ e.0) es → map (λ (t : Template). t.id) (map (λ (e : ℕ × Template). e.1) es) ≡ map (λ (e : ℕ × Template). e.0) es
ids_are [] all = refl
ids_are (e ∷ es) all = ap₂ (λ (i : ℕ) (is : List ℕ). i ∷ is) (All-head (λ f. f.1.id ≡ f.0) e es all) (ids_are es (All-tail (λ f. f.1.id ≡ f.0) e es all))

each_id : (m : BTreeMap ℕ Template) (f : ℕ → Option Template) (es : List (ℕ × Template)) → ((id : ℕ) (t : Template) → f id ≡ Some t → t.id ≡ id) → ((id : ℕ) → get nat_cmp m id ≡ f id)
    → All (λ e. get nat_cmp m e.0 ≡ Some e.1) es → All (λ e. e.1.id ≡ e.0) es
each_id m f [] of_id same all = All-nil (λ e. e.1.id ≡ e.0)
each_id m f (e ∷ es) of_id same all =
    All-cons (λ g. g.1.id ≡ g.0) e es (of_id e.0 e.1 (sym (same e.0) ∙ All-head (λ g. get nat_cmp m g.0 ≡ Some g.1) e es all)) (each_id m f es of_id same (All-tail (λ g. get nat_cmp m g.0 ≡ Some g.1) e es all))

pub contains_map : {X Y : Type 0} (f : X → Y) (xs : List X) (x : X) → Contains xs x → Contains (map f xs) (f x)
contains_map f xs x c = let size : length (map f xs) ≡ length xs = length-map _ _ in (c.0, omega (arith, c.1, size), get_or-map f xs c.0 x (f x) c.1 ∙ ap f c.2)

-- the templates of a map that has at each id what f has
pub are_templates : (f : ℕ → Option Template) (ts : BTreeMap ℕ Template) → ((id : ℕ) (t : Template) → f id ≡ Some t → t.id ≡ id) → IsOrdered nat_cmp ts → ((id : ℕ) → get nat_cmp ts id ≡ f id) → AreTemplatesOf f (values ts)
are_templates f ts of_id ordered same = record {
  each = All-map (λ t. f t.id ≡ Some t) (λ (e : ℕ × Template). e.1) ts.entries (All-weaker (λ e. get nat_cmp ts e.0 ≡ Some e.1) (λ e. f e.1.id ≡ Some e.1) (λ e found.
      let there : f e.0 ≡ Some e.1 = sym (same e.0) ∙ found in
      ap f (of_id e.0 e.1 there) ∙ there) ts.entries (All-found nat_cmp_total ts ordered));
  all = λ t there. contains_map (λ (e : ℕ × Template). e.1) ts.entries (t.id, t) ((btree_map_get_iff nat_cmp_total exact_unsigned ts ordered t.id t).0 (same t.id ∙ there));
  ascending = subst (IsStrictlySortedBy nat_cmp) (sym (ids_are ts.entries (each_id ts f ts.entries of_id same (All-found nat_cmp_total ts ordered)))) ordered;
}

-- ---- what they replace

-- where a template is in force
pub nothing_replaced : (t u : Template) (o : Option Template) (b : Bool) (old : List WithdrawnTemplate) → o ≡ Some u → Decides b (t ≡ u) → b ≡ true → old ≡ old ++ replaced_by t o
nothing_replaced t u o b old found decides same =
    let is : same_template t u ≡ true = sym (is_same_template b t u decides) ∙ same in
    rw (found, is) (sym (append-nil old))

pub other_replaced : (t u : Template) (o : Option Template) (b : Bool) (old new : List WithdrawnTemplate) → o ≡ Some u → Decides b (t ≡ u) → b ≡ false → new ≡ old ++ record { id = t.id; is_options = not (u.scope == 0) } ∷ [] → new ≡ old ++ replaced_by t o
other_replaced t u o b old new found decides other pushed =
    let is : same_template t u ≡ false = sym (is_same_template b t u decides) ∙ other in
    rw (found, is) pushed

-- their ids are those of templates
low_by : (t : Template) (o : Option Template) → HasTemplateId (record { id = t.id; is_options = false }) → All HasTemplateId (replaced_by t o)
low_by t None low = All-nil HasTemplateId
low_by t (Some u) low = by_test (same_template t u)
  where
    by_test : (b : Bool) → All HasTemplateId (cond b [] (record { id = t.id; is_options = not (u.scope == 0) } ∷ []))
    by_test true = All-nil HasTemplateId
    by_test false = All-cons HasTemplateId (record { id = t.id; is_options = not (u.scope == 0) }) [] low (All-nil HasTemplateId)

pub ids_low : (f : Template → Option Template) (ts : List Template) → All IsTemplate ts → All HasTemplateId (flat_map (λ t. replaced_by t (f t)) ts)
ids_low f [] are = All-nil HasTemplateId
ids_low f (t ∷ ts) are =
    let is = All-head IsTemplate t ts are in
    All-append HasTemplateId (replaced_by t (f t)) (flat_map (λ u. replaced_by u (f u)) ts) (low_by t (f t) (is.lowest, is.highest)) (ids_low f ts (All-tail IsTemplate t ts are))

-- the same templates in force
pub replaced_in : (f : Template → Option Template) (ds : History) (domain : ℕ) (ts : List Template) → ((t : Template) → f t ≡ template_for ds domain t.id) → flat_map (λ t. replaced_by t (f t)) ts ≡ replaced (events_in ds domain) ts
replaced_in f ds domain [] same = refl
replaced_in f ds domain (t ∷ ts) same = ap₂ (λ (v w : List WithdrawnTemplate). v ++ w) (ap (replaced_by t) (same t ∙ template_is ds domain t.id)) (replaced_in f ds domain ts same)

-- one template more of a loop over them
pub replaced_more : (f : Template → List WithdrawnTemplate) (all old new : List WithdrawnTemplate) (t u : Template) (ts rest : List Template) → ts ≡ t ∷ rest → u ≡ t → new ≡ old ++ f u → old ++ flat_map f ts ≡ all → new ++ flat_map f rest ≡ all
replaced_more f all old new t u ts rest step same pushed so_far =
    ap (λ (w : List WithdrawnTemplate). w ++ flat_map f rest) (pushed ∙ ap (λ (x : Template). old ++ f x) same) ∙ append_assoc old (f t) (flat_map f rest)
    ∙ ap (λ (xs : List Template). old ++ flat_map f xs) (sym step) ∙ so_far
