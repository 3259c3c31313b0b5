-- The templates that are defined again before a datagram.
use Rattle.std.proofs.Common.{◌≡◌, ℕ, Bool, true, false, cond, eqb, is_some, List, [], ◌∷◌, map, Option, Some, None, refl, sym, ap, ap₂, subst, ◌∙◌, length, take, drop, get_or, ◌+◌, ◌<◌, inl, inr}
use Rattle.std.specs.Prelude.{All, ◌⊎◌, ◌||◌, not}
use Rattle.std.specs.Bool.{Decides}
use Rattle.std.specs.List.{list_any}
use Rattle.std.specs.Map.{lookup}
use Rattle.std.specs.Option.{option_or, unwrap_or}
use Rattle.std.specs.Ordering.{nat_cmp}
use Rattle.std.specs.BTreeMap.{BTreeMap, get, values, IsOrdered}
use Rattle.std.proofs.lemmas.List.Elements.{All-head, All-tail}
use Rattle.std.proofs.lemmas.List.Folds.{list_any_more}
use Rattle.std.proofs.lemmas.Bool.Decides.{eqb_tells}
use Rattle.ipfix_message.specs.declared.record.Template.{Template}
use Rattle.ipfix_message.specs.declared.template_record.Event.{Event}
use Rattle.ipfix_message.specs.declared.template_record.Event.TheVariants.{Define, Withdraw}
use Rattle.ipfix_message.specs.Sets.{Set, sets_of}
use Rattle.ipfix_message.specs.TemplatesInForce.{in_force, is_other, same_template, unless_of}
use Rattle.ipfix_message.specs.Domains.{History, events_in, template_for}
use Rattle.ipfix_message.specs.Alike.{knows}
use Rattle.ipfix_message.proofs.Same.{is_same_template}
use Rattle.ipfix_datagrams.specs.declared.withdrawn_template.WithdrawnTemplate.{WithdrawnTemplate}
use Rattle.ipfix_datagrams.specs.Withdrawals.{kind_withdrawn}
use Rattle.ipfix_datagrams.specs.Datagrams.{AreTemplatesOf, KeepsWithdrawn, definition_of, first_definition, known_in, withdrawn_in, with_one_withdrawn, with_withdrawn, has_data_set, is_barred, unless_barred, unless_other, again, template_in}
use Rattle.ipfix_datagrams.specs.Attempts.{CanDefine, HasFirst, MayWithdraw}
use Rattle.ipfix_datagrams.proofs.Events.{knows-events, events_now}
use Rattle.ipfix_datagrams.proofs.FirstAndLast.{none_defined, defined_id}
use Rattle.ipfix_datagrams.proofs.Readings.{template_is}
use Rattle.ipfix_datagrams.proofs.Replacing.{are_templates}

-- ---- one of them

none_is_not : (t : Template) → None ≡ Some t → ⊥
none_is_not t e = cc

if_some : (b : Bool) (o : Option Template) (t : Template) → cond b o None ≡ Some t → o ≡ Some t
if_some true o t e = e
if_some false o t e = absurd (none_is_not t e)

unless_is : (o p : Option Template) (t : Template) → unless_other o p ≡ Some t → o ≡ Some t
unless_is None p t e = e
unless_is (Some u) p t e = by_test (is_other u p) e
  where
    by_test : (b : Bool) → cond b None (Some u) ≡ Some t → Some u ≡ Some t
    by_test true h = absurd (none_is_not t h)
    by_test false h = h

unless_some : (o over : Option Template) (t : Template) → cond (is_some o) None over ≡ Some t → (o ≡ None) × (over ≡ Some t)
unless_some None over t e = (refl, e)
unless_some (Some u) over t e = absurd (none_is_not t e)

barred_is : (b : Bool) (o : Option Template) (t : Template) → cond b None o ≡ Some t → o ≡ Some t
barred_is true o t e = absurd (none_is_not t e)
barred_is false o t e = e

-- it is known over UDP, and isn't in force in the files
pub again_is : (barred : List ℕ) (ds : History) (m : List ℕ) (domain id : ℕ) (t : Template) → again barred ds m domain id ≡ Some t → (template_for ds domain id ≡ None) × (known_in ds domain id ≡ Some t)
again_is barred ds m domain id t e =
    let first = first_definition m id in
    let o = withdrawn_in ds domain id in
    unless_some (template_for ds domain id) (known_in ds domain id) t
    (unless_is o first t (barred_is (is_barred barred first id) (unless_other o first) t (if_some (has_data_set m id) (unless_barred barred o first id) t e)))

pub of_id : (barred : List ℕ) (ds : History) (m : List ℕ) (domain id : ℕ) (t : Template) → again barred ds m domain id ≡ Some t → t.id ≡ id
of_id barred ds m domain id t e = defined_id (events_in ds domain) id t (again_is barred ds m domain id t e).1

-- ---- they can be defined

-- at the id of each none is in force, or the same
abbrev pub FreeFor : (ℕ → Option Template) → List Event → Type 0
FreeFor f es = (id : ℕ) (t : Template) → f id ≡ Some t → (in_force es id ≡ None) ⊎ (in_force es id ≡ Some t)

free_more : (f : ℕ → Option Template) (es : List Event) (t : Template) → FreeFor f es → f t.id ≡ Some t → FreeFor f (Define t ∷ es)
unfolding in_force
free_more f es t free is = λ id u there. elim (eqb_tells id t.id) [
  | inl here ↦ rw here.0 (inr (sym is ∙ ap f (sym here.1) ∙ there))
  | inr other ↦ rw other.0 (free id u there)
]

pub can_define_all : (f : ℕ → Option Template) (es : List Event) (ts : List Template) → FreeFor f es → All (λ t. f t.id ≡ Some t) ts → CanDefine es ts
can_define_all f es [] free all = tt
can_define_all f es (t ∷ ts) free all =
    let is = All-head (λ u. f u.id ≡ Some u) t ts all in
    (free t.id t is, can_define_all f (Define t ∷ es) ts (free_more f es t free is) (All-tail (λ u. f u.id ≡ Some u) t ts all))

-- what isn't in force isn't after a withdrawal
none_more : (es : List Event) (w : WithdrawnTemplate) (id : ℕ) → in_force es id ≡ None → in_force (Withdraw (kind_withdrawn w) w.id ∷ es) id ≡ None
unfolding in_force
none_more es w id none = by_test (eqb id w.id)
  where
    by_test : (b : Bool) → cond b (unless_of (kind_withdrawn w) (in_force es id)) (in_force es id) ≡ None
    by_test true = ap (unless_of (kind_withdrawn w)) none
    by_test false = none

none_known : (ds : History) (domain : ℕ) (ws : List WithdrawnTemplate) (id : ℕ) → knows ds domain ≡ true → in_force (events_in ds domain) id ≡ None → in_force (events_in (with_withdrawn ds domain ws) domain) id ≡ None
none_known ds domain [] id there none = none
none_known ds domain (w ∷ ws) id there none =
    let es = Withdraw (kind_withdrawn w) w.id ∷ events_in ds domain in
    none_known (with_one_withdrawn ds domain w) domain ws id (knows-events ds domain domain es ∙ there)
    (ap (λ (fs : List Event). in_force fs id) (events_now ds domain es there) ∙ none_more (events_in ds domain) w id none)

pub none_left : (ds : History) (domain : ℕ) (ws : List WithdrawnTemplate) (id : ℕ) → MayWithdraw ds domain ws → in_force (events_in ds domain) id ≡ None → in_force (events_in (with_withdrawn ds domain ws) domain) id ≡ None
none_left ds domain ws id (inl none) free = subst (λ (vs : List WithdrawnTemplate). in_force (events_in (with_withdrawn ds domain vs) domain) id ≡ None) (sym none) free
none_left ds domain ws id (inr there) free = none_known ds domain ws id there free

-- ---- those with data sets

pub not_replaced : (t u : Template) (o : Option Template) (b : Bool) → o ≡ Some u → Decides b (t ≡ u) → not b ≡ is_other t o
not_replaced t u o b found decides = let same : same_template t u ≡ b = sym (is_same_template b t u decides) in rw (found, same) refl

again_step : (b c : Bool) (o : Option Template) → option_or (cond c o None) (cond b o None) ≡ cond (b || c) o None
again_step true true None = refl
again_step true true (Some t) = refl
again_step true false o = refl
again_step false true None = refl
again_step false true (Some t) = refl
again_step false false o = refl

-- one id more of a loop over them
pub one_more_again : (f old new : ℕ → Option Template) (ids : List ℕ) (i : ℕ) → i < length ids → ((q : ℕ) → old q ≡ cond (list_any (λ id. eqb q id) (take i ids)) (f q) None)
    → ((q : ℕ) → new q ≡ option_or (cond (eqb q (get_or ids i 0)) (f q) None) (old q)) → (q : ℕ) → new q ≡ cond (list_any (λ id. eqb q id) (take (i + 1) ids)) (f q) None
one_more_again f old new ids i more so_far is q =
    is q ∙ ap (option_or (cond (eqb q (get_or ids i 0)) (f q) None)) (so_far q) ∙ again_step (list_any (λ id. eqb q id) (take i ids)) (eqb q (get_or ids i 0)) (f q)
    ∙ ap (λ (b : Bool). cond b (f q) None) (sym (list_any_more (λ id. eqb q id) ids i 0 more))

-- ---- by what is kept

-- a set of this id is one of those with these ids
data_set_is : (ss : List Set) (id : ℕ) → list_any (λ i. eqb id i) (map (λ (s : Set). s.id) ss) ≡ list_any (λ s. eqb id s.id) ss
data_set_is [] id = refl
data_set_is (s ∷ ss) id = ap (λ (b : Bool). eqb id s.id || b) (data_set_is ss id)

pub again_in : (barred : List ℕ) (ds : History) (m : List ℕ) (domain : ℕ) (kept : BTreeMap ℕ (BTreeMap ℕ Template)) (ts first : BTreeMap ℕ Template) (ids : List ℕ) → KeepsWithdrawn kept ds → get nat_cmp kept domain ≡ Some ts
    → ids ≡ map (λ s. s.id) (sets_of (drop 16 m)).items → HasFirst first m → (id : ℕ) → cond (list_any (λ i. eqb id i) ids) (unless_barred barred (get nat_cmp ts id) (get nat_cmp first id) id) None ≡ again barred ds m domain id
again_in barred ds m domain kept ts first ids keeps found are firsts id =
    let at : get nat_cmp ts id ≡ withdrawn_in ds domain id = sym (ap (λ (o : Option (BTreeMap ℕ Template)). template_in o id) found) ∙ keeps.at domain id in
    ap (λ (is : List ℕ). cond (list_any (λ i. eqb id i) is) (unless_barred barred (get nat_cmp ts id) (get nat_cmp first id) id) None) are
    ∙ ap (λ (b : Bool). cond b (unless_barred barred (get nat_cmp ts id) (get nat_cmp first id) id) None) (data_set_is (sets_of (drop 16 m)).items id)
    ∙ ap₂ (λ (a b : Option Template). cond (has_data_set m id) (unless_barred barred a b id) None) at (firsts.at id)

-- where nothing is kept of a domain
pub none_again : (barred : List ℕ) (ds : History) (m : List ℕ) (domain : ℕ) (kept : BTreeMap ℕ (BTreeMap ℕ Template)) → KeepsWithdrawn kept ds → get nat_cmp kept domain ≡ None → (id : ℕ) → None ≡ again barred ds m domain id
none_again barred ds m domain kept keeps none id =
    let first = first_definition m id in
    let at : withdrawn_in ds domain id ≡ None = sym (keeps.at domain id) ∙ ap (λ (o : Option (BTreeMap ℕ Template)). template_in o id) none in
    never (has_data_set m id) (is_barred barred first id) first ∙ ap (λ (o : Option Template). cond (has_data_set m id) (unless_barred barred o first id) None) (sym at)
  where
    never : (b c : Bool) (o : Option Template) → None ≡ cond b (cond c None (unless_other None o)) None
    never true true o = refl
    never true false o = refl
    never false c o = refl
