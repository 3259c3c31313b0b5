-- The templates that are resumed before a datagram, beside those that are defined again.
use Rattle.std.proofs.Common.{◌≡◌, ℕ, Bool, true, false, cond, eqb, is_some, List, [], ◌∷◌, ◌++◌, map, Option, Some, None, refl, sym, ap, ap₂, subst, ◌∙◌, inl, inr}
use Rattle.std.specs.Prelude.{All, ◌⊎◌, ◌&&◌, not, reverse, option_copied}
use Rattle.std.specs.List.{find}
use Rattle.std.specs.Option.{option_or}
use Rattle.std.specs.Ordering.{nat_cmp}
use Rattle.std.specs.BTreeMap.{BTreeMap, get, values, IsOrdered}
use Rattle.std.proofs.lemmas.List.Elements.{All-head, All-tail}
use Rattle.std.proofs.lemmas.Bool.Decides.{eqb_tells}
use Rattle.ipfix_message.specs.declared.record.Template.{Template}
use Rattle.ipfix_message.specs.declared.template_record.Event.{Event}
use Rattle.ipfix_message.specs.declared.template_record.Event.TheVariants.{Define}
use Rattle.ipfix_message.specs.TemplatesInForce.{in_force, is_other}
use Rattle.ipfix_message.specs.Domains.{History, events_in, template_for}
use Rattle.ipfix_message.specs.Alike.{knows}
use Rattle.ipfix_datagrams.specs.declared.withdrawn_template.WithdrawnTemplate.{WithdrawnTemplate}
use Rattle.ipfix_datagrams.specs.Datagrams.{AreTemplatesOf, Basis, KeepsWithdrawn, definition_of, first_definition, known_in, withdrawn_in, with_withdrawn, again, is_open, resumed_before, defined_before, template_at, template_in}
use Rattle.ipfix_datagrams.specs.Attempts.{CanDefine, HasFirst, MayWithdraw, is_open_by, resumed_by}
use Rattle.ipfix_datagrams.proofs.DefinedAgain.{FreeFor, again_is, can_define_all, none_left, of_id}
use Rattle.ipfix_datagrams.proofs.InForce.{in_force_known, known_or}
use Rattle.ipfix_datagrams.proofs.Readings.{template_is}
use Rattle.ipfix_datagrams.proofs.Replacing.{are_templates}

-- ---- one of them

none_some : (t : Template) → None ≡ Some t → ⊥
none_some t e = cc

some_is : (t u : Template) → Some t ≡ Some u → t ≡ u
some_is t u e = cc

-- what is found passes
found_passes : (test : Template → Bool) (ts : List Template) (t : Template) → find test ts ≡ Some t → test t ≡ true
found_passes test [] t e = absurd (none_some t e)
found_passes test (u ∷ us) t e = by_test (test u) refl e (found_passes test us t)
  where
    by_test : (b : Bool) → test u ≡ b → cond b (Some u) (find test us) ≡ Some t → (find test us ≡ Some t → test t ≡ true) → test t ≡ true
    by_test true is h later = ap test (sym (some_is u t h)) ∙ is
    by_test false is h later = later h

both_are : (a b : Bool) → (a && b) ≡ true → (a ≡ true) × (b ≡ true)
both_are true b e = (refl, e)
both_are false b e = absurd cc

not_some : (o : Option Template) (b : Bool) → (not (is_some o) && b) ≡ true → o ≡ None
not_some None b e = refl
not_some (Some t) b e = absurd cc

id_is : (q i : ℕ) → eqb q i ≡ true → q ≡ i
id_is q i e = elim (eqb_tells q i) [ inl here ↦ here.1 | inr other ↦ let no : false ≡ true = sym other.0 ∙ e in absurd cc ]

-- it has the id, and the files don't define that
resumed_is : (resumed : List Template) (ds : History) (m : List ℕ) (domain id : ℕ) (t : Template) → resumed_before resumed ds m domain id ≡ Some t → (t.id ≡ id) × (known_in ds domain id ≡ None)
resumed_is resumed ds m domain id t e =
    let passes = both_are (eqb id t.id) (is_open ds m domain t) (found_passes (λ u. eqb id u.id && is_open ds m domain u) resumed t e) in
    let same : id ≡ t.id = id_is id t.id passes.0 in
    (sym same, ap (known_in ds domain) same ∙ not_some (known_in ds domain t.id) (not (is_other t (first_definition m t.id))) passes.1)

-- what isn't known isn't in force
unknown_not : (ds : History) (domain id : ℕ) → known_in ds domain id ≡ None → template_for ds domain id ≡ None
unknown_not ds domain id none = by_cases (template_for ds domain id) refl
  where
    by_cases : (o : Option Template) → template_for ds domain id ≡ o → o ≡ None
    by_cases None e = refl
    by_cases (Some t) e = absurd (none_some t (sym none ∙ in_force_known (events_in ds domain) id t (sym (template_is ds domain id) ∙ e)))

-- ---- one of all

either : (o p : Option Template) (t : Template) → option_or o p ≡ Some t → (o ≡ Some t) ⊎ (p ≡ Some t)
either None p t e = inr e
either (Some u) p t e = inl e

pub before_id : (basis : Basis) (ds : History) (m : List ℕ) (domain id : ℕ) (t : Template) → defined_before basis ds m domain id ≡ Some t → t.id ≡ id
before_id basis ds m domain id t e = elim (either (again basis.barred ds m domain id) (resumed_before basis.resumed ds m domain id) t e) [
  | inl a ↦ of_id basis.barred ds m domain id t a
  | inr r ↦ (resumed_is basis.resumed ds m domain id t r).0
]

before_free : (basis : Basis) (ds : History) (m : List ℕ) (domain id : ℕ) (t : Template) → defined_before basis ds m domain id ≡ Some t → template_for ds domain id ≡ None
before_free basis ds m domain id t e = elim (either (again basis.barred ds m domain id) (resumed_before basis.resumed ds m domain id) t e) [
  | inl a ↦ (again_is basis.barred ds m domain id t a).0
  | inr r ↦ unknown_not ds domain id (resumed_is basis.resumed ds m domain id t r).1
]

-- ---- all of them

pub are_before : (basis : Basis) (ds : History) (m : List ℕ) (domain : ℕ) (ts : BTreeMap ℕ Template) → IsOrdered nat_cmp ts → ((id : ℕ) → get nat_cmp ts id ≡ defined_before basis ds m domain id)
    → AreTemplatesOf (defined_before basis ds m domain) (values ts)
are_before basis ds m domain ts ordered same = are_templates (defined_before basis ds m domain) ts (before_id basis ds m domain) ordered same

-- they can be defined
pub can_define : (basis : Basis) (ds : History) (m : List ℕ) (domain : ℕ) (ws : List WithdrawnTemplate) (ts : List Template) → MayWithdraw ds domain ws → AreTemplatesOf (defined_before basis ds m domain) ts
    → CanDefine (events_in (with_withdrawn ds domain ws) domain) ts
can_define basis ds m domain ws ts may are =
    can_define_all (defined_before basis ds m domain) (events_in (with_withdrawn ds domain ws) domain) ts
    (λ id t is. inl (none_left ds domain ws id may (sym (template_is ds domain id) ∙ before_free basis ds m domain id t is))) are.each

-- ---- by what is kept

unknown_by : (a b : Option Template) → not (is_some (option_or a b)) ≡ (not (is_some a) && not (is_some b))
unknown_by None b = refl
unknown_by (Some t) b = refl

and_same : (a b c : Bool) → ((a && b) && c) ≡ (a && (b && c))
and_same true b c = refl
and_same false b c = refl

-- the code's test is the one that is said
open_is : (ds : History) (m : List ℕ) (domain : ℕ) (t : Template) (f w o : Option Template) → f ≡ template_for ds domain t.id → w ≡ withdrawn_in ds domain t.id → o ≡ first_definition m t.id → is_open_by f w o t ≡ is_open ds m domain t
open_is ds m domain t f w o is_in is_out is_first =
    sym (and_same (not (is_some f)) (not (is_some w)) (not (is_other t o))) ∙ ap (λ (b : Bool). b && not (is_other t o)) (sym (unknown_by f w))
    ∙ ap₂ (λ (k : Option Template) (p : Option Template). not (is_some k) && not (is_other t p)) (ap₂ (λ (a b : Option Template). option_or a b) is_in is_out ∙ sym (known_or ds domain t.id)) is_first

find_same : (test other : Template → Bool) (ts : List Template) → ((t : Template) → test t ≡ other t) → find test ts ≡ find other ts
find_same test other [] same = refl
find_same test other (t ∷ ts) same = ap₂ (λ (b : Bool) (o : Option Template). cond b (Some t) o) (same t) (find_same test other ts same)

pub resumed_in : (resumed : List Template) (ds : History) (m : List ℕ) (domain : ℕ) (inforce withdrawn first : ℕ → Option Template) → ((id : ℕ) → inforce id ≡ template_for ds domain id) → ((id : ℕ) → withdrawn id ≡ withdrawn_in ds domain id)
    → ((id : ℕ) → first id ≡ first_definition m id) → (id : ℕ) → resumed_by inforce withdrawn first resumed id ≡ resumed_before resumed ds m domain id
resumed_in resumed ds m domain inforce withdrawn first ins outs firsts id =
    find_same (λ t. eqb id t.id && is_open_by (inforce t.id) (withdrawn t.id) (first t.id) t) (λ t. eqb id t.id && is_open ds m domain t) resumed
    (λ t. ap (λ (b : Bool). eqb id t.id && b) (open_is ds m domain t (inforce t.id) (withdrawn t.id) (first t.id) (ins t.id) (outs t.id) (firsts t.id)))

-- ---- the loop over them

step_is : (b c : Bool) (t : Template) (old rest : Option Template) → option_or (option_or old (cond c (cond b (Some t) None) None)) rest ≡ option_or old (cond (b && c) (Some t) rest)
step_is true true t None rest = refl
step_is true false t None rest = refl
step_is false true t None rest = refl
step_is false false t None rest = refl
step_is b c t (Some u) rest = first b c
  where
    first : (b c : Bool) → option_or (option_or (Some u) (cond c (cond b (Some t) None) None)) rest ≡ Some u
    first b c = refl

pub resumed_step : (inforce withdrawn first : ℕ → Option Template) (all ts rest : List Template) (t : Template) (old now new : ℕ → Option Template) → ts ≡ t ∷ rest
    → ((q : ℕ) → option_or (now q) (resumed_by inforce withdrawn first ts q) ≡ option_or (old q) (resumed_by inforce withdrawn first all q))
    → ((q : ℕ) → new q ≡ option_or (now q) (cond (is_open_by (inforce t.id) (withdrawn t.id) (first t.id) t) (cond (eqb q t.id) (Some t) None) None))
    → (q : ℕ) → option_or (new q) (resumed_by inforce withdrawn first rest q) ≡ option_or (old q) (resumed_by inforce withdrawn first all q)
resumed_step inforce withdrawn first all ts rest t old now new step so_far is q =
    ap (λ (o : Option Template). option_or o (resumed_by inforce withdrawn first rest q)) (is q)
    ∙ step_is (eqb q t.id) (is_open_by (inforce t.id) (withdrawn t.id) (first t.id) t) t (now q) (resumed_by inforce withdrawn first rest q)
    ∙ ap (λ (us : List Template). option_or (now q) (resumed_by inforce withdrawn first us q)) (sym step) ∙ so_far q

or_nothing : (o : Option Template) → option_or o None ≡ o
or_nothing None = refl
or_nothing (Some t) = refl

pub resumed_all : (inforce withdrawn first : ℕ → Option Template) (all ts : List Template) (old now : ℕ → Option Template) → ts ≡ []
    → ((q : ℕ) → option_or (now q) (resumed_by inforce withdrawn first ts q) ≡ option_or (old q) (resumed_by inforce withdrawn first all q)) → (q : ℕ) → now q ≡ option_or (old q) (resumed_by inforce withdrawn first all q)
resumed_all inforce withdrawn first all ts old now none so_far q =
    sym (or_nothing (now q)) ∙ ap (λ (us : List Template). option_or (now q) (resumed_by inforce withdrawn first us q)) (sym none) ∙ so_far q
