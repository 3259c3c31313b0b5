-- A text that is a plan without files is the same plan with them.
use Rattle.std.proofs.Common.{◌≡◌, ℕ, Bool, true, false, cond, List, [], ◌∷◌, Option, Some, None, option_map, option_and_then, refl, sym, ap₂, ◌∙◌}
use Rattle.std.specs.Prelude.{Ok, Err}
use Rattle.std.specs.Option.{ok_or, option_or}
use Rattle.std.specs.List.{list_any, before_first, after_first}
use Rattle.std.proofs.lemmas.Option.{none-some}
use Rattle.toml.specs.Data.{Members}
use Rattle.toml.specs.Parse.{parse_document}
use Rattle.ipfix_wire.specs.declared.specifier.ElementId.{ElementId}
use Rattle.ipfix_elements.specs.Names.{element_named}
use Rattle.element_registry.specs.Registries.{Known, element_by_name}
use Rattle.element_registry.proofs.Registered.{before}
use Rattle.flow_table.specs.declared.key.Key.{Key}
use Rattle.flow_table.specs.declared.plan_fault.PlanFault.{PlanFault}
use Rattle.flow_table.specs.Plans.{PlanValue, chosen_plan, context_named}
use Rattle.flow_table.proofs.MadePlans.{kept_fault, kept_plan}
use Rattle.flow_plan.specs.declared.fault.PlanTextFault.{PlanTextFault}
use Rattle.flow_plan.specs.declared.fault.PlanTextFault.TheVariants.{NotToml, UnknownField, UnknownElement}
use Rattle.flow_plan.specs.Faults.{Read, ◌>>=◌}
use Rattle.flow_plan.specs.PlanTexts.{Fields, all_of, bits_in, checked, counters_in, fault_in, fields_of, has_known_fields, is_slash, key_element, key_named, keys_in, plan_of_document, plan_of_fields, plan_of_text, prefix_key, whole_key}

-- ---- what is named

no_more : (o : Option ElementId) → option_or o None ≡ o
no_more None = refl
no_more (Some e) = refl

element_kept : (known : List Known) (text : List ℕ) (e : ElementId) → element_by_name [] text ≡ Some e → element_by_name known text ≡ Some e
element_kept known text e h = before known text e (sym (no_more (element_named text)) ∙ h)

named_kept : (context first second : Option ElementId) (e : ElementId) → (first ≡ Some e → second ≡ Some e) → option_or context first ≡ Some e → option_or context second ≡ Some e
named_kept None first second e kept h = kept h
named_kept (Some c) first second e kept h = h

key_element_kept : (known : List Known) (text : List ℕ) (e : ElementId) → key_element [] text ≡ Some e → key_element known text ≡ Some e
key_element_kept known text e h = named_kept (context_named text) (element_by_name [] text) (element_by_name known text) e (element_kept known text e) h

chosen_kept : {X : Type 0} (b : Bool) (x y x' y' : Option X) (k : X) → (x ≡ Some k → x' ≡ Some k) → (y ≡ Some k → y' ≡ Some k) → cond b x y ≡ Some k → cond b x' y' ≡ Some k
chosen_kept true x y x' y' k first second h = first h
chosen_kept false x y x' y' k first second h = second h

chained_kept : {A B : Type 0} (o p : Option A) (f : A → Option B) (y : B) → ((x : A) → o ≡ Some x → p ≡ Some x) → option_and_then f o ≡ Some y → option_and_then f p ≡ Some y
chained_kept None p f y kept h = absurd (none-some y h)
chained_kept (Some x) p f y kept h = rw (kept x refl) h

mapped_kept : {A B : Type 0} (o p : Option A) (f : A → B) (y : B) → ((x : A) → o ≡ Some x → p ≡ Some x) → option_map f o ≡ Some y → option_map f p ≡ Some y
mapped_kept None p f y kept h = absurd (none-some y h)
mapped_kept (Some x) p f y kept h = rw (kept x refl) h

key_kept : (known : List Known) (text : List ℕ) (k : Key) → key_named [] text ≡ Some k → key_named known text ≡ Some k
key_kept known text k h =
    chosen_kept (list_any is_slash text) _ _ _ _ k
    (chained_kept (key_element [] (before_first is_slash text)) (key_element known (before_first is_slash text)) (λ element. option_map (prefix_key element) (bits_in (after_first is_slash text))) k (key_element_kept known (before_first is_slash text)))
    (mapped_kept (key_element [] text) (key_element known text) whole_key k (key_element_kept known text)) h

both_kept : {X : Type 0} (first first' : Option X) (rest rest' : Option (List X)) (ys : List X) → ((y : X) → first ≡ Some y → first' ≡ Some y) → ((zs : List X) → rest ≡ Some zs → rest' ≡ Some zs)
    → option_and_then (λ y. option_map (λ zs. y ∷ zs) rest) first ≡ Some ys → option_and_then (λ y. option_map (λ zs. y ∷ zs) rest') first' ≡ Some ys
both_kept None first' rest rest' ys here after h = absurd (none-some ys h)
both_kept (Some y) first' None rest' ys here after h = absurd (none-some ys h)
both_kept (Some y) first' (Some zs) rest' ys here after h = rw (here y refl, after zs refl) h

all_kept : {A X : Type 0} (f g : A → Option X) → ((x : A) (y : X) → f x ≡ Some y → g x ≡ Some y) → (xs : List A) (ys : List X) → all_of f xs ≡ Some ys → all_of g xs ≡ Some ys
all_kept f g kept [] ys h = h
all_kept f g kept (x ∷ xs) ys h = both_kept (f x) (g x) (all_of f xs) (all_of g xs) ys (kept x) (all_kept f g kept xs) h

ok_kept : {X : Type 0} (o p : Option X) (fault : PlanTextFault) (x : X) → ((y : X) → o ≡ Some y → p ≡ Some y) → ok_or o fault ≡ Ok x → ok_or p fault ≡ Ok x
ok_kept None p fault x kept h = absurd cc
ok_kept (Some y) p fault x kept h = rw (kept y refl) h

keys_kept : (known : List Known) (texts : List (List ℕ)) (ks : List Key) → keys_in [] texts ≡ Ok ks → keys_in known texts ≡ Ok ks
keys_kept known texts ks h =
    ok_kept (all_of (key_named []) texts) (all_of (key_named known) texts) UnknownElement ks (all_kept (key_named []) (key_named known) (key_kept known) texts) h

counters_kept : (known : List Known) (texts : List (List ℕ)) (cs : List ElementId) → counters_in [] texts ≡ Ok cs → counters_in known texts ≡ Ok cs
counters_kept known texts cs h =
    ok_kept (all_of (element_by_name []) texts) (all_of (element_by_name known) texts) UnknownElement cs (all_kept (element_by_name []) (element_by_name known) (element_kept known) texts) h

-- ---- plans

then_kept : {A B : Type 0} (r r' : Read A) (f g : A → Read B) (y : B) → ((x : A) → r ≡ Ok x → r' ≡ Ok x) → ((x : A) → f x ≡ Ok y → g x ≡ Ok y) → (r >>= f) ≡ Ok y → (r' >>= g) ≡ Ok y
then_kept (Ok x) r' f g y here after h = rw (here x refl) (after x h)
then_kept (Err e) r' f g y here after h = absurd cc

passed : (plan p : PlanValue) (o : Option PlanFault) → checked plan o ≡ Ok p → o ≡ None
passed plan p None h = refl
passed plan p (Some fault) h = absurd cc

-- the plan of the fields but for their texts
abbrev made : List Known → Fields → List Key → List ElementId → Read PlanValue
made known f ks cs = checked (chosen_plan known f.choices f.length f.method ks cs f.max_spread) (fault_in known f ks cs)

made_kept : (known : List Known) (f : Fields) (ks : List Key) (cs : List ElementId) (p : PlanValue) → made [] f ks cs ≡ Ok p → made known f ks cs ≡ Ok p
made_kept known f ks cs p h =
    let none = passed (chosen_plan [] f.choices f.length f.method ks cs f.max_spread) p (fault_in [] f ks cs) h in
    ap₂ checked (kept_plan known f.choices f.length f.method ks cs f.max_spread none) (kept_fault known f.choices f.length ks cs f.max_spread none ∙ sym none) ∙ h

fields_kept : (known : List Known) (p : PlanValue) (f : Fields) → plan_of_fields [] f ≡ Ok p → plan_of_fields known f ≡ Ok p
fields_kept known p f h =
    then_kept (keys_in [] f.keys) (keys_in known f.keys) _ _ p (keys_kept known f.keys)
    (λ ks. then_kept (counters_in [] f.counters) (counters_in known f.counters) _ _ p (counters_kept known f.counters) (λ cs. made_kept known f ks cs p)) h

if_kept : (b : Bool) (x y : Read PlanValue) (p : PlanValue) → (x ≡ Ok p → y ≡ Ok p) → cond b x (Err UnknownField) ≡ Ok p → cond b y (Err UnknownField) ≡ Ok p
if_kept true x y p kept h = kept h
if_kept false x y p kept h = absurd cc

document_kept : (known : List Known) (p : PlanValue) (d : Members) → plan_of_document [] d ≡ Ok p → plan_of_document known d ≡ Ok p
document_kept known p d h =
    if_kept (has_known_fields d) _ _ p (then_kept (fields_of d) (fields_of d) (plan_of_fields []) (plan_of_fields known) p (λ f e. e) (fields_kept known p)) h

pub text_kept : (known : List Known) (text : List ℕ) (p : PlanValue) → plan_of_text [] text ≡ Ok p → plan_of_text known text ≡ Ok p
text_kept known text p h =
    then_kept (ok_or (parse_document text) NotToml) (ok_or (parse_document text) NotToml) (plan_of_document []) (plan_of_document known) p (λ d e. e) (document_kept known p) h
