-- Lists of which each item has something, gone through one after another.
use Rattle.std.proofs.Common.{◌≡◌, ℕ, ◌+◌, ◌<◌, length, List, [], ◌∷◌, ◌++◌, map, take, drop, get_or, cond, Option, Some, None, option_map, option_and_then, refl, sym, ap, ◌∙◌, add-one}
use denote.Bor.{Bor}
use Rattle.std.specs.Prelude.{find, is_none}
use Rattle.std.proofs.lemmas.List.{map-append, take-append-drop}
use Rattle.std.proofs.lemmas.Option.{none-some, same_Some}
use Rattle.std.proofs.Math.Seq.{take-suc, drop-cons}
use Rattle.toml.specs.Data.{Data, string, integer, float, boolean, datetime, array, table, Items, item, as_str}
use Rattle.toml.specs.View.{items_view, view}
use Rattle.toml.specs.declared.value.Value.{Value}
use Rattle.flow_plan.specs.PlanTexts.{all_of, texts_in}

more : {X : Type 0} (x first : X) (rest longer : Option (List X)) (xs : List X) → option_map (λ ys. first ∷ ys) rest ≡ Some xs
    → ((ys : List X) → rest ≡ Some ys → longer ≡ Some (ys ++ x ∷ [])) → option_map (λ ys. first ∷ ys) longer ≡ Some (xs ++ x ∷ [])
more x first None longer xs h next = absurd (none-some xs h)
more x first (Some ys) longer xs h next = rw (next ys refl) (ap (λ zs. Some (zs ++ x ∷ [])) (same_Some (first ∷ ys) xs h))

more_after : {X : Type 0} (x : X) (first : Option X) (rest longer : Option (List X)) (xs : List X) → option_and_then (λ y. option_map (λ ys. y ∷ ys) rest) first ≡ Some xs
    → ((ys : List X) → rest ≡ Some ys → longer ≡ Some (ys ++ x ∷ [])) → option_and_then (λ y. option_map (λ ys. y ∷ ys) longer) first ≡ Some (xs ++ x ∷ [])
more_after x None rest longer xs h next = absurd (none-some xs h)
more_after x (Some first) rest longer xs h next = more x first rest longer xs h next

-- one more that has something
one_more : {A X : Type 0} (f : A → Option X) (ys : List A) (y : A) (xs : List X) (x : X) → all_of f ys ≡ Some xs → f y ≡ Some x → all_of f (ys ++ y ∷ []) ≡ Some (xs ++ x ∷ [])
one_more f [] y xs x h e = rw e (ap (λ zs. Some (zs ++ x ∷ [])) (same_Some [] xs h))
one_more f (z ∷ ys) y xs x h e = more_after x (f z) (all_of f ys) (all_of f (ys ++ y ∷ [])) xs h (λ zs k. one_more f ys y zs x k e)

nothing_after : {X : Type 0} (first : Option X) (rest : Option (List X)) → rest ≡ None → option_and_then (λ y. option_map (λ ys. y ∷ ys) rest) first ≡ None
nothing_after None rest h = refl
nothing_after (Some x) rest h = rw h refl

-- one that has nothing
one_without : {A X : Type 0} (f : A → Option X) (ys : List A) (y : A) (more : List A) → f y ≡ None → all_of f (ys ++ y ∷ more) ≡ None
one_without f [] y more e = rw e refl
one_without f (z ∷ ys) y more e = nothing_after (f z) (all_of f (ys ++ y ∷ more)) (one_without f ys y more e)

-- the place of a list that a loop has come to
around : {A : Type 0} (ys : List A) (i : ℕ) (d : A) → i < length ys → ys ≡ take i ys ++ get_or ys i d ∷ drop (i + 1) ys
around ys i d inside = rw add-one (sym (take-append-drop i ys) ∙ ap (λ zs. take i ys ++ zs) (drop-cons ys i d inside))

all_of-step : {A X : Type 0} (f : A → Option X) (ys : List A) (i : ℕ) (d : A) (xs : List X) (x : X) → i < length ys
    → all_of f (take i ys) ≡ Some xs → Some x ≡ f (get_or ys i d) → all_of f (take (i + 1) ys) ≡ Some (xs ++ x ∷ [])
all_of-step f ys i d xs x inside h e =
    ap (all_of f) (rw add-one (take-suc ys i d inside)) ∙ one_more f (take i ys) (get_or ys i d) xs x h (sym e)

all_of-stop : {A X : Type 0} (f : A → Option X) (ys : List A) (i : ℕ) (d : A) → i < length ys → None ≡ f (get_or ys i d) → all_of f ys ≡ None
all_of-stop f ys i d inside e = ap (all_of f) (around ys i d inside) ∙ one_without f (take i ys) (get_or ys i d) (drop (i + 1) ys) (sym e)

-- ---- lent texts

all_of-now : {X : Type 0} (f : List ℕ → Option X) (texts : List (Bor (List ℕ))) → all_of f (map (λ t. t.now) texts) ≡ all_of (λ t. f t.now) texts
all_of-now f [] = refl
all_of-now f (t ∷ texts) = ap (λ rest. option_and_then (λ y. option_map (λ ys. y ∷ ys) rest) (f t.now)) (all_of-now f texts)

pub all_of-more : {X : Type 0} (f : List ℕ → Option X) (texts : List (Bor (List ℕ))) (i : ℕ) (d : Bor (List ℕ)) (xs : List X) (x : X) → i < length texts
    → all_of f (map (λ t. t.now) (take i texts)) ≡ Some xs → Some x ≡ f (get_or texts i d).now → all_of f (map (λ t. t.now) (take (i + 1) texts)) ≡ Some (xs ++ x ∷ [])
all_of-more f texts i d xs x inside h e =
    all_of-now f (take (i + 1) texts) ∙ all_of-step (λ (t : Bor (List ℕ)). f t.now) texts i d xs x inside (sym (all_of-now f (take i texts)) ∙ h) e

pub all_of-none : {X : Type 0} (f : List ℕ → Option X) (texts : List (Bor (List ℕ))) (i : ℕ) (d : Bor (List ℕ)) → i < length texts
    → None ≡ f (get_or texts i d).now → all_of f (map (λ t. t.now) texts) ≡ None
all_of-none f texts i d inside e = all_of-now f texts ∙ all_of-stop (λ (t : Bor (List ℕ)). f t.now) texts i d inside e

-- the first that has nothing, past those that have something
past : {A X : Type 0} (first : Option X) (rest : Option (List X)) (xs : List X) (y : A) (o r : Option A) → option_and_then (λ x. option_map (λ ys. x ∷ ys) rest) first ≡ Some xs
    → ((ys : List X) → rest ≡ Some ys → o ≡ r) → cond (is_none first) (Some y) o ≡ r
past None rest xs y o r h next = absurd (none-some xs h)
past (Some x) None xs y o r h next = absurd (none-some xs h)
past (Some x) (Some ys) xs y o r h next = next ys refl

first_without : {A X : Type 0} (f : A → Option X) (ys : List A) (y : A) (more : List A) (xs : List X) → all_of f ys ≡ Some xs → f y ≡ None → find (λ z. is_none (f z)) (ys ++ y ∷ more) ≡ Some y
first_without f [] y more xs h e = rw e refl
first_without f (z ∷ ys) y more xs h e = past (f z) (all_of f ys) xs z _ (Some y) h (λ zs k. first_without f ys y more zs k e)

pub none_without : {A X : Type 0} (f : A → Option X) (ys : List A) (xs : List X) → all_of f ys ≡ Some xs → find (λ z. is_none (f z)) ys ≡ None
none_without f [] xs h = refl
none_without f (z ∷ ys) xs h = past (f z) (all_of f ys) xs z _ None h (λ zs k. none_without f ys zs k)

pub all_of-first : {X : Type 0} (f : List ℕ → Option X) (texts : List (Bor (List ℕ))) (i : ℕ) (d : Bor (List ℕ)) (xs : List X) (text : List ℕ) → i < length texts
    → all_of f (map (λ t. t.now) (take i texts)) ≡ Some xs → None ≡ f (get_or texts i d).now → text ≡ (get_or texts i d).now → find (λ t. is_none (f t)) (map (λ t. t.now) texts) ≡ Some text
all_of-first f texts i d xs text inside h e same =
    let now : Bor (List ℕ) → List ℕ = λ t. t.now in
    ap (λ (ts : List (List ℕ)). find (λ t. is_none (f t)) ts) (ap (map now) (around texts i d inside) ∙ map-append now (take i texts) (get_or texts i d ∷ drop (i + 1) texts))
    ∙ first_without f (map now (take i texts)) (get_or texts i d).now (map now (drop (i + 1) texts)) xs h (sym e)
    ∙ ap (λ (t : List ℕ). Some t) (sym same)

-- ---- values that are texts

first_text : (d : Data) (rest : Items) → texts_in (item d rest) ≡ option_and_then (λ t. option_map (λ ts. t ∷ ts) (texts_in rest)) (as_str d)
first_text (string s) rest = refl
first_text (integer z) rest = refl
first_text (float x) rest = refl
first_text (boolean b) rest = refl
first_text (datetime dt) rest = refl
first_text (array ds) rest = refl
first_text (table ms) rest = refl

texts_of_values : (vs : List Value) → texts_in (items_view vs) ≡ all_of (λ v. as_str (view v)) vs
texts_of_values [] = refl
texts_of_values (v ∷ vs) = first_text (view v) (items_view vs) ∙ ap (λ rest. option_and_then (λ t. option_map (λ ts. t ∷ ts) rest) (as_str (view v))) (texts_of_values vs)

pub texts_in-more : (vs : List Value) (i : ℕ) (d : Value) (texts : List (List ℕ)) (text : List ℕ) → i < length vs
    → texts_in (items_view (take i vs)) ≡ Some texts → Some text ≡ as_str (view (get_or vs i d)) → texts_in (items_view (take (i + 1) vs)) ≡ Some (texts ++ text ∷ [])
texts_in-more vs i d texts text inside h e =
    texts_of_values (take (i + 1) vs) ∙ all_of-step (λ v. as_str (view v)) vs i d texts text inside (sym (texts_of_values (take i vs)) ∙ h) e

pub texts_in-none : (vs : List Value) (i : ℕ) (d : Value) → i < length vs → None ≡ as_str (view (get_or vs i d)) → texts_in (items_view vs) ≡ None
texts_in-none vs i d inside e = texts_of_values vs ∙ all_of-stop (λ v. as_str (view v)) vs i d inside e
