-- Reading a list, item by item.
use Rattle.std.proofs.Common.{◌≡◌, ℕ, zero, suc, ◌+◌, ◌<◌, ◌≤◌, List, [], ◌∷◌, ◌++◌, length, take, get_or, refl, sym, ap, subst, ◌∙◌, arith}
use Rattle.std.specs.Prelude.{All, map}
use Rattle.std.proofs.lemmas.List.{take_all, map-append, length-map}
use Rattle.std.proofs.lemmas.List.Elements.{All-nil, All-cons}
use Rattle.json.specs.Json.{Json}

-- what stands at a place of two lists that are alike
pub record IsAt {A Val : Type 0} (view : A → Json) (json : Val → Json) (objects : List A) (vs : List Val) (i : ℕ) (d : A) : Type 0 where
  pub value : Val
  pub object : view (get_or objects i d) ≡ json value
  pub next : take (i + 1) vs ≡ take i vs ++ value ∷ []
  pub here : (e : Val) → get_or vs i e ≡ value
  pub within : i < length vs

pub at_place : {A Val : Type 0} (view : A → Json) (json : Val → Json) (objects : List A) (vs : List Val) (i : ℕ) (d : A) → map view objects ≡ map json vs → i < length objects → IsAt view json objects vs i d
at_place view json [] vs i d alike within = absurd (omega arith)
at_place view json (a ∷ objects) [] i d alike within = absurd cc
at_place view json (a ∷ objects) (v ∷ vs) zero d alike within =
    record { value = v; object = cc; next = refl; here = λ e. refl; within = omega arith }
at_place view json (a ∷ objects) (v ∷ vs) (suc i) d alike within =
    let rest : map view objects ≡ map json vs = cc in
    let more = at_place view json objects vs i d rest (omega arith) in
    let on : suc i + 1 ≡ suc (i + 1) = omega arith in
    record {
      value = more.value;
      object = more.object;
      next = ap (λ (k : ℕ). take k (v ∷ vs)) on ∙ ap (λ xs. v ∷ xs) more.next;
      here = more.here;
      within = omega (arith, more.within);
    }

-- if the objects are those of values, the first so many of these were read
pub record Reads {A R Val : Type 0} (view : A → Json) (value : R → Val) (json : Val → Json) (Fits : Val → Type 0) (objects : List A) (i : ℕ) (out : List R) : Type 0 where
  pub so_far : (vs : List Val) → All Fits vs → map view objects ≡ map json vs → map value out ≡ take i vs

pub reads_none : {A R Val : Type 0} (view : A → Json) (value : R → Val) (json : Val → Json) (Fits : Val → Type 0) (objects : List A) (out : List R) → out ≡ [] → Reads view value json Fits objects 0 out
reads_none view value json Fits objects out none = record { so_far = λ vs fit alike. ap (map value) none }

pub reads_on : {A R Val : Type 0} (view : A → Json) (value : R → Val) (json : Val → Json) (Fits : Val → Type 0) (objects : List A) (i : ℕ) (d : A) (out later : List R) (x : R)
    → Reads view value json Fits objects i out → i < length objects → ((v : Val) → Fits v → view (get_or objects i d) ≡ json v → value x ≡ v) → later ≡ out ++ x ∷ []
    → Reads view value json Fits objects (i + 1) later
reads_on view value json Fits objects i d out later x r within one is =
    record {
      so_far = λ vs fit alike.
          let at = at_place view json objects vs i d alike within in
          let fits : Fits at.value = subst Fits (at.here at.value) (fit i at.value at.within) in
          ap (map value) is ∙ map-append value out (x ∷ [])
          ∙ ap (λ ys. ys ++ value x ∷ []) (r.so_far vs fit alike)
          ∙ ap (λ y. take i vs ++ y ∷ []) (one at.value fits at.object)
          ∙ sym at.next;
    }

pub reads_all : {A R Val : Type 0} (view : A → Json) (value : R → Val) (json : Val → Json) (Fits : Val → Type 0) (objects : List A) (i : ℕ) (out : List R) (vs : List Val)
    → Reads view value json Fits objects i out → length objects ≤ i → All Fits vs → map view objects ≡ map json vs → map value out ≡ vs
reads_all view value json Fits objects i out vs r all fit alike =
    let same : length objects ≡ length vs = sym (length-map objects view) ∙ ap length alike ∙ length-map vs json in
    r.so_far vs fit alike ∙ take_all i vs (omega (arith, same, all))

pub map_same : {Val : Type 0} (xs : List Val) → map (λ x. x) xs ≡ xs
map_same [] = refl
map_same (x ∷ xs) = ap (λ ys. x ∷ ys) (map_same xs)

-- what holds of all values holds of each of a list
pub every : {Val : Type 0} (xs : List Val) → All (λ x. Unit {0}) xs
every [] = All-nil (λ x. Unit {0})
every (x ∷ xs) = All-cons (λ y. Unit {0}) x xs tt (every xs)
