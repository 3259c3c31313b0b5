-- The test of plans is an equivalence: it tells which plans are equal.
use Rattle.std.specs.Prelude.{◌≡◌, ◌↔◌, ℕ, ◌==◌, ◌&&◌, Bool, true, false, List, [], ◌∷◌, Option, Some, None}
use Rattle.std.specs.Option.{option_eq}
use Rattle.std.specs.Cmp.{IsEquivalence}
use Rattle.std.specs.Cmp.Lexicographic.{pointwise}
use Rattle.std.proofs.Common.{zero, suc, refl, sym, ap, subst, ◌∙◌}
use Rattle.std.proofs.lemmas.Bool.{eqb-true, eq-eqb}
use Rattle.ipfix_wire.specs.declared.specifier.ElementId.{ElementId}
use Rattle.ipfix_elements.specs.declared.kind.Kind.{Kind}
use Rattle.ipfix_elements.specs.declared.kind.Kind.TheVariants.{Unsigned, Ipv4, Ipv6, Mac, Seconds, Millis, Octets}
use Rattle.ipfix_elements.specs.declared.kind.Width.TheVariants.{One, Two, Four, Eight}
use Rattle.flow_table.specs.declared.choices.Choices.{Choices}
use Rattle.flow_table.specs.declared.choices.Times.{Times}
use Rattle.flow_table.specs.declared.choices.Times.TheVariants as times
use Rattle.flow_table.specs.declared.choices.Totals.{Totals}
use Rattle.flow_table.specs.declared.choices.Totals.TheVariants.{Refused, AsDeltas}
use Rattle.flow_table.specs.declared.method.Method.{Method}
use Rattle.flow_table.specs.declared.method.Method.TheVariants.{Start, End, Mid, Uniform, Proportional}
use Rattle.flow_table.specs.declared.key.Key.{Key}
use Rattle.flow_table.specs.Plans.{PlanValue, same_element}
use Rattle.flow_table.specs.SamePlans.{times_number, totals_number, same_choices, method_number, same_method, same_key, kind_number, same_kind, same_plan}

-- ---- a test that tells what is equal

record Tells {K : Type 0} (test : K → K → Bool) : Type 0 where
  pub found : (x : K) → test x x ≡ true
  pub same : (x y : K) → test x y ≡ true → x ≡ y

both : (a b : Bool) → a ≡ true → b ≡ true → (a && b) ≡ true
both true b h i = i
both false b h i = h

left : (a b : Bool) → (a && b) ≡ true → a ≡ true
left true b h = refl
left false b h = h

right : (a b : Bool) → (a && b) ≡ true → b ≡ true
right true b h = h
right false true h = refl
right false false h = h

abbrev off : Bool → Type 0
off false = Unit {0}
off true = ⊥

clash : false ≡ true → ⊥
clash h = subst off h tt

numbers_tell : Tells {K = ℕ} ◌==◌
numbers_tell = record { found = λ x. eq-eqb x x refl; same = λ x y h. eqb-true x y h }

element_from : (a b : ElementId) → a.pen ≡ b.pen → a.number ≡ b.number → a ≡ b
element_from a b h i = rw (h, i) refl

elements_tell : Tells same_element
elements_tell = record {
  found = λ x. both _ _ (numbers_tell.found x.pen) (numbers_tell.found x.number);
  same = λ x y h. element_from x y (numbers_tell.same _ _ (left _ _ h)) (numbers_tell.same _ _ (right (x.pen == y.pen) _ h));
}

options_tell : {K : Type 0} (test : K → K → Bool) → Tells test → Tells (option_eq test)
options_tell {K} test tells = record { found = found; same = same } where
  found : (x : Option K) → option_eq test x x ≡ true
  found None = refl
  found (Some x) = tells.found x

  same : (x y : Option K) → option_eq test x y ≡ true → x ≡ y
  same None None h = refl
  same None (Some y) h = absurd (clash h)
  same (Some x) None h = absurd (clash h)
  same (Some x) (Some y) h = ap (λ (z : K). Some z) (tells.same x y h)

lists_tell : {K : Type 0} (test : K → K → Bool) → Tells test → Tells (pointwise test)
lists_tell {K} test tells = record { found = found; same = same } where
  found : (xs : List K) → pointwise test xs xs ≡ true
  found [] = refl
  found (x ∷ xs) = both _ _ (tells.found x) (found xs)

  same : (xs ys : List K) → pointwise test xs ys ≡ true → xs ≡ ys
  same [] [] h = refl
  same [] (y ∷ ys) h = absurd (clash h)
  same (x ∷ xs) [] h = absurd (clash h)
  same (x ∷ xs) (y ∷ ys) h =
      ap (λ (z : K). z ∷ xs) (tells.same x y (left _ _ h)) ∙ ap (λ (zs : List K). y ∷ zs) (same xs ys (right (test x y) _ h))

abbrev method_at : ℕ → Method
method_at zero = Start
method_at (suc zero) = End
method_at (suc (suc zero)) = Mid
method_at (suc (suc (suc zero))) = Uniform
method_at (suc (suc (suc (suc n)))) = Proportional

method_there : (m : Method) → method_at (method_number m) ≡ m
method_there Start = refl
method_there End = refl
method_there Mid = refl
method_there Uniform = refl
method_there Proportional = refl

methods_tell : Tells same_method
methods_tell = record {
  found = λ x. numbers_tell.found (method_number x);
  same = λ x y h. sym (method_there x) ∙ ap method_at (numbers_tell.same _ _ h) ∙ method_there y;
}

abbrev times_at : ℕ → Times
times_at zero = times.Basic
times_at (suc n) = times.All

times_there : (t : Times) → times_at (times_number t) ≡ t
times_there times.Basic = refl
times_there times.All = refl

abbrev totals_at : ℕ → Totals
totals_at zero = Refused
totals_at (suc n) = AsDeltas

totals_there : (t : Totals) → totals_at (totals_number t) ≡ t
totals_there Refused = refl
totals_there AsDeltas = refl

choices_from : (a b : Choices) → a.times ≡ b.times → a.totals ≡ b.totals → a ≡ b
choices_from a b h i = rw (h, i) refl

choices_tell : Tells same_choices
choices_tell = record {
  found = λ x. both _ _ (numbers_tell.found (times_number x.times)) (numbers_tell.found (totals_number x.totals));
  same = λ x y h.
      choices_from x y (sym (times_there x.times) ∙ ap times_at (numbers_tell.same _ _ (left _ _ h)) ∙ times_there y.times)
      (sym (totals_there x.totals) ∙ ap totals_at (numbers_tell.same _ _ (right (times_number x.times == times_number y.times) _ h)) ∙ totals_there y.totals);
}

key_from : (a b : Key) → a.element ≡ b.element → a.prefix ≡ b.prefix → a ≡ b
key_from a b h i = rw (h, i) refl

keys_tell : Tells same_key
keys_tell = record {
  found = λ x. both _ _ (elements_tell.found x.element) ((options_tell ◌==◌ numbers_tell).found x.prefix);
  same = λ x y h. key_from x y (elements_tell.same _ _ (left _ _ h)) ((options_tell ◌==◌ numbers_tell).same _ _ (right (same_element x.element y.element) _ h));
}

abbrev kind_at : ℕ → Kind
kind_at zero = Unsigned One
kind_at (suc zero) = Unsigned Two
kind_at (suc (suc zero)) = Unsigned Four
kind_at (suc (suc (suc zero))) = Unsigned Eight
kind_at (suc (suc (suc (suc zero)))) = Ipv4
kind_at (suc (suc (suc (suc (suc zero))))) = Ipv6
kind_at (suc (suc (suc (suc (suc (suc zero)))))) = Mac
kind_at (suc (suc (suc (suc (suc (suc (suc zero))))))) = Seconds
kind_at (suc (suc (suc (suc (suc (suc (suc (suc zero)))))))) = Millis
kind_at (suc (suc (suc (suc (suc (suc (suc (suc (suc n))))))))) = Octets

kind_there : (k : Kind) → kind_at (kind_number k) ≡ k
kind_there (Unsigned One) = refl
kind_there (Unsigned Two) = refl
kind_there (Unsigned Four) = refl
kind_there (Unsigned Eight) = refl
kind_there Ipv4 = refl
kind_there Ipv6 = refl
kind_there Mac = refl
kind_there Seconds = refl
kind_there Millis = refl
kind_there Octets = refl

kinds_tell : Tells same_kind
kinds_tell = record {
  found = λ x. numbers_tell.found (kind_number x);
  same = λ x y h. sym (kind_there x) ∙ ap kind_at (numbers_tell.same _ _ h) ∙ kind_there y;
}

plan_from : (a b : PlanValue) → a.length ≡ b.length → a.method ≡ b.method → a.keys ≡ b.keys → a.kinds ≡ b.kinds → a.counters ≡ b.counters → a.max_spread ≡ b.max_spread → a.choices ≡ b.choices → a ≡ b
plan_from a b h i j k l m n = rw (h, i, j, k, l, m, n) refl

plans_tell : Tells same_plan
plans_tell = record { found = found; same = same } where
  found : (x : PlanValue) → same_plan x x ≡ true
  found x =
      both _ _ (choices_tell.found x.choices)
      (both _ _ ((lists_tell same_kind kinds_tell).found x.kinds)
      (both _ _ (numbers_tell.found x.length)
      (both _ _ (methods_tell.found x.method)
      (both _ _ ((lists_tell same_key keys_tell).found x.keys)
      (both _ _ ((lists_tell same_element elements_tell).found x.counters) (numbers_tell.found x.max_spread))))))

  same : (x y : PlanValue) → same_plan x y ≡ true → x ≡ y
  same x y h =
      let after_choices = right (same_choices x.choices y.choices) _ h in
      let after_kinds = right (pointwise same_kind x.kinds y.kinds) _ after_choices in
      let after_length = right (x.length == y.length) _ after_kinds in
      let after_method = right (same_method x.method y.method) _ after_length in
      let after_keys = right (pointwise same_key x.keys y.keys) _ after_method in
      plan_from x y (numbers_tell.same _ _ (left _ _ after_kinds)) (methods_tell.same _ _ (left _ _ after_length))
      ((lists_tell same_key keys_tell).same _ _ (left _ _ after_method))
      ((lists_tell same_kind kinds_tell).same _ _ (left _ _ after_choices))
      ((lists_tell same_element elements_tell).same _ _ (left _ _ after_keys))
      (numbers_tell.same _ _ (right (pointwise same_element x.counters y.counters) _ after_keys))
      (choices_tell.same _ _ (left _ _ h))

-- ---- so it is an equivalence

alike : (a b : Bool) → (a ≡ true → b ≡ true) → (b ≡ true → a ≡ true) → a ≡ b
alike true b f g = sym (f refl)
alike false true f g = g refl
alike false false f g = refl

equivalence : {K : Type 0} (test : K → K → Bool) → Tells test → IsEquivalence test
equivalence {K} test tells = record {
  refl = tells.found;
  symm = λ x y. alike (test x y) (test y x) (turn x y) (turn y x);
  congr = λ x y z h. ap (λ (k : K). test k z) (tells.same x y h);
}
  where
    turn : (x y : K) → test x y ≡ true → test y x ≡ true
    turn x y h = subst (λ (k : K). test k x ≡ true) (tells.same x y h) (tells.found x)

pub same_plan_laws : IsEquivalence same_plan
same_plan_laws = equivalence same_plan plans_tell

-- it tells which plans are equal
pub same_plan-tells : (a b : PlanValue) → (same_plan a b ≡ true) ↔ (a ≡ b)
same_plan-tells a b = (plans_tell.same a b, λ e. subst (λ (p : PlanValue). same_plan a p ≡ true) e (plans_tell.found a))
