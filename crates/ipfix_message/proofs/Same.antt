-- The test of two templates, and what a withdrawal leaves.
use Rattle.std.proofs.Common.{◌≡◌, ℕ, Bool, true, false, cond, eqb, List, Option, Some, None, refl, ap, rules, inl, inr}
use Rattle.std.specs.Bool.{Decides}
use Rattle.std.specs.Prelude.{◌&&◌, not}
use Rattle.std.proofs.lemmas.Map.Entries.{option_filter}
use Rattle.std.proofs.lemmas.Bool.{eqb-true, eq-eqb}
use Rattle.std.proofs.lemmas.Bool.Decides.{same_from_decides, eqb_tells}
use Rattle.std.specs.Cmp.Lexicographic.{pointwise}
use Rattle.std.proofs.lemmas.Slice.Eq.{slice_eq-Decides}
use Rattle.ipfix_wire.specs.declared.specifier.Spec.{Spec}
use Rattle.ipfix_wire.proofs.Choices.{both_true}
use Rattle.ipfix_message.specs.declared.record.Template.{Template}
use Rattle.ipfix_message.specs.declared.template_record.TemplateKind.{TemplateKind}
use Rattle.ipfix_message.specs.TemplatesInForce.{same_spec, same_template, is_of, unless_of}

same_spec-Decides : (a b : Spec) → Decides (same_spec a b) (a ≡ b)
same_spec-Decides a b = search rules

same_specs-Decides : (as' bs : List Spec) → Decides (pointwise same_spec as' bs) (as' ≡ bs)
same_specs-Decides as' bs = slice_eq-Decides same_spec-Decides as' bs (pointwise same_spec as' bs) refl

abbrev template : ℕ → ℕ → List Spec → Template
template id scope specs = record { id = id; scope = scope; specs = specs }

all_same : (i j s r : ℕ) (ss rr : List Spec) → i ≡ j → s ≡ r → ss ≡ rr → template i s ss ≡ template j r rr
all_same i j s r ss rr a b c = rw (a, b, c) refl

pub same_template-Decides : (t u : Template) → Decides (same_template t u) (t ≡ u)
same_template-Decides t u = (
  λ h.
      let outer = both_true (eqb t.id u.id && eqb t.scope u.scope) (pointwise same_spec t.specs u.specs) h in
      let inner = both_true (eqb t.id u.id) (eqb t.scope u.scope) outer.0 in
      all_same t.id u.id t.scope u.scope t.specs u.specs (eqb-true t.id u.id inner.0) (eqb-true t.scope u.scope inner.1) ((same_specs-Decides t.specs u.specs).0 outer.1),
  λ e.
      let a : eqb t.id u.id ≡ true = eq-eqb t.id u.id (ap (λ (x : Template). x.id) e) in
      let b : eqb t.scope u.scope ≡ true = eq-eqb t.scope u.scope (ap (λ (x : Template). x.scope) e) in
      let c : pointwise same_spec t.specs u.specs ≡ true = (same_specs-Decides t.specs u.specs).1 (ap (λ (x : Template). x.specs) e) in
      rw (a, b, c) refl,
)

-- a test that decides whether two templates are one is the test
pub is_same_template : (r : Bool) (t u : Template) → Decides r (t ≡ u) → r ≡ same_template t u
is_same_template r t u h = same_from_decides r (same_template t u) h (same_template-Decides t u)

pub unless_of-filter : (kind : TemplateKind) (o : Option Template) → option_filter (λ t. not (is_of kind t)) o ≡ unless_of kind o
unless_of-filter kind None = refl
unless_of-filter kind (Some t) = by_test (is_of kind t)
  where
    by_test : (b : Bool) → cond (not b) (Some t) None ≡ cond b None (Some t)
    by_test true = refl
    by_test false = refl

-- where a template is in force already, defining it changes nothing
pub unchanged : (f : ℕ → Option Template) (new : Template) → f new.id ≡ Some new → (id : ℕ) → f id ≡ cond (eqb id new.id) (Some new) (f id)
unchanged f new h id = elim (eqb_tells id new.id) [
  | inl y ↦ rw (y.0, y.1) h
  | inr n ↦ rw n.0 refl
]
