-- The template in force is the last definition that no later event ended.
use Rattle.std.proofs.Common.{◌≡◌, ℕ, Bool, true, false, eqb, List, [], ◌∷◌, ◌++◌, Option, Some, None, refl, sym, ap, subst, ◌∙◌, inl, inr}
use Rattle.std.specs.Prelude.{IsTrue}
use Rattle.std.proofs.lemmas.Bool.{eqb-true, eqb-false, eq-eqb, cond_both, false_from_ne_true}
use Rattle.ipfix_message.specs.declared.record.Template.{Template}
use Rattle.ipfix_message.specs.declared.template_record.TemplateKind.{TemplateKind}
use Rattle.ipfix_message.specs.declared.template_record.Event.{Event}
use Rattle.ipfix_message.specs.declared.template_record.Event.TheVariants.{Define, Withdraw, WithdrawAll}
use Rattle.ipfix_message.specs.TemplatesInForce.{is_of, unless_of, in_force, Ends, Outlasts, IsInForce, IsInForceFor}
use Rattle.ipfix_wire.proofs.Choices.{chosen, different}

abbrev some_template : Template → Option Template
some_template t = Some t

some_is : (t u : Template) → some_template t ≡ some_template u → t ≡ u
some_is t u h = cc

none_is_not : (t : Template) → None ≡ some_template t → ⊥
none_is_not t h = cc

not_both_ways : (b : Bool) → b ≡ true → b ≡ false → ⊥
not_both_ways b p q = cc

-- what a withdrawal left was in force, and is not of its kind
pub unless_of-some : (kind : TemplateKind) (o : Option Template) (t : Template) → unless_of kind o ≡ some_template t → (o ≡ some_template t) × (is_of kind t ≡ false)
unless_of-some kind None t h = absurd (none_is_not t h)
unless_of-some kind (Some u) t h =
    elim (chosen (is_of kind u) None (some_template u) (some_template t) h) [
      | inl gone ↦ absurd (none_is_not t gone.1)
      | inr left ↦ (left.1, subst (λ (x : Template). is_of kind x ≡ false) (some_is u t left.1) left.0)
    ]

-- one more event that does not end t
one_later : (e : Event) (es : List Event) (t : Template) → ¬ Ends t e → IsInForce t es → IsInForce t (e ∷ es)
one_later e es t stays is = record { later = e ∷ is.later; earlier = is.earlier; order = ap (λ (xs : List Event). e ∷ xs) is.order; lasts = (stays, is.lasts) }

pub in_force-found : (es : List Event) (id : ℕ) (t : Template) → in_force es id ≡ some_template t → IsInForceFor id t es
unfolding in_force
in_force-found [] id t h = absurd (none_is_not t h)
in_force-found (Define u ∷ es) id t h =
    elim (chosen (eqb id u.id) (some_template u) (in_force es id) (some_template t) h) [
      | inl here ↦
          let same = some_is u t here.1 in
          let idis : t.id ≡ id = sym (ap (λ (x : Template). x.id) same) ∙ sym (eqb-true id u.id here.0) in
          (idis, record { later = []; earlier = es; order = ap (λ (x : Template). Define x ∷ es) same; lasts = tt })
      | inr before ↦
          let more = in_force-found es id t before.1 in
          let stays : ¬ Ends t (Define u) = λ e. eqb-false id u.id before.0 (sym (e ∙ more.0)) in
          (more.0, one_later (Define u) es t stays more.1)
    ]
in_force-found (Withdraw kind i ∷ es) id t h =
    elim (chosen (eqb id i) (unless_of kind (in_force es id)) (in_force es id) (some_template t) h) [
      | inl here ↦
          let left = unless_of-some kind (in_force es id) t here.1 in
          let more = in_force-found es id t left.0 in
          let stays : ¬ Ends t (Withdraw kind i) = λ e. not_both_ways (is_of kind t) e.0 left.1 in
          (more.0, one_later (Withdraw kind i) es t stays more.1)
      | inr before ↦
          let more = in_force-found es id t before.1 in
          let stays : ¬ Ends t (Withdraw kind i) = λ e. eqb-false id i before.0 (sym (e.1 ∙ more.0)) in
          (more.0, one_later (Withdraw kind i) es t stays more.1)
    ]
in_force-found (WithdrawAll kind ∷ es) id t h =
    let left = unless_of-some kind (in_force es id) t h in
    let more = in_force-found es id t left.0 in
    let stays : ¬ Ends t (WithdrawAll kind) = λ e. not_both_ways (is_of kind t) e left.1 in
    (more.0, one_later (WithdrawAll kind) es t stays more.1)

unless_of-left : (kind : TemplateKind) (o : Option Template) (t : Template) → o ≡ some_template t → ¬ IsTrue (is_of kind t) → unless_of kind o ≡ some_template t
unless_of-left kind o t is other =
    let left : is_of kind t ≡ false = false_from_ne_true (is_of kind t) other in
    rw (is, left) refl

after_later : (later earlier : List Event) (id : ℕ) (t : Template) → t.id ≡ id → Outlasts t later → in_force (later ++ Define t ∷ earlier) id ≡ some_template t
unfolding in_force
after_later [] earlier id t same lasts = rw (eq-eqb id t.id (sym same)) refl
after_later (Define u ∷ more) earlier id t same lasts =
    let other : eqb id u.id ≡ false = different id u.id (λ e. lasts.0 (sym e ∙ sym same)) in
    rw other (after_later more earlier id t same lasts.1)
after_later (Withdraw kind i ∷ more) earlier id t same lasts =
    let rest = in_force (more ++ Define t ∷ earlier) id in
    let is = after_later more earlier id t same lasts.1 in
    cond_both (eqb id i) (unless_of kind rest) rest (λ (o : Option Template). o ≡ some_template t)
    (λ here. unless_of-left kind rest t is (λ of. lasts.0 (of, sym (eqb-true id i here) ∙ sym same)))
    (λ other. is)
after_later (WithdrawAll kind ∷ more) earlier id t same lasts =
    unless_of-left kind (in_force (more ++ Define t ∷ earlier) id) t (after_later more earlier id t same lasts.1) lasts.0

pub in_force-only : (es : List Event) (id : ℕ) (t : Template) → t.id ≡ id → IsInForce t es → in_force es id ≡ some_template t
in_force-only es id t same is = ap (λ (xs : List Event). in_force xs id) is.order ∙ after_later is.later is.earlier id t same is.lasts
