-- The events of a template set: what they give is that each keeps the templates in force.
use Rattle.std.proofs.Common.{◌≡◌, ℕ, ◌+◌, Bool, true, false, cond, List, [], ◌∷◌, Option, Some, None, Ok, Err, refl, sym, ap, ◌∙◌, inl, inr}
use Rattle.std.specs.Prelude.{not}
use Rattle.ipfix_wire.specs.Numbers.{IsOctets}
use Rattle.ipfix_wire.proofs.Choices.{chosen}
use Rattle.ipfix_message.specs.declared.fault.MessageFault.{MessageFault}
use Rattle.ipfix_message.specs.declared.fault.MessageFault.TheVariants.{TemplateChanged}
use Rattle.ipfix_message.specs.declared.record.Template.{Template}
use Rattle.ipfix_message.specs.declared.template_record.TemplateKind.{TemplateKind}
use Rattle.ipfix_message.specs.declared.template_record.Event.{Event}
use Rattle.ipfix_message.specs.declared.template_record.Event.TheVariants.{Define, Withdraw, WithdrawAll}
use Rattle.ipfix_message.specs.Outcome.{◌>>=◌, unless}
use Rattle.ipfix_message.specs.TemplateRecords.{IsTemplateSet, events_of, fault_after_events}
use Rattle.ipfix_message.specs.TemplatesInForce.{in_force, is_ignored, is_other, same_template, changes_template, event_gives, events_give, template_set_gives}
use Rattle.ipfix_message.proofs.LastDefinition.{in_force-found, in_force-only}
use Rattle.ipfix_message.proofs.Reading.{ok_is, not_both, bind_ok}
use Rattle.ipfix_message.proofs.Same.{same_template-Decides}
use Rattle.ipfix_message.proofs.TemplateRecords.{template_set-whole}
use Rattle.std.proofs.lemmas.Bool.{not-false}
use Rattle.laws_messages.specs.WholeMessages.{KeepsTemplate, KeepTemplates, behind, ignored_in}

-- ---- one event

keeps_of : (es : List Event) (t : Template) (o : Option Template) → in_force es t.id ≡ o → is_other t o ≡ false → KeepsTemplate es (Define t)
keeps_of es t None is h = λ u same in_it. absurd (let at = in_force-only es t.id u same in_it in cc)
keeps_of es t (Some v) is h = λ u same in_it.
    let at = in_force-only es t.id u same in_it in
    let both : v ≡ u = cc in
    (same_template-Decides t v).0 (not-false (same_template t v) h) ∙ both

kept_of : (es : List Event) (t : Template) (o : Option Template) → in_force es t.id ≡ o → KeepsTemplate es (Define t) → is_other t o ≡ false
kept_of es t None is keeps = refl
kept_of es t (Some v) is keeps =
    let found = in_force-found es t.id v is in
    let yes = (same_template-Decides t v).1 (keeps v found.0 found.1) in
    rw yes refl

keeps-found : (es : List Event) (e : Event) → changes_template es e ≡ false → KeepsTemplate es e
keeps-found es (Define t) h = keeps_of es t (in_force es t.id) refl h
keeps-found es (Withdraw kind id) h = tt
keeps-found es (WithdrawAll kind) h = tt

keeps-only : (es : List Event) (e : Event) → KeepsTemplate es e → changes_template es e ≡ false
keeps-only es (Define t) keeps = kept_of es t (in_force es t.id) refl keeps
keeps-only es (Withdraw kind id) keeps = refl
keeps-only es (WithdrawAll kind) keeps = refl

event-found : (es : List Event) (e : Event) (b : Bool) → event_gives es e ≡ Ok b → (changes_template es e ≡ false) × (is_ignored es e ≡ b)
unfolding event_gives
event-found es e b h =
    elim (chosen (changes_template es e) (Err TemplateChanged) (Ok (is_ignored es e)) (Ok b) h) [
      | inl t ↦ absurd (not_both b TemplateChanged (sym t.1))
      | inr f ↦ (f.0, ok_is (is_ignored es e) b f.1)
    ]

event-only : (es : List Event) (e : Event) → KeepsTemplate es e → event_gives es e ≡ Ok (is_ignored es e)
unfolding event_gives
event-only es e keeps = rw (keeps-only es e keeps) refl

-- ---- all of them

-- the events after those before them, and how many are ignored
abbrev pub given : List Event → List Event → List Event × ℕ
given es events = (behind es events, ignored_in es events)

events-found : (events es : List Event) (r : List Event × ℕ) → events_give events es ≡ Ok r → KeepTemplates es events × (given es events ≡ r)
unfolding events_give
events-found [] es r h = (tt, ok_is (es, 0) r h)
events-found (e ∷ more) es r h =
    let one = bind_ok (event_gives es e) (λ b. events_give more (e ∷ es) >>= λ rest. Ok (rest.0, cond b 1 0 + rest.1)) r h in
    let all = bind_ok (events_give more (e ∷ es)) (λ rest. Ok (rest.0, cond one.0 1 0 + rest.1)) r one.2 in
    let is = event-found es e one.0 one.1 in
    let others = events-found more (e ∷ es) all.0 all.1 in
    let first : given es (e ∷ more) ≡ (all.0.0, cond one.0 1 0 + all.0.1) = rw is.1 (ap (λ (x : List Event × ℕ). (x.0, cond one.0 1 0 + x.1)) others.1) in
    ((keeps-found es e is.0, others.0), first ∙ ok_is (all.0.0, cond one.0 1 0 + all.0.1) r all.2)

events-only : (events es : List Event) → KeepTemplates es events → events_give events es ≡ Ok (given es events)
unfolding events_give
events-only [] es keep = refl
events-only (e ∷ more) es keep = rw (event-only es e keep.0, events-only more (e ∷ es) keep.1) refl

-- ---- a template set

pub unless-found : {X : Type 0} (o : Option MessageFault) (x y : X) → unless o x ≡ Ok y → (o ≡ None) × (x ≡ y)
unless-found None x y h = (refl, ok_is x y h)
unless-found (Some f) x y h = absurd (not_both y f (sym h))

-- the events of a set, which keep the templates in force
pub record Given (kind : TemplateKind) (es : List Event) (body : List ℕ) (r : List Event × ℕ) : Type 0 where
  pub events : List Event
  pub set : IsTemplateSet kind events body
  pub keep : KeepTemplates es events
  pub are : given es events ≡ r

pub templates-found : (kind : TemplateKind) (es : List Event) (body : List ℕ) (r : List Event × ℕ) → IsOctets body → template_set_gives kind es body ≡ Ok r → Given kind es body r
unfolding template_set_gives
templates-found kind es body r fits h =
    let read = bind_ok (events_give (events_of kind body).items es) (λ x. unless (fault_after_events kind (events_of kind body).rest) x) r h in
    let none = unless-found (fault_after_events kind (events_of kind body).rest) read.0 r read.2 in
    let all = events-found (events_of kind body).items es read.0 read.1 in
    record {
      events = (events_of kind body).items;
      set = (template_set-whole kind body (events_of kind body).items fits).1 (refl, none.0);
      keep = all.0;
      are = all.1 ∙ none.1;
    }

pub templates-only : (kind : TemplateKind) (es events : List Event) (body : List ℕ) → IsOctets body → IsTemplateSet kind events body → KeepTemplates es events → template_set_gives kind es body ≡ Ok (given es events)
unfolding template_set_gives
templates-only kind es events body fits set keep =
    let whole = (template_set-whole kind body events fits).0 set in
    rw (whole.0, whole.1, events-only events es keep) refl
