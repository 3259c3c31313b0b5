-- Template sets, record by record.
use Rattle.std.proofs.Common.{◌≡◌, ℕ, ◌+◌, Bool, true, false, cond, eqb, List, ◌∷◌, Option, Some, None, Result, Ok, Err, refl, sym, ap, ◌∙◌, arith}
use Rattle.ipfix_message.specs.declared.fault.MessageFault.{MessageFault}
use Rattle.ipfix_message.specs.declared.fault.MessageFault.TheVariants.{TemplateChanged}
use Rattle.ipfix_message.specs.declared.template_record.TemplateKind.{TemplateKind}
use Rattle.ipfix_message.specs.declared.template_record.Event.{Event}
use Rattle.ipfix_message.specs.declared.template_record.Event.TheVariants.{Define, Withdraw, WithdrawAll}
use Rattle.ipfix_message.specs.declared.record.Template.{Template}
use Rattle.ipfix_message.specs.Outcome.{◌>>=◌, map_read, unless, Fails}
use Rattle.ipfix_wire.specs.InTurn.{Parts, parts_of}
use Rattle.ipfix_message.specs.TemplateRecords.{event_at, is_padding, fault_after_events}
use Rattle.ipfix_message.specs.TemplatesInForce.{unless_of, is_other, in_force, event_gives, events_give, template_set_gives}
use Rattle.ipfix_message.specs.Held.{template_in, Agrees, Updates, defining}
use Rattle.ipfix_message.proofs.Reading.{Fails-of, not_both, fault_is}
use Rattle.ipfix_wire.proofs.Parts.{parts_of-next, parts_of-none}
use Rattle.ipfix_message.proofs.TemplateRecords.{events_shrink, padding_is_none}

-- ---- a template set, record by record

-- with more withdrawals that were ignored
abbrev pub plus : ℕ → Result (List Event × ℕ) MessageFault → Result (List Event × ℕ) MessageFault
plus n read = map_read (λ r. (r.0, n + r.1)) read

abbrev pub count_of : Bool → ℕ
count_of b = cond b 1 0

template_set_gives-is : (kind : TemplateKind) (es : List Event) (w : List ℕ) → template_set_gives kind es w ≡ (events_give (parts_of (event_at kind) w).items es >>= λ r. unless (fault_after_events kind (parts_of (event_at kind) w).rest) r)
unfolding template_set_gives
template_set_gives-is kind es w = refl

unless-plus : (o : Option MessageFault) (n : ℕ) (r : List Event × ℕ) → unless o (r.0, n + r.1) ≡ plus n (unless o r)
unless-plus None n r = refl
unless-plus (Some f) n r = refl

pub template_set_gives-next : (kind : TemplateKind) (es : List Event) (w : List ℕ) (e : Event) (r : List ℕ) (b : Bool) → event_at kind w ≡ Ok (e, r) → event_gives es e ≡ Ok b
    → template_set_gives kind es w ≡ plus (count_of b) (template_set_gives kind (e ∷ es) r)
unfolding events_give
template_set_gives-next kind es w e r b h taken =
    let more = parts_of (event_at kind) r in
    template_set_gives-is kind es w
    ∙ ap (λ (p : Parts Event). events_give p.items es >>= λ x. unless (fault_after_events kind p.rest) x) (parts_of-next (event_at kind) (events_shrink kind) w e r h)
    ∙ ap (λ (s : Result Bool MessageFault). (s >>= λ ignored. events_give more.items (e ∷ es) >>= λ rest. Ok (rest.0, cond ignored 1 0 + rest.1)) >>= λ x. unless (fault_after_events kind more.rest) x) taken
    ∙ inner (events_give more.items (e ∷ es)) more.rest
    ∙ ap (plus (count_of b)) (sym (template_set_gives-is kind (e ∷ es) r))
  where
    inner : (read : Result (List Event × ℕ) MessageFault) (rest : List ℕ) → ((read >>= λ x. Ok (x.0, cond b 1 0 + x.1)) >>= λ x. unless (fault_after_events kind rest) x) ≡ plus (count_of b) (read >>= λ x. unless (fault_after_events kind rest) x)
    inner (Ok x) rest = unless-plus (fault_after_events kind rest) (count_of b) x
    inner (Err f) rest = refl

pub template_set_gives-changed : (kind : TemplateKind) (es : List Event) (w : List ℕ) (e : Event) (r : List ℕ) (f : MessageFault) → event_at kind w ≡ Ok (e, r) → event_gives es e ≡ Err f → template_set_gives kind es w ≡ Err f
unfolding events_give
template_set_gives-changed kind es w e r f h taken =
    let more = parts_of (event_at kind) r in
    template_set_gives-is kind es w
    ∙ ap (λ (p : Parts Event). events_give p.items es >>= λ x. unless (fault_after_events kind p.rest) x) (parts_of-next (event_at kind) (events_shrink kind) w e r h)
    ∙ ap (λ (s : Result Bool MessageFault). (s >>= λ ignored. events_give more.items (e ∷ es) >>= λ rest. Ok (rest.0, cond ignored 1 0 + rest.1)) >>= λ x. unless (fault_after_events kind more.rest) x) taken

pub template_set_gives-fault : (kind : TemplateKind) (es : List Event) (w : List ℕ) (f : MessageFault) → is_padding w ≡ false → event_at kind w ≡ Err f → template_set_gives kind es w ≡ Err f
unfolding events_give
template_set_gives-fault kind es w f long h =
    template_set_gives-is kind es w
    ∙ ap (λ (p : Parts Event). events_give p.items es >>= λ x. unless (fault_after_events kind p.rest) x) (parts_of-none (event_at kind) w f h)
    ∙ rw (long, h) refl

pub template_set_gives-done : (kind : TemplateKind) (es : List Event) (w : List ℕ) → is_padding w ≡ true → template_set_gives kind es w ≡ Ok (es, 0)
unfolding events_give
template_set_gives-done kind es w h =
    let none = padding_is_none kind w h in
    template_set_gives-is kind es w
    ∙ ap (λ (p : Parts Event). events_give p.items es >>= λ x. unless (fault_after_events kind p.rest) x) (parts_of-none (event_at kind) w none.0 none.1)
    ∙ rw h refl

-- ---- what a definition gives

abbrev changed_or : {A : Type 0} → Bool → A → Result A MessageFault
changed_or b x = cond b (Err TemplateChanged) (Ok x)

pub defined : (es : List Event) (t : Template) → defining t (in_force es t.id) ≡ Ok tt → event_gives es (Define t) ≡ Ok false
unfolding event_gives
defined es t h = by_test (is_other t (in_force es t.id)) h
  where
    by_test : (b : Bool) → changed_or {A = Unit {0}} b tt ≡ Ok tt → changed_or b false ≡ Ok false
    by_test true e = absurd (not_both tt TemplateChanged (sym e))
    by_test false e = refl

pub not_defined : (x : MessageFault) (es : List Event) (t : Template) → Fails x (defining t (in_force es t.id)) → Fails x (event_gives es (Define t))
unfolding event_gives
not_defined x es t fails = Fails-of x (defining t (in_force es t.id)) (changed_or (is_other t (in_force es t.id)) false) (λ f h. by_test (is_other t (in_force es t.id)) f h) fails
  where
    by_test : (b : Bool) (f : MessageFault) → changed_or {A = Unit {0}} b tt ≡ Err f → changed_or b false ≡ Err f
    by_test true f e = ap (λ (x : MessageFault). Err x) (fault_is TemplateChanged f e)
    by_test false f e = absurd (not_both tt f e)

-- ---- entries that stand for events still do after one more

pub agrees_define : (entries news : List (ℕ × Template)) (es : List Event) (t : Template) → Agrees entries es
    → ((id : ℕ) → template_in news id ≡ cond (eqb id t.id) (Some t) (template_in entries id)) → Agrees news (Define t ∷ es)
unfolding in_force
agrees_define entries news es t agrees h = record { at = λ id. h id ∙ ap (cond (eqb id t.id) (Some t)) (agrees.at id) }

pub agrees_withdraw : (entries news : List (ℕ × Template)) (es : List Event) (kind : TemplateKind) (i : ℕ) → Agrees entries es
    → ((id : ℕ) → template_in news id ≡ cond (eqb id i) (unless_of kind (template_in entries id)) (template_in entries id)) → Agrees news (Withdraw kind i ∷ es)
unfolding in_force
agrees_withdraw entries news es kind i agrees h = record { at = λ id. h id ∙ ap (λ (o : Option Template). cond (eqb id i) (unless_of kind o) o) (agrees.at id) }

pub agrees_withdraw_all : (entries news : List (ℕ × Template)) (es : List Event) (kind : TemplateKind) → Agrees entries es
    → ((id : ℕ) → template_in news id ≡ unless_of kind (template_in entries id)) → Agrees news (WithdrawAll kind ∷ es)
unfolding in_force
agrees_withdraw_all entries news es kind agrees h = record { at = λ id. h id ∙ ap (unless_of kind) (agrees.at id) }

-- ---- the loop over a template set

-- events that the entries stand for now, from which what is left gives the same
pub record Going (kind : TemplateKind) (entries : List (ℕ × Template)) (ignored : ℕ) (w : List ℕ) (total : Result (List Event × ℕ) MessageFault) : Type 0 where
  pub events : List Event
  pub agrees : Agrees entries events
  pub same : plus ignored (template_set_gives kind events w) ≡ total

plus-zero : (read : Result (List Event × ℕ) MessageFault) → plus 0 read ≡ read
plus-zero (Ok r) = let e : 0 + r.1 ≡ r.1 = omega arith in ap (λ (n : ℕ). Ok (r.0, n)) e
plus-zero (Err f) = refl

plus-plus : (n m : ℕ) (read : Result (List Event × ℕ) MessageFault) → plus n (plus m read) ≡ plus (n + m) read
plus-plus n m (Ok r) = let e : n + (m + r.1) ≡ n + m + r.1 = omega arith in ap (λ (k : ℕ). Ok (r.0, k)) e
plus-plus n m (Err f) = refl

pub starts : (kind : TemplateKind) (entries : List (ℕ × Template)) (es : List Event) (w : List ℕ) → Agrees entries es → Going kind entries 0 w (template_set_gives kind es w)
starts kind entries es w agrees = record { events = es; agrees = agrees; same = plus-zero (template_set_gives kind es w) }

pub goes_on : (kind : TemplateKind) (entries news : List (ℕ × Template)) (n : ℕ) (w : List ℕ) (e : Event) (r : List ℕ) (b : Bool) (total : Result (List Event × ℕ) MessageFault)
    → event_at kind w ≡ Ok (e, r) → ((es : List Event) → Agrees entries es → event_gives es e ≡ Ok b) → ((es : List Event) → Agrees entries es → Agrees news (e ∷ es))
    → Going kind entries n w total → Going kind news (n + count_of b) r total
goes_on kind entries news n w e r b total h taken agrees going = record {
  events = e ∷ going.events;
  agrees = agrees going.events going.agrees;
  same = sym (plus-plus n (count_of b) (template_set_gives kind (e ∷ going.events) r)) ∙ ap (plus n) (sym (template_set_gives-next kind going.events w e r b h (taken going.events going.agrees))) ∙ going.same;
}

pub ends : (x : MessageFault) (kind : TemplateKind) (entries : List (ℕ × Template)) (n : ℕ) (w : List ℕ) (total : Result (List Event × ℕ) MessageFault)
    → is_padding w ≡ false → Fails x (event_at kind w) → Going kind entries n w total → Fails x total
ends x kind entries n w total long fails going = Fails-of x (event_at kind w) total (λ f h. sym going.same ∙ ap (plus n) (template_set_gives-fault kind going.events w f long h)) fails

pub changes : (x : MessageFault) (kind : TemplateKind) (entries : List (ℕ × Template)) (n : ℕ) (w : List ℕ) (e : Event) (r : List ℕ) (total : Result (List Event × ℕ) MessageFault)
    → event_at kind w ≡ Ok (e, r) → ((es : List Event) → Agrees entries es → Fails x (event_gives es e)) → Going kind entries n w total → Fails x total
changes x kind entries n w e r total h fails going =
    Fails-of x (event_gives going.events e) total (λ f taken. sym going.same ∙ ap (plus n) (template_set_gives-changed kind going.events w e r f h taken)) (fails going.events going.agrees)

pub is_done : (kind : TemplateKind) (entries : List (ℕ × Template)) (n : ℕ) (w : List ℕ) (total : Result (List Event × ℕ) MessageFault) → is_padding w ≡ true → Going kind entries n w total → Updates (Ok n) entries total
is_done kind entries n w total pad going =
    let e : n + 0 ≡ n = omega arith in
    (going.events, sym going.same ∙ ap (plus n) (template_set_gives-done kind going.events w pad) ∙ ap (λ (k : ℕ). Ok (going.events, k)) e, going.agrees)
