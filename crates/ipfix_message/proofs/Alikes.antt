-- A message gives the same after events that leave the same templates in force.
use Rattle.std.proofs.Common.{◌≡◌, ℕ, ◌+◌, Bool, true, false, cond, ltb, eqb, List, [], ◌∷◌, ◌++◌, map, Option, Some, None, Ok, Err, refl, sym, ap}
use Rattle.ipfix_wire.specs.declared.header.Header.{Header}
use Rattle.ipfix_message.specs.declared.fault.MessageFault.{MessageFault}
use Rattle.ipfix_message.specs.declared.fault.MessageFault.TheVariants.{TemplateChanged}
use Rattle.ipfix_message.specs.declared.record.Template.{Template}
use Rattle.ipfix_message.specs.declared.template_record.TemplateKind.{TemplateKind}
use Rattle.ipfix_message.specs.declared.template_record.TemplateKind.TheVariants.{Plain, Options}
use Rattle.ipfix_message.specs.declared.template_record.Event.{Event}
use Rattle.ipfix_message.specs.declared.template_record.Event.TheVariants.{Define, Withdraw, WithdrawAll}
use Rattle.ipfix_message.specs.Outcome.{Read, ◌>>=◌, unless}
use Rattle.ipfix_message.specs.DataRecords.{records_of_body, record_of}
use Rattle.ipfix_message.specs.TemplateRecords.{events_of, fault_after_events}
use Rattle.ipfix_message.specs.TemplatesInForce.{unless_of, is_other, is_none_of, in_force, event_gives, events_give, template_set_gives}
use Rattle.ipfix_message.specs.Sets.{Set, sets_of, fault_after_sets}
use Rattle.ipfix_message.specs.Messages.{Decoding, one_skipped, one_unknown, more_ignored, templates_in, data_in, set_gives, sets_give, sets_from}
use Rattle.ipfix_message.proofs.Reading.{ok_is, not_both, fault_is}
use Rattle.ipfix_message.specs.Alike.{SameInForce, Alike, SameDecoding}

-- ---- readings that are alike

pub alike-bind : {X Y : Type 0} (R : X → X → Type 0) (S : Y → Y → Type 0) (r s : Read X) (f g : X → Read Y) → Alike R r s → ((x y : X) → R x y → Alike S (f x) (g y)) → Alike S (r >>= f) (s >>= g)
alike-bind R S (Ok x) (Ok y) f g h next = next x y h
alike-bind R S (Err d) (Err e) f g h next = h
alike-bind R S (Ok x) (Err e) f g h next = absurd h
alike-bind R S (Err d) (Ok y) f g h next = absurd h

abbrev pub Equal : {X : Type 0} → X → X → Type 0
Equal x y = x ≡ y

pub alike-equal : {X : Type 0} (r s : Read X) → r ≡ s → Alike Equal r s
alike-equal (Ok x) (Ok y) e = ok_is x y e
alike-equal (Err d) (Err c) e = fault_is d c e
alike-equal (Ok x) (Err c) e = not_both x c e
alike-equal (Err d) (Ok y) e = not_both y d (sym e)

alike-unless : {X : Type 0} (R : X → X → Type 0) (o : Option MessageFault) (x y : X) → R x y → Alike R (unless o x) (unless o y)
alike-unless R None x y h = h
alike-unless R (Some f) x y h = refl

alike-cond : {X : Type 0} (R : X → X → Type 0) (b : Bool) (r s p q : Read X) → Alike R r p → Alike R s q → Alike R (cond b r s) (cond b p q)
alike-cond R true r s p q h k = h
alike-cond R false r s p q h k = k

-- ---- events

pub same_with : (es fs : List Event) (e : Event) → SameInForce es fs → SameInForce (e ∷ es) (e ∷ fs)
unfolding in_force
same_with es fs (Define t) same = record { at = λ id. ap (cond (eqb id t.id) (Some t)) (same.at id) }
same_with es fs (Withdraw kind i) same = record { at = λ id. ap (λ (o : Option Template). cond (eqb id i) (unless_of kind o) o) (same.at id) }
same_with es fs (WithdrawAll kind) same = record { at = λ id. ap (unless_of kind) (same.at id) }

abbrev changed_or : Bool → Bool → Read Bool
changed_or b ignored = cond b (Err TemplateChanged) (Ok ignored)

same_event : (es fs : List Event) (e : Event) → SameInForce es fs → event_gives es e ≡ event_gives fs e
unfolding event_gives
same_event es fs (Define t) same = ap (λ (o : Option Template). changed_or (is_other t o) false) (same.at t.id)
same_event es fs (Withdraw kind id) same = ap (λ (o : Option Template). changed_or false (is_none_of kind o)) (same.at id)
same_event es fs (WithdrawAll kind) same = refl

abbrev SameEvents : List Event × ℕ → List Event × ℕ → Type 0
SameEvents a b = SameInForce a.0 b.0 × (a.1 ≡ b.1)

same_events : (more es fs : List Event) → SameInForce es fs → Alike SameEvents (events_give more es) (events_give more fs)
unfolding events_give
same_events [] es fs same = (same, refl)
same_events (e ∷ more) es fs same =
    alike-bind Equal SameEvents (event_gives es e) (event_gives fs e)
    (λ ignored. events_give more (e ∷ es) >>= λ rest. Ok (rest.0, cond ignored 1 0 + rest.1))
    (λ ignored. events_give more (e ∷ fs) >>= λ rest. Ok (rest.0, cond ignored 1 0 + rest.1))
    (alike-equal (event_gives es e) (event_gives fs e) (same_event es fs e same))
    (λ a b is. alike-bind SameEvents SameEvents (events_give more (e ∷ es)) (events_give more (e ∷ fs))
    (λ rest. Ok (rest.0, cond a 1 0 + rest.1)) (λ rest. Ok (rest.0, cond b 1 0 + rest.1))
    (same_events more (e ∷ es) (e ∷ fs) (same_with es fs e same))
    (λ x y h. (h.0, rw (is, h.1) refl)))

same_template_set : (kind : TemplateKind) (es fs : List Event) (w : List ℕ) → SameInForce es fs → Alike SameEvents (template_set_gives kind es w) (template_set_gives kind fs w)
unfolding template_set_gives
same_template_set kind es fs w same =
    let rest = fault_after_events kind (events_of kind w).rest in
    alike-bind SameEvents SameEvents (events_give (events_of kind w).items es) (events_give (events_of kind w).items fs) (λ r. unless rest r) (λ r. unless rest r)
    (same_events (events_of kind w).items es fs same) (λ x y h. alike-unless SameEvents rest x y h)

-- ---- sets

same_templates : (kind : TemplateKind) (d e : Decoding) (body : List ℕ) → SameDecoding d e → Alike SameDecoding (templates_in kind d body) (templates_in kind e body)
unfolding templates_in
same_templates kind d e body same =
    alike-bind SameEvents SameDecoding (template_set_gives kind d.events body) (template_set_gives kind e.events body)
    (λ r. Ok (record d { events = r.0; passed_over = more_ignored r.1 d.passed_over })) (λ r. Ok (record e { events = r.0; passed_over = more_ignored r.1 e.passed_over }))
    (same_template_set kind d.events e.events body same.events)
    (λ x y h. record { events = h.0; records = same.records; passed_over = rw (h.1, same.passed_over) refl })

data_alike : (h : Header) (d e : Decoding) (body : List ℕ) (o : Option Template) → SameDecoding d e → Alike SameDecoding (data_in h d body o) (data_in h e body o)
unfolding data_in
data_alike h d e body None same = record { events = same.events; records = same.records; passed_over = ap one_unknown same.passed_over }
data_alike h d e body (Some t) same =
    alike-bind Equal SameDecoding (records_of_body t.specs body) (records_of_body t.specs body)
    (λ rs. Ok (record d { records = d.records ++ map (record_of h t) rs })) (λ rs. Ok (record e { records = e.records ++ map (record_of h t) rs }))
    (alike-equal (records_of_body t.specs body) (records_of_body t.specs body) refl)
    (λ x y is. record { events = same.events; records = rw (is, same.records) refl; passed_over = same.passed_over })

same_data : (h : Header) (d e : Decoding) (body : List ℕ) (o p : Option Template) → o ≡ p → SameDecoding d e → Alike SameDecoding (data_in h d body o) (data_in h e body p)
same_data h d e body o p is same = rw is (data_alike h d e body p same)

same_set : (h : Header) (d e : Decoding) (s : Set) → SameDecoding d e → Alike SameDecoding (set_gives h d s) (set_gives h e s)
unfolding set_gives
same_set h d e s same =
    alike-cond SameDecoding (eqb s.id 2) _ _ _ _ (same_templates Plain d e s.body same)
    (alike-cond SameDecoding (eqb s.id 3) _ _ _ _ (same_templates Options d e s.body same)
    (alike-cond SameDecoding (ltb s.id 256) (Ok (record d { passed_over = one_skipped d.passed_over })) _ (Ok (record e { passed_over = one_skipped e.passed_over })) _
    (record { events = same.events; records = same.records; passed_over = ap one_skipped same.passed_over })
    (same_data h d e s.body (in_force d.events s.id) (in_force e.events s.id) (same.events.at s.id) same)))

same_sets : (h : Header) (ss : List Set) (d e : Decoding) → SameDecoding d e → Alike SameDecoding (sets_give h d ss) (sets_give h e ss)
unfolding sets_give
same_sets h [] d e same = same
same_sets h (s ∷ ss) d e same =
    alike-bind SameDecoding SameDecoding (set_gives h d s) (set_gives h e s) (λ x. sets_give h x ss) (λ x. sets_give h x ss) (same_set h d e s same)
    (λ x y h'. same_sets h ss x y h')

-- what follows a message's header gives the same
pub sets_alike : (h : Header) (d e : Decoding) (w : List ℕ) → SameDecoding d e → Alike SameDecoding (sets_from h d w) (sets_from h e w)
unfolding sets_from
sets_alike h d e w same =
    let rest = fault_after_sets (sets_of w).rest in
    alike-bind SameDecoding SameDecoding (sets_give h d (sets_of w).items) (sets_give h e (sets_of w).items) (λ x. unless rest x) (λ x. unless rest x) (same_sets h (sets_of w).items d e same)
    (λ x y k. alike-unless SameDecoding rest x y k)
