-- What a message that was read adds to the events of its domain: the events of its template sets, the newest first.
use Rattle.std.proofs.Common.{◌≡◌, ℕ, ◌+◌, Bool, true, false, cond, ltb, eqb, List, [], ◌∷◌, ◌++◌, append_assoc, map, drop, Option, Some, None, Ok, sym, ap, ◌∙◌}
use Rattle.std.specs.Prelude.{reverse, flat_map}
use Rattle.std.proofs.lemmas.List.{reverse-append}
use Rattle.ipfix_wire.specs.declared.header.Header.{Header}
use Rattle.ipfix_message.specs.declared.fault.MessageFault.{MessageFault}
use Rattle.ipfix_message.specs.declared.record.Template.{Template}
use Rattle.ipfix_message.specs.declared.template_record.TemplateKind.{TemplateKind}
use Rattle.ipfix_message.specs.declared.template_record.TemplateKind.TheVariants.{Plain, Options}
use Rattle.ipfix_message.specs.declared.template_record.Event.{Event}
use Rattle.ipfix_message.specs.Outcome.{◌>>=◌, unless}
use Rattle.ipfix_message.specs.TemplateRecords.{events_of, fault_after_events}
use Rattle.ipfix_message.specs.TemplatesInForce.{in_force, event_gives, events_give, template_set_gives}
use Rattle.ipfix_message.specs.DataRecords.{records_of_body, record_of}
use Rattle.ipfix_message.specs.Sets.{Set, sets_of, fault_after_sets}
use Rattle.ipfix_message.specs.Messages.{Decoding, before, one_skipped, more_ignored, templates_in, data_in, set_gives, sets_give, sets_from}
use Rattle.ipfix_message.specs.Domains.{History, Message, events_in, message_gives}
use Rattle.ipfix_message.proofs.Reading.{ok_is, bind_ok, not_both}
use Rattle.ipfix_message.proofs.PartsOf.{was_read}
use Rattle.ipfix_datagrams.specs.Datagrams.{events_of_set, events_of_message}

-- the events after some more, the newest first
abbrev after : List Event → List Event → List Event
after more es = reverse more ++ es

after-append : (first second es : List Event) → after second (after first es) ≡ after (first ++ second) es
after-append first second es = sym (append_assoc (reverse second) (reverse first) es) ∙ ap (λ (fs : List Event). fs ++ es) (sym (reverse-append first second))

unless_ok : {X : Type 0} (o : Option MessageFault) (x y : X) → unless o x ≡ Ok y → x ≡ y
unless_ok None x y e = ok_is x y e
unless_ok (Some f) x y e = absurd (not_both y f (sym e))

-- ---- a template set

events_given : (more es : List Event) (r : List Event × ℕ) → events_give more es ≡ Ok r → r.0 ≡ after more es
unfolding events_give
events_given [] es r is = ap (λ (x : List Event × ℕ). x.0) (sym (ok_is (es, 0) r is))
events_given (e ∷ more) es r is =
    let one = bind_ok (event_gives es e) (λ ignored. events_give more (e ∷ es) >>= λ rest. Ok (rest.0, cond ignored 1 0 + rest.1)) r is in
    let rest = bind_ok (events_give more (e ∷ es)) (λ x. Ok (x.0, cond one.0 1 0 + x.1)) r one.2 in
    ap (λ (x : List Event × ℕ). x.0) (sym (ok_is (rest.0.0, cond one.0 1 0 + rest.0.1) r rest.2)) ∙ events_given more (e ∷ es) rest.0 rest.1 ∙ after-append (e ∷ []) more es

set_given : (kind : TemplateKind) (es : List Event) (w : List ℕ) (r : List Event × ℕ) → template_set_gives kind es w ≡ Ok r → r.0 ≡ after (events_of kind w).items es
unfolding template_set_gives
set_given kind es w r is =
    let all = bind_ok (events_give (events_of kind w).items es) (λ x. unless (fault_after_events kind (events_of kind w).rest) x) r is in
    ap (λ (x : List Event × ℕ). x.0) (sym (unless_ok (fault_after_events kind (events_of kind w).rest) all.0 r all.2)) ∙ events_given (events_of kind w).items es all.0 all.1

templates_given : (kind : TemplateKind) (d e : Decoding) (body : List ℕ) → templates_in kind d body ≡ Ok e → e.events ≡ after (events_of kind body).items d.events
unfolding templates_in
templates_given kind d e body is =
    let r = bind_ok (template_set_gives kind d.events body) (λ x. Ok (record d { events = x.0; passed_over = more_ignored x.1 d.passed_over })) e is in
    ap (λ (x : Decoding). x.events) (sym (ok_is (record d { events = r.0.0; passed_over = more_ignored r.0.1 d.passed_over }) e r.2)) ∙ set_given kind d.events body r.0 r.1

-- ---- any set

data_given : (h : Header) (d e : Decoding) (body : List ℕ) (o : Option Template) → data_in h d body o ≡ Ok e → e.events ≡ d.events
unfolding data_in
data_given h d e body None is = ap (λ (x : Decoding). x.events) (sym (ok_is _ e is))
data_given h d e body (Some t) is =
    let r = bind_ok (records_of_body t.specs body) (λ rs. Ok (record d { records = d.records ++ map (record_of h t) rs })) e is in
    ap (λ (x : Decoding). x.events) (sym (ok_is (record d { records = d.records ++ map (record_of h t) r.0 }) e r.2))

-- an id that is no template set's
other_given : (h : Header) (d e : Decoding) (s : Set) (b : Bool) → cond b (Ok (record d { passed_over = one_skipped d.passed_over })) (data_in h d s.body (in_force d.events s.id)) ≡ Ok e → e.events ≡ d.events
other_given h d e s true is = ap (λ (x : Decoding). x.events) (sym (ok_is (record d { passed_over = one_skipped d.passed_over }) e is))
other_given h d e s false is = data_given h d e s.body (in_force d.events s.id) is

by_kind : (h : Header) (d e : Decoding) (s : Set) (a b c : Bool)
    → cond a (templates_in Plain d s.body) (cond b (templates_in Options d s.body) (cond c (Ok (record d { passed_over = one_skipped d.passed_over })) (data_in h d s.body (in_force d.events s.id)))) ≡ Ok e
    → e.events ≡ after (cond a (events_of Plain s.body).items (cond b (events_of Options s.body).items [])) d.events
by_kind h d e s true b c is = templates_given Plain d e s.body is
by_kind h d e s false true c is = templates_given Options d e s.body is
by_kind h d e s false false c is = other_given h d e s c is

one_given : (h : Header) (d e : Decoding) (s : Set) → set_gives h d s ≡ Ok e → e.events ≡ after (events_of_set s) d.events
unfolding set_gives
one_given h d e s is = by_kind h d e s (eqb s.id 2) (eqb s.id 3) (ltb s.id 256) is

all_given : (h : Header) (d e : Decoding) (ss : List Set) → sets_give h d ss ≡ Ok e → e.events ≡ after (flat_map events_of_set ss) d.events
unfolding sets_give
all_given h d e [] is = ap (λ (x : Decoding). x.events) (sym (ok_is d e is))
all_given h d e (s ∷ ss) is =
    let one = bind_ok (set_gives h d s) (λ x. sets_give h x ss) e is in
    all_given h one.0 e ss one.2 ∙ ap (after (flat_map events_of_set ss)) (one_given h d one.0 s one.1) ∙ after-append (events_of_set s) (flat_map events_of_set ss) d.events

from_given : (h : Header) (d e : Decoding) (w : List ℕ) → sets_from h d w ≡ Ok e → e.events ≡ after (flat_map events_of_set (sets_of w).items) d.events
unfolding sets_from
from_given h d e w is =
    let all = bind_ok (sets_give h d (sets_of w).items) (λ x. unless (fault_after_sets (sets_of w).rest) x) e is in
    ap (λ (x : Decoding). x.events) (sym (unless_ok (fault_after_sets (sets_of w).rest) all.0 e all.2)) ∙ all_given h d all.0 (sets_of w).items all.1

-- ---- a message

pub message_given : (ds : History) (m : List ℕ) (x : Message) → message_gives ds m ≡ Ok x → x.decoding.events ≡ reverse (events_of_message m) ++ events_in ds x.header.domain
message_given ds m x read = from_given x.header (before (events_in ds x.header.domain)) x.decoding (drop 16 m) (was_read ds m x read).sets
