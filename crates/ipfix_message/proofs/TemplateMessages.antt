-- Messages in which templates are written again are read: they put these templates in force.
use Rattle.std.proofs.Common.{◌≡◌, ℕ, ◌+◌, ◌^◌, ◌<◌, Bool, true, false, cond, ltb, eqb, is_some, List, [], ◌∷◌, ◌++◌, length, Option, Some, None, Result, Ok, refl, sym, ap, ◌∙◌, arith, inl, inr}
use Rattle.std.specs.Prelude.{◌⊎◌, All}
use Rattle.std.proofs.lemmas.Bool.{le-ltb, eq-eqb}
use Rattle.std.proofs.lemmas.Bool.Decides.{eqb_tells}
use Rattle.std.proofs.lemmas.List.{append-nil, length-append}
use Rattle.std.proofs.lemmas.List.Elements.{All-nil, All-cons, All-head, All-tail}
use Rattle.ipfix_wire.specs.MessageHeader.{header_octets, header_at}
use Rattle.ipfix_wire.specs.SetHeader.{set_octets}
use Rattle.ipfix_wire.specs.declared.header.Header.{Header}
use Rattle.ipfix_wire.proofs.Headers.{read}
use Rattle.ipfix_wire.proofs.Written.{header_again}
use Rattle.ipfix_message.specs.declared.fault.MessageFault.{MessageFault}
use Rattle.ipfix_message.specs.declared.record.Template.{Template}
use Rattle.ipfix_message.specs.declared.template_record.TemplateKind.{TemplateKind}
use Rattle.ipfix_message.specs.declared.template_record.TemplateKind.TheVariants.{Plain, Options}
use Rattle.ipfix_message.specs.declared.template_record.Event.{Event}
use Rattle.ipfix_message.specs.declared.template_record.Event.TheVariants.{Define}
use Rattle.ipfix_message.specs.Outcome.{◌>>=◌}
use Rattle.ipfix_message.specs.TemplateRecords.{set_id_of, event_at}
use Rattle.ipfix_message.specs.TemplatesInForce.{is_other, same_template, in_force, event_gives, template_set_gives}
use Rattle.ipfix_message.specs.Sets.{Set, next_set}
use Rattle.ipfix_message.specs.Messages.{Decoding, more_ignored, templates_in, set_gives, sets_from}
use Rattle.ipfix_message.specs.Domains.{message_header}
use Rattle.ipfix_message.proofs.TemplateRecords.{events_read}
use Rattle.ipfix_message.proofs.WritableTemplates.{template_spelled}
use Rattle.ipfix_message.proofs.TemplateSets.{template_set_gives-next, template_set_gives-done}
use Rattle.ipfix_message.proofs.MessageSets.{next_set-only}
use Rattle.ipfix_message.proofs.Decoding.{sets_from-next, sets_from-done}
use Rattle.ipfix_message.proofs.Same.{same_template-Decides}
use Rattle.ipfix_message.specs.declared.stamp.Stamp.{Stamp}
use Rattle.ipfix_message.specs.WrittenTemplates.{kind_of, template_octets, template_set, IsTemplate}
use Rattle.ipfix_message.specs.TemplateMessages.{IsStamp, sets_octets, stamped, templates_message}

-- ---- a template

-- no template is in force for its id, or this one is
abbrev IsFree : List Event → Template → Type 0
IsFree es t = (in_force es t.id ≡ None) ⊎ (in_force es t.id ≡ Some t)

not_other : (t : Template) (o : Option Template) → (o ≡ None) ⊎ (o ≡ Some t) → is_other t o ≡ false
not_other t o (inl none) = rw none refl
not_other t o (inr same) = let yes : same_template t t ≡ true = (same_template-Decides t t).1 refl in rw (same, yes) refl

defines : (es : List Event) (t : Template) → IsFree es t → event_gives es (Define t) ≡ Ok false
unfolding event_gives
defines es t free = let no = not_other t (in_force es t.id) free in rw no refl

set_templates : (t : Template) (es : List Event) → IsTemplate t → IsFree es t → template_set_gives (kind_of t) es (template_octets t) ≡ Ok (Define t ∷ es, 0)
set_templates t es is free =
    let w = template_octets t in
    let at : event_at (kind_of t) w ≡ Ok (Define t, []) = ap (event_at (kind_of t)) (sym (append-nil w)) ∙ (events_read (kind_of t)).only (Define t) w [] (template_spelled t is) in
    template_set_gives-next (kind_of t) es w (Define t) [] false at (defines es t free)
    ∙ ap (λ (r : Result (List Event × ℕ) MessageFault). r >>= λ x. Ok (x.0, 0 + x.1)) (template_set_gives-done (kind_of t) (Define t ∷ es) [] refl)

abbrev set_of : Template → Set
set_of t = record { id = set_id_of (kind_of t); body = template_octets t }

set_is : (k : TemplateKind) (h : Header) (d : Decoding) (body : List ℕ) → set_gives h d (record { id = set_id_of k; body = body }) ≡ templates_in k d body
unfolding set_gives
set_is Plain h d body = refl
set_is Options h d body = refl

-- one more definition
abbrev pub defining : Template → Decoding → Decoding
defining t d = record d { events = Define t ∷ d.events }

one_set : (h : Header) (d : Decoding) (t : Template) → IsTemplate t → IsFree d.events t → set_gives h d (set_of t) ≡ Ok (defining t d)
unfolding templates_in
one_set h d t is free =
    let none : d.passed_over.ignored_withdrawals + 0 ≡ d.passed_over.ignored_withdrawals = omega arith in
    set_is (kind_of t) h d (template_octets t)
    ∙ ap (λ (r : Result (List Event × ℕ) MessageFault). r >>= λ x. Ok (record d { events = x.0; passed_over = more_ignored x.1 d.passed_over })) (set_templates t d.events is free)
    ∙ ap (λ (n : ℕ). Ok (record d { events = Define t ∷ d.events; passed_over = record d.passed_over { ignored_withdrawals = n } })) none

small_id : (k : TemplateKind) → set_id_of k < 2 ^ 16
small_id Plain = omega arith
small_id Options = omega arith

next_is : (t : Template) (rest : List ℕ) → IsTemplate t → next_set (template_set t ++ rest) ≡ Ok (set_of t, rest)
next_is t rest is =
    next_set-only (set_of t) (template_set t) rest (record {
      id = small_id (kind_of t);
      size = omega (arith, is.fits, length-append (set_octets (set_id_of (kind_of t)) (length (template_octets t))) (template_octets t));
      octets = refl;
    })

-- ---- templates in turn

abbrev pub defined : List Template → List Event → List Event
defined [] es = es
defined (t ∷ ts) es = defined ts (Define t ∷ es)

pub defined-append : (ts us : List Template) (es : List Event) → defined (ts ++ us) es ≡ defined us (defined ts es)
defined-append [] us es = refl
defined-append (t ∷ ts) us es = defined-append ts us (Define t ∷ es)

-- at each id no template is in force, or the one that is after all of these
pub record Below (es full : List Event) : Type 0 where
  pub at : (id : ℕ) → (in_force es id ≡ None) ⊎ (in_force es id ≡ in_force full id)

abbrev pub Stands : List Event → Template → Type 0
Stands full t = in_force full t.id ≡ Some t

below_next : (es full : List Event) (t : Template) → Below es full → Stands full t → Below (Define t ∷ es) full
unfolding in_force
below_next es full t below is = record {
  at = λ id. elim (eqb_tells id t.id) [
    | inl here ↦ rw (here.0, here.1) (inr (sym is))
    | inr other ↦ rw other.0 (below.at id)
  ];
}

free : (es full : List Event) (t : Template) → Below es full → Stands full t → IsFree es t
free es full t below is = elim (below.at t.id) [ inl none ↦ inl none | inr same ↦ inr (same ∙ is) ]

pub below_all : (ts : List Template) (es full : List Event) → Below es full → All (Stands full) ts → Below (defined ts es) full
below_all [] es full below all = below
below_all (t ∷ ts) es full below all = below_all ts (Define t ∷ es) full (below_next es full t below (All-head (Stands full) t ts all)) (All-tail (Stands full) t ts all)

-- what is defined stays defined
one_more : (t : Template) (es : List Event) (id : ℕ) → is_some (in_force es id) ≡ true → is_some (in_force (Define t ∷ es) id) ≡ true
unfolding in_force
one_more t es id h = by_test (eqb id t.id)
  where
    by_test : (b : Bool) → is_some (cond b (Some t) (in_force es id)) ≡ true
    by_test true = refl
    by_test false = h

stays : (ts : List Template) (es : List Event) (id : ℕ) → is_some (in_force es id) ≡ true → is_some (in_force (defined ts es) id) ≡ true
stays [] es id h = h
stays (t ∷ ts) es id h = stays ts (Define t ∷ es) id (one_more t es id h)

defines_itself : (t : Template) (es : List Event) → is_some (in_force (Define t ∷ es) t.id) ≡ true
unfolding in_force
defines_itself t es = let e : eqb t.id t.id ≡ true = eq-eqb t.id t.id refl in rw e refl

abbrev pub IsDefined : List Event → Template → Type 0
IsDefined es t = is_some (in_force es t.id) ≡ true

pub all_defined : (ts : List Template) (es : List Event) → All (IsDefined (defined ts es)) ts
all_defined [] es = All-nil (IsDefined es)
all_defined (t ∷ ts) es = All-cons (IsDefined (defined ts (Define t ∷ es))) t ts (stays ts (Define t ∷ es) t.id (defines_itself t es)) (all_defined ts (Define t ∷ es))

-- ---- the sets of a message

pub sets_read : (h : Header) (ts : List Template) (d : Decoding) (full : List Event) → All IsTemplate ts → All (Stands full) ts → Below d.events full
    → sets_from h d (sets_octets ts) ≡ Ok (record d { events = defined ts d.events })
sets_read h [] d full are stand below = sets_from-done h d [] refl
sets_read h (t ∷ ts) d full are stand below =
    let is = All-head IsTemplate t ts are in
    let here = All-head (Stands full) t ts stand in
    sets_from-next h d (defining t d) (template_set t ++ sets_octets ts) (set_of t) (sets_octets ts) (next_is t (sets_octets ts) is) (one_set h d t is (free d.events full t below here))
    ∙ sets_read h ts (defining t d) full (All-tail IsTemplate t ts are) (All-tail (Stands full) t ts stand) (below_next d.events full t below here)

-- ---- its header

pub header_is : (s : Stamp) (ts : List Template) → IsStamp s → 16 + length (sets_octets ts) < 2 ^ 16 → message_header (templates_message s ts) ≡ Ok (stamped s (length (sets_octets ts)))
unfolding message_header
header_is s ts is fits =
    let m = templates_message s ts in
    let h = stamped s (length (sets_octets ts)) in
    let size : length m ≡ 16 + length (sets_octets ts) = omega (arith, length-append (header_octets h) (sets_octets ts)) in
    let long : ltb (length m) 16 ≡ false = le-ltb (length m) 16 (omega (arith, size)) in
    let at : header_at m ≡ read h = header_again h (sets_octets ts) (omega arith) fits is.export_time is.sequence is.domain in
    let same : eqb (16 + length (sets_octets ts)) (length m) ≡ true = eq-eqb (16 + length (sets_octets ts)) (length m) (sym size) in
    rw (long, at, same) refl
