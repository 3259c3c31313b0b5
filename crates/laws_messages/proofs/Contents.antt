-- One set: what it gives is what stands in it.
use Rattle.std.proofs.Common.{◌≡◌, ℕ, ◌+◌, ◌<◌, ◌≤◌, Bool, cond, eqb, ltb, List, [], ◌++◌, map, Option, Some, None, Result, Ok, refl, sym, ap, ◌∙◌, arith, inl, inr}
use Rattle.std.specs.Prelude.{◌≢◌}
use Rattle.std.proofs.lemmas.Bool.{eqb-true, eqb-false, ltb-true, ltb-false, lt-ltb, le-ltb, eq-eqb}
use Rattle.std.proofs.lemmas.List.{append-nil}
use Rattle.ipfix_wire.specs.Numbers.{IsOctets}
use Rattle.ipfix_wire.specs.declared.header.Header.{Header}
use Rattle.ipfix_wire.proofs.Choices.{chosen, different}
use Rattle.ipfix_message.specs.declared.fault.MessageFault.{MessageFault}
use Rattle.ipfix_message.specs.declared.record.DataRecord.{DataRecord}
use Rattle.ipfix_message.specs.declared.record.Template.{Template}
use Rattle.ipfix_message.specs.declared.template_record.TemplateKind.{TemplateKind}
use Rattle.ipfix_message.specs.declared.template_record.TemplateKind.TheVariants.{Plain, Options}
use Rattle.ipfix_message.specs.declared.template_record.Event.{Event}
use Rattle.ipfix_message.specs.Fields.{Field}
use Rattle.ipfix_message.specs.Outcome.{◌>>=◌}
use Rattle.ipfix_message.specs.DataRecords.{records_of_body, record_of}
use Rattle.ipfix_message.specs.SpelledFields.{least}
use Rattle.ipfix_message.specs.Sets.{Set}
use Rattle.ipfix_message.specs.TemplateRecords.{set_id_of}
use Rattle.ipfix_message.specs.TemplatesInForce.{IsInForce, in_force, template_set_gives}
use Rattle.ipfix_message.specs.Messages.{Decoding, one_skipped, one_unknown, more_ignored, templates_in, data_in, set_gives}
use Rattle.ipfix_message.proofs.Bodies.{records_of_body-found, records_of_body-only}
use Rattle.ipfix_message.proofs.LastDefinition.{in_force-found, in_force-only}
use Rattle.ipfix_message.proofs.Reading.{ok_is, bind_ok}
use Rattle.laws_messages.specs.WholeMessages.{Content, template_records, data_records, unknown_set, skipped_set, StandsIn, events_of, behind, records_of, is_skipped, is_unknown, ignored_in}
use Rattle.laws_messages.proofs.TemplateEvents.{given, templates-found, templates-only}

abbrev pub one_if : Bool → ℕ
one_if b = cond b 1 0

-- what was read before a set, and what stands in it
abbrev pub with_set : Header → Decoding → Content → Decoding
with_set h d c = record {
  events = behind d.events (events_of c);
  records = d.records ++ records_of h c;
  passed_over = record {
    skipped_sets = d.passed_over.skipped_sets + one_if (is_skipped c);
    unknown_sets = d.passed_over.unknown_sets + one_if (is_unknown c);
    ignored_withdrawals = d.passed_over.ignored_withdrawals + ignored_in d.events (events_of c);
  };
}

-- the set holds this, and it gives what was read then
pub record Holds (h : Header) (d : Decoding) (s : Set) (e : Decoding) : Type 0 where
  pub content : Content
  pub stands : StandsIn d.events s content
  pub are : with_set h d content ≡ e

abbrev pub decoding : List Event → List DataRecord → ℕ → ℕ → ℕ → Decoding
decoding es rs skipped unknown ignored = record { events = es; records = rs; passed_over = record { skipped_sets = skipped; unknown_sets = unknown; ignored_withdrawals = ignored } }

pub made : (es fs : List Event) (rs qs : List DataRecord) (a b i j u v : ℕ) → es ≡ fs → rs ≡ qs → a ≡ b → i ≡ j → u ≡ v
    → decoding es rs a i u ≡ decoding fs qs b j v
made es fs rs qs a b i j u v p q x y z = rw (p, q, x, y, z) refl

-- ---- templates

abbrev templates_after : Decoding → List Event × ℕ → Decoding
templates_after d r = record d { events = r.0; passed_over = more_ignored r.1 d.passed_over }

with_templates : (h : Header) (d : Decoding) (kind : TemplateKind) (events : List Event) → with_set h d (template_records kind events) ≡ templates_after d (given d.events events)
with_templates h d kind events = made (behind d.events events) (behind d.events events) (d.records ++ []) d.records _ _ _ _ _ _ refl (append-nil d.records) (omega arith) (omega arith) refl

templates_hold : (h : Header) (d e : Decoding) (kind : TemplateKind) (s : Set) → s.id ≡ set_id_of kind → IsOctets s.body → templates_in kind d s.body ≡ Ok e → Holds h d s e
unfolding templates_in
templates_hold h d e kind s is fits read =
    let r = bind_ok (template_set_gives kind d.events s.body) (λ r. Ok (templates_after d r)) e read in
    let found = templates-found kind d.events s.body r.0 fits r.1 in
    record {
      content = template_records kind found.events;
      stands = (is, found.set, found.keep);
      are = with_templates h d kind found.events ∙ ap (templates_after d) found.are ∙ ok_is (templates_after d r.0) e r.2;
    }

templates_give : (h : Header) (d : Decoding) (kind : TemplateKind) (events : List Event) (s : Set) → IsOctets s.body → StandsIn d.events s (template_records kind events)
    → templates_in kind d s.body ≡ Ok (with_set h d (template_records kind events))
unfolding templates_in
templates_give h d kind events s fits stands =
    ap (λ (read : Result (List Event × ℕ) MessageFault). read >>= λ r. Ok (templates_after d r)) (templates-only kind d.events events s.body fits stands.1 stands.2)
    ∙ ap (λ (e : Decoding). Ok e) (sym (with_templates h d kind events))

-- ---- data records

with_records : (h : Header) (d : Decoding) (t : Template) (rs : List (List Field)) → with_set h d (data_records t rs) ≡ record d { records = d.records ++ map (record_of h t) rs }
with_records h d t rs = made d.events d.events _ _ _ _ _ _ _ _ refl refl (omega arith) (omega arith) (omega arith)

with_unknown : (h : Header) (d : Decoding) → with_set h d unknown_set ≡ record d { passed_over = one_unknown d.passed_over }
with_unknown h d = made d.events d.events (d.records ++ []) d.records _ _ _ _ _ _ refl (append-nil d.records) (omega arith) refl (omega arith)

with_skipped : (h : Header) (d : Decoding) → with_set h d skipped_set ≡ record d { passed_over = one_skipped d.passed_over }
with_skipped h d = made d.events d.events (d.records ++ []) d.records _ _ _ _ _ _ refl (append-nil d.records) refl (omega arith) (omega arith)

data_holds : (h : Header) (d e : Decoding) (s : Set) (o : Option Template) → 256 ≤ s.id → in_force d.events s.id ≡ o → IsOctets s.body → data_in h d s.body o ≡ Ok e → Holds h d s e
unfolding data_in
data_holds h d e s None first is fits read = record {
  content = unknown_set;
  stands = (first, λ t same in_it. let at = in_force-only d.events s.id t same in_it in absurd cc);
  are = with_unknown h d ∙ ok_is (record d { passed_over = one_unknown d.passed_over }) e read;
}
data_holds h d e s (Some t) first is fits read =
    let r = bind_ok (records_of_body t.specs s.body) (λ rs. Ok (record d { records = d.records ++ map (record_of h t) rs })) e read in
    let found = in_force-found d.events s.id t is in
    record {
      content = data_records t r.0;
      stands = (first, found.0, found.1, records_of_body-found t.specs s.body r.0 fits r.1);
      are = with_records h d t r.0 ∙ ok_is (record d { records = d.records ++ map (record_of h t) r.0 }) e r.2;
    }

records_give : (h : Header) (d : Decoding) (t : Template) (rs : List (List Field)) (s : Set) → StandsIn d.events s (data_records t rs)
    → data_in h d s.body (in_force d.events s.id) ≡ Ok (with_set h d (data_records t rs))
unfolding data_in
records_give h d t rs s stands =
    let positive : 0 < least t.specs = omega (arith, stands.3.short) in
    rw (in_force-only d.events s.id t stands.1 stands.2, records_of_body-only t.specs s.body rs positive stands.3)
    (ap (λ (e : Decoding). Ok e) (sym (with_records h d t rs)))

none_in_force : (es : List Event) (id : ℕ) (o : Option Template) → in_force es id ≡ o → ((t : Template) → t.id ≡ id → (in_it : IsInForce t es) → ⊥) → o ≡ None
none_in_force es id None is none = refl
none_in_force es id (Some t) is none = let found = in_force-found es id t is in absurd (none t found.0 found.1)

unknown_gives : (h : Header) (d : Decoding) (s : Set) → StandsIn d.events s unknown_set → data_in h d s.body (in_force d.events s.id) ≡ Ok (with_set h d unknown_set)
unfolding data_in
unknown_gives h d s stands =
    rw (none_in_force d.events s.id (in_force d.events s.id) refl stands.1) (ap (λ (e : Decoding). Ok e) (sym (with_unknown h d)))

-- ---- by the id

pub set-found : (h : Header) (d e : Decoding) (s : Set) → IsOctets s.body → set_gives h d s ≡ Ok e → Holds h d s e
unfolding set_gives
set-found h d e s fits read =
    let of_data = data_in h d s.body (in_force d.events s.id) in
    let skipped : Result Decoding MessageFault = Ok (record d { passed_over = one_skipped d.passed_over }) in
    let other = cond (ltb s.id 256) skipped of_data in
    let options = cond (eqb s.id 3) (templates_in Options d s.body) other in
    elim (chosen (eqb s.id 2) (templates_in Plain d s.body) options (Ok e) read) [
      | inl t ↦ templates_hold h d e Plain s (eqb-true s.id 2 t.0) fits t.1
      | inr f ↦ elim (chosen (eqb s.id 3) (templates_in Options d s.body) other (Ok e) f.1) [
        | inl t ↦ templates_hold h d e Options s (eqb-true s.id 3 t.0) fits t.1
        | inr g ↦ elim (chosen (ltb s.id 256) skipped of_data (Ok e) g.1) [
          | inl t ↦ record {
            content = skipped_set;
            stands = (eqb-false s.id 2 f.0, eqb-false s.id 3 g.0, ltb-true s.id 256 t.0);
            are = with_skipped h d ∙ ok_is (record d { passed_over = one_skipped d.passed_over }) e t.1;
          }
          | inr k ↦ data_holds h d e s (in_force d.events s.id) (ltb-false s.id 256 k.0) refl fits k.1
        ]
      ]
    ]

-- a set whose id is that of no template set
data_set_gives : (h : Header) (d e : Decoding) (s : Set) → 256 ≤ s.id → data_in h d s.body (in_force d.events s.id) ≡ Ok e → set_gives h d s ≡ Ok e
unfolding set_gives
data_set_gives h d e s first is =
    let two : s.id ≢ 2 = λ at. omega (arith, at, first) in
    let three : s.id ≢ 3 = λ at. omega (arith, at, first) in
    rw (different s.id 2 two, different s.id 3 three, le-ltb s.id 256 first) is

pub set-only : (h : Header) (d : Decoding) (s : Set) (c : Content) → IsOctets s.body → StandsIn d.events s c → set_gives h d s ≡ Ok (with_set h d c)
unfolding set_gives
set-only h d s (template_records Plain events) fits stands = rw (eq-eqb s.id 2 stands.0) (templates_give h d Plain events s fits stands)
set-only h d s (template_records Options events) fits stands =
    let two : s.id ≢ 2 = λ at. omega (arith, at, stands.0) in
    rw (different s.id 2 two, eq-eqb s.id 3 stands.0) (templates_give h d Options events s fits stands)
set-only h d s (data_records t rs) fits stands = data_set_gives h d (with_set h d (data_records t rs)) s stands.0 (records_give h d t rs s stands)
set-only h d s unknown_set fits stands = data_set_gives h d (with_set h d unknown_set) s stands.0 (unknown_gives h d s stands)
set-only h d s skipped_set fits stands =
    rw (different s.id 2 stands.0, different s.id 3 stands.1, lt-ltb s.id 256 stands.2) (ap (λ (e : Decoding). Ok e) (sym (with_skipped h d)))
