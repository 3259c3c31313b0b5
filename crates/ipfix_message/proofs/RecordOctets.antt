-- The fields of records that were read of octets have octets.
use Rattle.std.proofs.Common.{◌≡◌, ℕ, ◌<◌, cond, eqb, ltb, List, [], ◌∷◌, ◌++◌, map, drop, length, Option, Some, None, Result, Ok, sym, subst, inl, inr}
use Rattle.std.specs.Prelude.{All}
use Rattle.std.specs.Map.{lookup}
use Rattle.std.specs.Option.{unwrap_or}
use Rattle.std.proofs.lemmas.List.Elements.{All-nil, All-cons, All-head, All-tail, All-append, All-map}
use Rattle.ipfix_wire.specs.Numbers.{IsOctets}
use Rattle.ipfix_wire.specs.SetHeader.{set_octets}
use Rattle.ipfix_wire.specs.declared.header.Header.{Header}
use Rattle.ipfix_wire.specs.declared.specifier.Spec.{Spec}
use Rattle.ipfix_wire.proofs.Octets.{IsOctets-drop, IsOctets-front, IsOctets-rest}
use Rattle.ipfix_wire.proofs.Parts.{InTurn-all}
use Rattle.ipfix_message.specs.declared.fault.MessageFault.{MessageFault}
use Rattle.ipfix_message.specs.declared.record.Template.{Template}
use Rattle.ipfix_message.specs.declared.template_record.TemplateKind.{TemplateKind}
use Rattle.ipfix_message.specs.declared.template_record.TemplateKind.TheVariants.{Plain, Options}
use Rattle.ipfix_message.specs.Outcome.{◌>>=◌, unless}
use Rattle.ipfix_message.specs.Fields.{Field}
use Rattle.ipfix_message.specs.SpelledFields.{SpellsOctets, Spells}
use Rattle.ipfix_message.specs.DataRecords.{HasOctets, records_of_body, record_of}
use Rattle.ipfix_message.specs.TemplatesInForce.{in_force, template_set_gives}
use Rattle.ipfix_message.specs.Sets.{Set, SpellsSet, sets_of, fault_after_sets}
use Rattle.ipfix_message.specs.Messages.{Decoding, one_skipped, one_unknown, more_ignored, before, templates_in, data_in, set_gives, sets_give, sets_from}
use Rattle.ipfix_message.specs.Domains.{History, Message, admit, with_events, message_header, message_gives}
use Rattle.ipfix_wire.proofs.Choices.{chosen}
use Rattle.ipfix_message.proofs.Reading.{ok_is, not_both, bind_ok}
use Rattle.ipfix_message.proofs.Bodies.{records_of_body-found}
use Rattle.ipfix_message.proofs.MessageSets.{sets_of-found}
use Rattle.ipfix_message.proofs.History.{after_admit, after_sets}

-- ---- one record

abbrev AreOctets : List ℕ → Type 0
AreOctets w = All (λ b. b < 256) w

are_octets : (w : List ℕ) → IsOctets w → AreOctets w
are_octets [] fits = All-nil (λ b. b < 256)
are_octets (b ∷ w) fits = All-cons (λ n. n < 256) b w (fits 0) (are_octets w (IsOctets-rest (b ∷ []) w fits))

field_has : (width : ℕ) (v w : List ℕ) → IsOctets w → SpellsOctets width v w → AreOctets v
field_has width v w fits (inl fixed) = are_octets v (subst IsOctets fixed.2 fits)
field_has width v w fits (inr variable) = are_octets v (IsOctets-rest variable.1.0 v (subst IsOctets variable.1.2 fits))

abbrev FieldHas : Field → Type 0
FieldHas field = AreOctets field.octets

abbrev FieldsHave : List Field → Type 0
FieldsHave fs = All FieldHas fs

fields_have : (specs : List Spec) (fs : List Field) (w : List ℕ) → IsOctets w → Spells specs fs w → FieldsHave fs
fields_have [] [] w fits spelled = All-nil FieldHas
fields_have [] (f ∷ fs) w fits spelled = absurd spelled
fields_have (s ∷ ss) [] w fits spelled = absurd spelled
fields_have (s ∷ ss) (f ∷ fs) w fits spelled =
    let u = spelled.0 in
    let v = spelled.1 in
    let both = subst IsOctets spelled.2 fits in
    All-cons FieldHas f fs (field_has s.width f.octets u (IsOctets-front u v both) spelled.4) (fields_have ss fs v (IsOctets-rest u v both) spelled.5)

-- ---- one set

body_has : (specs : List Spec) (w : List ℕ) (rs : List (List Field)) → IsOctets w → records_of_body specs w ≡ Ok rs → All FieldsHave rs
body_has specs w rs fits read =
    let body = records_of_body-found specs w rs fits read in
    InTurn-all (Spells specs) FieldsHave (λ fs u here spelled. fields_have specs fs u here spelled) rs body.octets (IsOctets-front body.octets body.padding (subst IsOctets body.whole fits)) body.spelled

-- the records so far have octets
abbrev RecordsHave : Decoding → Type 0
RecordsHave d = All HasOctets d.records

templates_have : (kind : TemplateKind) (d e : Decoding) (body : List ℕ) → RecordsHave d → templates_in kind d body ≡ Ok e → RecordsHave e
unfolding templates_in
templates_have kind d e body have read =
    let r = bind_ok (template_set_gives kind d.events body) (λ r. Ok (record d { events = r.0; passed_over = more_ignored r.1 d.passed_over })) e read in
    subst RecordsHave (ok_is (record d { events = r.0.0; passed_over = more_ignored r.0.1 d.passed_over }) e r.2) have

data_has : (h : Header) (d e : Decoding) (body : List ℕ) (o : Option Template) → IsOctets body → RecordsHave d → data_in h d body o ≡ Ok e → RecordsHave e
unfolding data_in
data_has h d e body None fits have read = subst RecordsHave (ok_is (record d { passed_over = one_unknown d.passed_over }) e read) have
data_has h d e body (Some t) fits have read =
    let r = bind_ok (records_of_body t.specs body) (λ rs. Ok (record d { records = d.records ++ map (record_of h t) rs })) e read in
    subst RecordsHave (ok_is (record d { records = d.records ++ map (record_of h t) r.0 }) e r.2)
    (All-append HasOctets d.records (map (record_of h t) r.0) have (All-map HasOctets (record_of h t) r.0 (body_has t.specs body r.0 fits r.1)))

set_has : (h : Header) (d e : Decoding) (s : Set) → IsOctets s.body → RecordsHave d → set_gives h d s ≡ Ok e → RecordsHave e
unfolding set_gives
set_has h d e s fits have read =
    let of_data = data_in h d s.body (in_force d.events s.id) in
    let skipped : Result Decoding MessageFault = Ok (record d { passed_over = one_skipped d.passed_over }) in
    let other = cond (ltb s.id 256) skipped of_data in
    let options = cond (eqb s.id 3) (templates_in Options d s.body) other in
    elim (chosen (eqb s.id 2) (templates_in Plain d s.body) options (Ok e) read) [
      | inl t ↦ templates_have Plain d e s.body have t.1
      | inr f ↦ elim (chosen (eqb s.id 3) (templates_in Options d s.body) other (Ok e) f.1) [
        | inl t ↦ templates_have Options d e s.body have t.1
        | inr g ↦ elim (chosen (ltb s.id 256) skipped of_data (Ok e) g.1) [
          | inl t ↦ subst RecordsHave (ok_is (record d { passed_over = one_skipped d.passed_over }) e t.1) have
          | inr k ↦ data_has h d e s.body (in_force d.events s.id) fits have k.1
        ]
      ]
    ]

-- ---- a message

abbrev BodyHas : Set → Type 0
BodyHas s = IsOctets s.body

sets_have : (h : Header) (d e : Decoding) (ss : List Set) → All BodyHas ss → RecordsHave d → sets_give h d ss ≡ Ok e → RecordsHave e
unfolding sets_give
sets_have h d e [] fits have read = subst RecordsHave (ok_is d e read) have
sets_have h d e (s ∷ ss) fits have read =
    let r = bind_ok (set_gives h d s) (λ x. sets_give h x ss) e read in
    sets_have h r.0 e ss (All-tail BodyHas s ss fits) (set_has h d r.0 s (All-head BodyHas s ss fits) have r.1) r.2

bodies : (w : List ℕ) → IsOctets w → All BodyHas (sets_of w).items
bodies w fits =
    let longest = sets_of-found w fits in
    InTurn-all SpellsSet BodyHas (λ s u here spelled. IsOctets-rest (set_octets s.id (length s.body)) s.body (subst IsOctets spelled.octets here)) (sets_of w).items longest.text
    (IsOctets-front longest.text (sets_of w).rest (subst IsOctets longest.whole fits)) longest.spelled

sets_from-have : (h : Header) (d e : Decoding) (w : List ℕ) → IsOctets w → RecordsHave d → sets_from h d w ≡ Ok e → RecordsHave e
unfolding sets_from
sets_from-have h d e w fits have read =
    let r = bind_ok (sets_give h d (sets_of w).items) (λ x. unless (fault_after_sets (sets_of w).rest) x) e read in
    by_fault (fault_after_sets (sets_of w).rest) r.0 (sets_have h d r.0 (sets_of w).items (bodies w fits) have r.1) r.2
  where
    by_fault : (o : Option MessageFault) (x : Decoding) → RecordsHave x → unless o x ≡ Ok e → RecordsHave e
    by_fault None x held is = subst RecordsHave (ok_is x e is) held
    by_fault (Some f) x held is = absurd (not_both e f (sym is))

pub message_has : (ds : History) (m : List ℕ) (x : Message) → IsOctets m → message_gives ds m ≡ Ok x → All HasOctets x.decoding.records
unfolding message_gives
message_has ds m x fits read =
    let h = bind_ok (message_header m) (λ h. admit ds h.domain >>= λ known. after_admit h m known) x read in
    let known = bind_ok (admit ds h.0.domain) (after_admit h.0 m) x h.2 in
    let d = bind_ok (sets_from h.0 (before (unwrap_or (lookup (eqb h.0.domain) known.0) [])) (drop 16 m)) (after_sets h.0 known.0) x known.2 in
    let P : Message → Type 0 = λ y. RecordsHave y.decoding in
    subst P (ok_is (record { header = h.0; decoding = d.0; domains = with_events known.0 h.0.domain d.0.events }) x d.2)
    (sets_from-have h.0 (before (unwrap_or (lookup (eqb h.0.domain) known.0) [])) d.0 (drop 16 m) (IsOctets-drop 16 m fits) (All-nil HasOctets) d.1)
