-- A preamble is read: it gives no record, and puts exactly its templates in force.
use Rattle.std.proofs.Common.{◌≡◌, ℕ, ◌+◌, ◌^◌, ◌<◌, Bool, true, false, cond, eqb, is_some, List, [], ◌∷◌, ◌++◌, length, drop, map, Option, Some, None, Ok, refl, sym, ap, subst, ◌∙◌, inl, inr}
use Rattle.std.specs.Prelude.{◌||◌, All}
use Rattle.std.specs.List.{flat_map}
use Rattle.std.proofs.lemmas.Bool.{eq-eqb}
use Rattle.std.proofs.lemmas.List.{drop_at}
use Rattle.std.proofs.lemmas.List.Elements.{All-nil, All-cons, All-head, All-tail, All-contains}
use Rattle.ipfix_wire.specs.MessageHeader.{header_octets}
use Rattle.ipfix_wire.specs.declared.header.Header.{Header}
use Rattle.ipfix_wire.proofs.Choices.{cases_option}
use Rattle.ipfix_message.specs.declared.record.Template.{Template}
use Rattle.ipfix_message.specs.declared.template_record.Event.{Event}
use Rattle.ipfix_message.specs.TemplatesInForce.{in_force}
use Rattle.ipfix_message.specs.Messages.{Decoding, before, sets_from}
use Rattle.ipfix_message.specs.Domains.{History, Message, events_in, message_gives}
use Rattle.ipfix_message.proofs.LastDefinition.{in_force-found}
use Rattle.ipfix_session.specs.Given.{known_after}
use Rattle.ipfix_message.specs.Alike.{SameInForce, knows}
use Rattle.ipfix_message.specs.declared.stamp.Stamp.{Stamp}
use Rattle.recording_files.specs.Preambles.{IsTemplate, IsStamp, sets_octets, stamped, templates_message, IsPreamble}
use Rattle.ipfix_session.specs.TemplateLists.{AreInForce}
use Rattle.ipfix_message.proofs.PartsOf.{HasRoom, Steps, reads}
use Rattle.ipfix_session.proofs.Chains.{GivesAll}
use Rattle.ipfix_message.proofs.TemplateMessages.{Stands, Below, IsDefined, defined, defined-append, below_all, all_defined, sets_read, header_is}

-- ---- all templates in force

-- all templates in force were defined, and they alone
pub all_in_force : (ts : List Template) (es full : List Event) → Below es full → AreInForce ts full → SameInForce full (defined ts es)
all_in_force ts es full below are = record { at = at }
  where
    end : Below (defined ts es) full
    end = below_all ts es full below are.each

    some_is : (o : Option Template) → is_some o ≡ true → o ≡ None → ⊥
    some_is o some none = absurd cc

    at : (id : ℕ) → in_force full id ≡ in_force (defined ts es) id
    at id = elim (cases_option (in_force full id)) [
      | inl none ↦ elim (end.at id) [ inl out ↦ none ∙ sym out | inr same ↦ sym same ]
      | inr some ↦ elim (end.at id) [
        | inl out ↦
            let t = some.0 in
            let same : t.id ≡ id = (in_force-found full id t some.1).0 in
            let there : in_force full t.id ≡ Some t = ap (in_force full) same ∙ some.1 in
            let is : is_some (in_force (defined ts es) t.id) ≡ true = All-contains (IsDefined (defined ts es)) ts t (all_defined ts es) (are.all t there) in
            absurd (some_is (in_force (defined ts es) t.id) is (ap (in_force (defined ts es)) same ∙ out))
        | inr same ↦ sym same
      ]
    ]

-- ---- a message of a preamble

-- a message of a preamble gives no record, and its sequence number is due after it
pub record IsLead (s : Stamp) (y : Message) : Type 0 where
  pub export_time : y.header.export_time ≡ s.export_time
  pub sequence : y.header.sequence ≡ s.sequence
  pub domain : y.header.domain ≡ s.domain
  pub records : y.decoding.records ≡ []
  pub passed_over : y.decoding.passed_over ≡ (before []).passed_over

pub record LedBy (ds : History) (s : Stamp) (ts : List Template) (y : Message) : Type 0 where
  pub is : message_gives ds (templates_message s ts) ≡ Ok y
  pub lead : IsLead s y
  pub steps : Steps ds s.domain (defined ts (events_in ds s.domain)) y.domains

pub one_message : (ds : History) (s : Stamp) (ts : List Template) (full : List Event) → IsStamp s → HasRoom ds s.domain → 16 + length (sets_octets ts) < 2 ^ 16 → All IsTemplate ts → All (Stands full) ts
    → Below (events_in ds s.domain) full → (y : Message) × LedBy ds s ts y
one_message ds s ts full is room fits are stand below =
    let h = stamped s (length (sets_octets ts)) in
    let es = events_in ds s.domain in
    let d = record (before es) { events = defined ts es } in
    let sets : sets_from h (before es) (drop 16 (templates_message s ts)) ≡ Ok d =
    ap (sets_from h (before es)) (drop_at (header_octets h) (sets_octets ts) 16 refl) ∙ sets_read h ts (before es) full are stand below in
    let r = reads ds (templates_message s ts) h d (header_is s ts is fits) room sets in
    let y = r.0 in
    let steps : Steps ds s.domain (defined ts es) y.domains = by_parts y r.2 r.3 r.4.steps in (
      y,
      record {
        is = r.1;
        lead = record {
          export_time = ap (λ (x : Header). x.export_time) r.2;
          sequence = ap (λ (x : Header). x.sequence) r.2;
          domain = ap (λ (x : Header). x.domain) r.2;
          records = ap (λ (x : Decoding). x.records) r.3;
          passed_over = ap (λ (x : Decoding). x.passed_over) r.3;
        };
        steps = steps;
      },
    )
  where
    by_parts : (y : Message) → y.header ≡ stamped s (length (sets_octets ts)) → y.decoding ≡ record (before (events_in ds s.domain)) { events = defined ts (events_in ds s.domain) }
        → Steps ds y.header.domain y.decoding.events y.domains → Steps ds s.domain (defined ts (events_in ds s.domain)) y.domains
    by_parts y a b steps = subst (λ (k : Decoding). Steps ds s.domain k.events y.domains) b (subst (λ (k : Header). Steps ds k.domain y.decoding.events y.domains) a steps)

-- ---- all messages of a preamble

all_front : {X : Type 0} (P : X → Type 0) (xs ys : List X) → All P (xs ++ ys) → All P xs
all_front P [] ys all = All-nil P
all_front P (x ∷ xs) ys all = All-cons P x xs (All-head P x (xs ++ ys) all) (all_front P xs ys (All-tail P x (xs ++ ys) all))

all_back : {X : Type 0} (P : X → Type 0) (xs ys : List X) → All P (xs ++ ys) → All P ys
all_back P [] ys all = all
all_back P (x ∷ xs) ys all = all_back P xs ys (All-tail P x (xs ++ ys) all)

abbrev flat : List (List Template) → List Template
flat parts = flat_map (λ part. part) parts

abbrev pub Fits : List Template → Type 0
Fits part = 16 + length (sets_octets part) < 2 ^ 16

itself : (n : ℕ) → eqb n n ≡ true
itself n = eq-eqb n n refl

events_now : (ds news : History) (d : ℕ) (es : List Event) → Steps ds d es news → events_in news d ≡ es
events_now ds news d es s = let e = itself d in s.events_at d ∙ rw e refl

knows_now : (ds news : History) (d : ℕ) (es : List Event) → Steps ds d es news → knows news d ≡ true
knows_now ds news d es s = let e = itself d in s.knows_at d ∙ rw e (or_true_right (knows ds d))
  where
    or_true_right : (b : Bool) → (b || true) ≡ true
    or_true_right true = refl
    or_true_right false = refl

or_same : (a b : Bool) → ((a || b) || b) ≡ (a || b)
or_same true b = refl
or_same false true = refl
or_same false false = refl

steps_twice : (base ds news : History) (d : ℕ) (es fs : List Event) → Steps base d es ds → Steps ds d fs news → Steps base d fs news
steps_twice base ds news d es fs s t =
    let there = knows_now base ds d es s in
    record {
      knows_at = λ q. t.knows_at q ∙ ap (λ (b : Bool). b || eqb q d) (s.knows_at q) ∙ or_same (knows base q) (eqb q d);
      events_at = λ q. t.events_at q ∙ ap (λ (x : List Event). cond (eqb q d) fs x) (s.events_at q) ∙ twice (eqb q d) (events_in base q);
      keys = t.keys ∙ rw there s.keys;
    }
  where
    twice : (b : Bool) (x : List Event) → cond b fs (cond b es x) ≡ cond b fs x
    twice true x = refl
    twice false x = refl

-- the messages after the first
led_on : (base ds : History) (s : Stamp) (es full : List Event) (parts : List (List Template)) → IsStamp s → Steps base s.domain es ds → events_in ds s.domain ≡ es
    → All Fits parts → All IsTemplate (flat parts) → All (Stands full) (flat parts) → Below es full
    → (ys : List Message) × GivesAll ds (map (templates_message s) parts) ys × All (IsLead s) ys × Steps base s.domain (defined (flat parts) es) (known_after ds ys)
led_on base ds s es full [] is steps at fits are stand below = ([], tt, All-nil (IsLead s), steps)
led_on base ds s es full (p ∷ ps) is steps at fits are stand below =
    let d = s.domain in
    let one = one_message ds s p full is (inl (knows_now base ds d es steps)) (All-head Fits p ps fits) (all_front IsTemplate p (flat ps) are) (all_front (Stands full) p (flat ps) stand) (rw at below) in
    let y = one.0 in
    let mine : Steps ds d (defined p es) y.domains = rw at at one.1.steps in
    let both : Steps base d (defined p es) y.domains = steps_twice base ds y.domains d es (defined p es) steps mine in
    let more = led_on base y.domains s (defined p es) full ps is both (events_now ds y.domains d (defined p es) mine) (All-tail Fits p ps fits) (all_back IsTemplate p (flat ps) are) (all_back (Stands full) p (flat ps) stand)
    (below_all p es full below (all_front (Stands full) p (flat ps) stand)) in
    (y ∷ more.0, (one.1.is, more.1), All-cons (IsLead s) y more.0 one.1.lead more.2, rw (defined-append p (flat ps) es) more.3)

-- what a preamble gives
pub record Led (ds : History) (s : Stamp) (ms : List (List ℕ)) (full : List Event) : Type 0 where
  pub first : Message
  pub others : List Message
  pub is : GivesAll ds ms (first ∷ others)
  pub leads : All (IsLead s) (first ∷ others)
  pub events : List Event
  pub steps : Steps ds s.domain events (known_after ds (first ∷ others))
  pub same : SameInForce full events

pub led : (ds : History) (s : Stamp) (ts : List Template) (ms : List (List ℕ)) (full : List Event) → IsStamp s → HasRoom ds s.domain → IsPreamble s ts ms → All IsTemplate ts → AreInForce ts full
    → Below (events_in ds s.domain) full → Led ds s ms full
led ds s ts ms full is room preamble are force below =
    let d = s.domain in
    let es = events_in ds d in
    let p = preamble.first in
    let ps = preamble.others in
    let all : All IsTemplate (p ++ flat ps) = subst (All IsTemplate) preamble.whole are in
    let stand : All (Stands full) (p ++ flat ps) = subst (All (Stands full)) preamble.whole force.each in
    let one = one_message ds s p full is room (All-head Fits p ps preamble.fit) (all_front IsTemplate p (flat ps) all) (all_front (Stands full) p (flat ps) stand) below in
    let y = one.0 in
    let more = led_on ds y.domains s (defined p es) full ps is one.1.steps (events_now ds y.domains d (defined p es) one.1.steps) (All-tail Fits p ps preamble.fit) (all_back IsTemplate p (flat ps) all) (all_back (Stands full) p (flat ps) stand)
    (below_all p es full below (all_front (Stands full) p (flat ps) stand)) in
    record {
      first = y;
      others = more.0;
      is = subst (λ (w : List (List ℕ)). GivesAll ds w (y ∷ more.0)) (sym preamble.are) (one.1.is, more.1);
      leads = All-cons (IsLead s) y more.0 one.1.lead more.2;
      events = defined (flat ps) (defined p es);
      steps = more.3;
      same = subst (SameInForce full) (ap (λ (us : List Template). defined us es) preamble.whole ∙ defined-append p (flat ps) es) (all_in_force ts es full below force);
    }
