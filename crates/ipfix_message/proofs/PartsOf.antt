-- A file knows some of the session's domains, and reads their messages as the session does.
use Rattle.std.proofs.Common.{◌≡◌, ℕ, suc, ◌+◌, ◌<◌, ◌≤◌, Bool, true, false, cond, ltb, eqb, is_some, List, [], ◌∷◌, ◌++◌, length, drop, filter, Option, Some, None, Result, Ok, Err, refl, sym, ap, subst, ◌∙◌, arith, inl, inr}
use Rattle.std.specs.Prelude.{◌⊎◌, ◌||◌}
use Rattle.std.specs.List.{list_any}
use Rattle.std.specs.Map.{lookup, keys_of}
use Rattle.std.specs.Option.{unwrap_or}
use Rattle.std.proofs.lemmas.Bool.{ltb-true, eq-eqb, lt-ltb, cases_Bool}
use Rattle.std.proofs.lemmas.Bool.Decides.{eqb_tells}
use Rattle.std.proofs.lemmas.List.{length-append}
use Rattle.std.proofs.lemmas.List.Elements.{filter-append}
use Rattle.std.proofs.lemmas.Map.Entries.{length-keys_of}
use Rattle.ipfix_wire.specs.declared.header.Header.{Header}
use Rattle.ipfix_wire.proofs.Choices.{chosen, or_true, or_right}
use Rattle.ipfix_message.specs.declared.fault.MessageFault.{MessageFault}
use Rattle.ipfix_message.specs.declared.fault.MessageFault.TheVariants.{TooManyDomains}
use Rattle.ipfix_message.specs.declared.template_record.Event.{Event}
use Rattle.ipfix_message.specs.Outcome.{◌>>=◌}
use Rattle.ipfix_message.specs.Messages.{Decoding, before, sets_from}
use Rattle.ipfix_message.specs.Domains.{History, Message, events_in, message_header, admit, with_events, message_gives}
use Rattle.ipfix_message.proofs.Reading.{ok_is, not_both, bind_ok}
use Rattle.ipfix_message.proofs.History.{lookup-set_value, put, keys_of-append, keys_of-set_value, none_is}
use Rattle.ipfix_message.specs.Alike.{SameInForce, Alike, SameDecoding, SameMessage, knows, IsPartOf}
use Rattle.ipfix_message.proofs.Alikes.{sets_alike}

-- ---- how many of a list pass a test

pub filter-more : (p q : ℕ → Bool) (xs : List ℕ) → ((x : ℕ) → p x ≡ true → q x ≡ true) → length (filter p xs) ≤ length (filter q xs)
filter-more p q [] h = omega arith
filter-more p q (x ∷ xs) h = by_tests (p x) (q x) (h x) (filter-more p q xs h)
  where
    by_tests : (a b : Bool) → (a ≡ true → b ≡ true) → length (filter p xs) ≤ length (filter q xs) → length (cond a (x ∷ filter p xs) (filter p xs)) ≤ length (cond b (x ∷ filter q xs) (filter q xs))
    by_tests true true k le = omega arith
    by_tests true false k le = let e = k refl in absurd cc
    by_tests false true k le = omega arith
    by_tests false false k le = le

filter-all : (p : ℕ → Bool) (xs : List ℕ) → length (filter p xs) ≤ length xs
filter-all p [] = omega arith
filter-all p (x ∷ xs) = by_test (p x) (filter-all p xs)
  where
    by_test : (a : Bool) → length (filter p xs) ≤ length xs → length (cond a (x ∷ filter p xs) (filter p xs)) ≤ length (x ∷ xs)
    by_test true le = omega arith
    by_test false le = omega arith

abbrev or_is : (ℕ → Bool) → ℕ → ℕ → Bool
or_is p d x = p x || eqb x d

pub or_left : (a b : Bool) → a ≡ true → (a || b) ≡ true
or_left true b h = refl
or_left false b h = absurd cc

-- one more passes
filter-gains : (p : ℕ → Bool) (d : ℕ) (xs : List ℕ) → p d ≡ false → list_any (eqb d) xs ≡ true → length (filter p xs) + 1 ≤ length (filter (or_is p d) xs)
filter-gains p d [] none there = absurd cc
filter-gains p d (x ∷ xs) none there =
    elim (eqb_tells d x) [
      | inl here ↦
          let fails : p x ≡ false = ap p (sym here.1) ∙ none in
          let same : eqb x d ≡ true = eq-eqb x d (sym here.1) in
          let more = filter-more p (or_is p d) xs (λ y. or_left (p y) (eqb y d)) in
          rw (fails, same) (omega (arith, more))
      | inr other ↦
          let rest : list_any (eqb d) xs ≡ true = behind (eqb d x) other.0 there in
          by_test (p x) (eqb x d) (filter-gains p d xs none rest)
    ]
  where
    behind : (b : Bool) → b ≡ false → (b || list_any (eqb d) xs) ≡ true → list_any (eqb d) xs ≡ true
    behind true e h = absurd cc
    behind false e h = h

    by_test : (a b : Bool) → length (filter p xs) + 1 ≤ length (filter (or_is p d) xs) → length (cond a (x ∷ filter p xs) (filter p xs)) + 1 ≤ length (cond (a || b) (x ∷ filter (or_is p d) xs) (filter (or_is p d) xs))
    by_test true b le = omega arith
    by_test false true le = omega arith
    by_test false false le = le

knows-keys : (ds : History) (d : ℕ) → knows ds d ≡ list_any (eqb d) (keys_of ds)
knows-keys [] d = refl
knows-keys (e ∷ es) d = by_test (eqb d e.0) (knows-keys es d)
  where
    by_test : (b : Bool) → knows es d ≡ list_any (eqb d) (keys_of es) → is_some (cond b (Some e.1) (lookup (eqb d) es)) ≡ (b || list_any (eqb d) (keys_of es))
    by_test true h = refl
    by_test false h = h

-- ---- domains after a message

-- one domain has these events, and comes after the others where it is new
pub record Steps (ds : History) (domain : ℕ) (es : List Event) (news : History) : Type 0 where
  pub knows_at : (q : ℕ) → knows news q ≡ (knows ds q || eqb q domain)
  pub events_at : (q : ℕ) → events_in news q ≡ cond (eqb q domain) es (events_in ds q)
  pub keys : keys_of news ≡ cond (knows ds domain) (keys_of ds) (keys_of ds ++ domain ∷ [])

is_some-put : (w : List Event) (b : Bool) (o : Option (List Event)) → is_some (put w b o) ≡ is_some o
is_some-put w true None = refl
is_some-put w true (Some x) = refl
is_some-put w false o = refl

put-events : (w : List Event) (b : Bool) (o : Option (List Event)) → (b ≡ true → is_some o ≡ true) → unwrap_or (put w b o) [] ≡ cond b w (unwrap_or o [])
put-events w true None h = let e = h refl in absurd cc
put-events w true (Some x) h = refl
put-events w false o h = refl

itself_or : (a b : Bool) → (b ≡ true → a ≡ true) → a ≡ (a || b)
itself_or true b h = refl
itself_or false true h = let e = h refl in absurd cc
itself_or false false h = refl

-- a domain that is known
steps_known : (ds : History) (domain : ℕ) (es : List Event) → knows ds domain ≡ true → Steps ds domain es (with_events ds domain es)
steps_known ds domain es there = record {
  knows_at = λ q. ap is_some (lookup-set_value q domain ds es) ∙ is_some-put es (eqb q domain) (lookup (eqb q) ds) ∙ itself_or (knows ds q) (eqb q domain) (at q);
  events_at = λ q. ap (λ (o : Option (List Event)). unwrap_or o []) (lookup-set_value q domain ds es) ∙ put-events es (eqb q domain) (lookup (eqb q) ds) (at q);
  keys = keys_of-set_value (eqb domain) ds es ∙ rw there refl;
}
  where
    at : (q : ℕ) → eqb q domain ≡ true → knows ds q ≡ true
    at q e = elim (eqb_tells q domain) [
      | inl y ↦ rw y.1 there
      | inr n ↦ let f = n.0 in absurd cc
    ]

abbrev no_event : List Event
no_event = []

abbrev one_empty : Option (List Event)
one_empty = Some []

-- the domains with a new one after them
knows-new : (ds : History) (domain q : ℕ) → knows (ds ++ (domain, []) ∷ []) q ≡ (knows ds q || eqb q domain)
knows-new [] domain q = by_test (eqb q domain)
  where
    by_test : (b : Bool) → is_some (cond b one_empty None) ≡ b
    by_test true = refl
    by_test false = refl
knows-new (e ∷ es) domain q = by_test (eqb q e.0) (knows-new es domain q)
  where
    by_test : (b : Bool) → knows (es ++ (domain, []) ∷ []) q ≡ (knows es q || eqb q domain)
        → is_some (cond b (Some e.1) (lookup (eqb q) (es ++ (domain, []) ∷ []))) ≡ (is_some (cond b (Some e.1) (lookup (eqb q) es)) || eqb q domain)
    by_test true h = refl
    by_test false h = h

events-new : (ds : History) (domain q : ℕ) → events_in (ds ++ (domain, []) ∷ []) q ≡ events_in ds q
events-new [] domain q = by_test (eqb q domain)
  where
    by_test : (b : Bool) → unwrap_or (cond b one_empty None) no_event ≡ no_event
    by_test true = refl
    by_test false = refl
events-new (e ∷ es) domain q = by_test (eqb q e.0) (events-new es domain q)
  where
    by_test : (b : Bool) → events_in (es ++ (domain, []) ∷ []) q ≡ events_in es q
        → unwrap_or (cond b (Some e.1) (lookup (eqb q) (es ++ (domain, []) ∷ []))) [] ≡ unwrap_or (cond b (Some e.1) (lookup (eqb q) es)) []
    by_test true h = refl
    by_test false h = h

or_same : (a b : Bool) → ((a || b) || b) ≡ (a || b)
or_same true b = refl
or_same false true = refl
or_same false false = refl

steps_new : (ds : History) (domain : ℕ) (es : List Event) → knows ds domain ≡ false → Steps ds domain es (with_events (ds ++ (domain, []) ∷ []) domain es)
steps_new ds domain es new =
    let known = ds ++ (domain, []) ∷ [] in
    let itself : eqb domain domain ≡ true = eq-eqb domain domain refl in
    let there : knows known domain ≡ true = knows-new ds domain domain ∙ rw itself (or_right (knows ds domain) true refl) in
    let s = steps_known known domain es there in
    record {
      knows_at = λ q. s.knows_at q ∙ ap (λ (b : Bool). b || eqb q domain) (knows-new ds domain q) ∙ or_same (knows ds q) (eqb q domain);
      events_at = λ q. s.events_at q ∙ ap (λ (x : List Event). cond (eqb q domain) es x) (events-new ds domain q);
      keys = s.keys ∙ rw (there, new) (keys_of-append ds ((domain, []) ∷ []));
    }

-- what is admitted
pub record Admitted (ds : History) (domain : ℕ) (known : History) : Type 0 where
  pub is : admit ds domain ≡ Ok known
  pub events : (q : ℕ) → events_in known q ≡ events_in ds q
  pub steps : (es : List Event) → Steps ds domain es (with_events known domain es)

abbrev pub HasRoom : History → ℕ → Type 0
HasRoom ds domain = (knows ds domain ≡ true) ⊎ ((knows ds domain ≡ false) × (length ds < 1024))

pub admits : (ds : History) (domain : ℕ) → HasRoom ds domain → (known : History) × Admitted ds domain known
unfolding admit
admits ds domain (inl there) = (ds, record { is = rw there refl; events = λ q. refl; steps = λ es. steps_known ds domain es there })
admits ds domain (inr new) =
    let room : ltb (length ds) 1024 ≡ true = lt-ltb (length ds) 1024 new.1 in
    (ds ++ (domain, []) ∷ [], record { is = rw (new.0, room) refl; events = λ q. events-new ds domain q; steps = λ es. steps_new ds domain es new.0 })

had_room : (ds known : History) (domain : ℕ) → admit ds domain ≡ Ok known → HasRoom ds domain
unfolding admit
had_room ds known domain h =
    elim (chosen (knows ds domain) (Ok ds) (cond (ltb (length ds) 1024) (Ok (ds ++ (domain, []) ∷ [])) (Err TooManyDomains)) (Ok known) h) [
      | inl t ↦ inl t.0
      | inr f ↦ elim (chosen (ltb (length ds) 1024) (Ok (ds ++ (domain, []) ∷ [])) (Err TooManyDomains) (Ok known) f.1) [
        | inl t ↦ inr (f.0, ltb-true (length ds) 1024 t.0)
        | inr g ↦ absurd (not_both known TooManyDomains (sym g.1))
      ]
    ]

-- ---- a message that was read

pub record Reads (ds : History) (m : List ℕ) (x : Message) : Type 0 where
  pub header : message_header m ≡ Ok x.header
  pub room : HasRoom ds x.header.domain
  pub sets : sets_from x.header (before (events_in ds x.header.domain)) (drop 16 m) ≡ Ok x.decoding
  pub steps : Steps ds x.header.domain x.decoding.events x.domains

abbrev message : Header → Decoding → History → Message
message h d ds = record { header = h; decoding = d; domains = ds }

abbrev after_sets : Header → History → Decoding → Result Message MessageFault
after_sets h known d = Ok (message h d (with_events known h.domain d.events))

abbrev after_admit : Header → List ℕ → History → Result Message MessageFault
after_admit h m known = sets_from h (before (events_in known h.domain)) (drop 16 m) >>= λ d. after_sets h known d

-- a message that is read
pub reads : (ds : History) (m : List ℕ) (h : Header) (d : Decoding) → message_header m ≡ Ok h → HasRoom ds h.domain → sets_from h (before (events_in ds h.domain)) (drop 16 m) ≡ Ok d
    → (y : Message) × (message_gives ds m ≡ Ok y) × (y.header ≡ h) × (y.decoding ≡ d) × Reads ds m y
unfolding message_gives
reads ds m h d good room sets =
    let a = admits ds h.domain room in
    let there : sets_from h (before (events_in a.0 h.domain)) (drop 16 m) ≡ Ok d = ap (λ (es : List Event). sets_from h (before es) (drop 16 m)) (a.1.events h.domain) ∙ sets in (
      message h d (with_events a.0 h.domain d.events),
      ap (λ (r : Result Header MessageFault). r >>= λ g. admit ds g.domain >>= λ known. after_admit g m known) good
          ∙ ap (λ (r : Result History MessageFault). r >>= λ known. after_admit h m known) a.1.is
          ∙ ap (λ (r : Result Decoding MessageFault). r >>= λ x. after_sets h a.0 x) there,
      refl,
      refl,
      record { header = good; room = room; sets = sets; steps = a.1.steps d.events },
    )

-- what a message that was read says
pub was_read : (ds : History) (m : List ℕ) (x : Message) → message_gives ds m ≡ Ok x → Reads ds m x
unfolding message_gives
was_read ds m x read =
    let h = bind_ok (message_header m) (λ h. admit ds h.domain >>= λ known. after_admit h m known) x read in
    let known = bind_ok (admit ds h.0.domain) (after_admit h.0 m) x h.2 in
    let d = bind_ok (sets_from h.0 (before (events_in known.0 h.0.domain)) (drop 16 m)) (after_sets h.0 known.0) x known.2 in
    let room = had_room ds known.0 h.0.domain known.1 in
    let a = admits ds h.0.domain room in
    let same : known.0 ≡ a.0 = ok_is known.0 a.0 (sym known.1 ∙ a.1.is) in
    let sets : sets_from h.0 (before (events_in ds h.0.domain)) (drop 16 m) ≡ Ok d.0 =
    ap (λ (es : List Event). sets_from h.0 (before es) (drop 16 m)) (sym (a.1.events h.0.domain) ∙ ap (λ (k : History). events_in k h.0.domain) (sym same)) ∙ d.1 in
    let steps : Steps ds h.0.domain d.0.events (with_events known.0 h.0.domain d.0.events) =
    subst (λ (k : History). Steps ds h.0.domain d.0.events (with_events k h.0.domain d.0.events)) (sym same) (a.1.steps d.0.events) in
    subst (Reads ds m) (ok_is (message h.0 d.0 (with_events known.0 h.0.domain d.0.events)) x d.2)
    (record { header = h.1; room = room; sets = sets; steps = steps })

-- ---- a part of the domains goes on as the whole does

length-is : (ds : History) → length ds ≡ length (keys_of ds)
length-is ds = sym (length-keys_of ds)

alike_ok : (d : Decoding) (r : Result Decoding MessageFault) → Alike SameDecoding (Ok d) r → (e : Decoding) × (r ≡ Ok e) × SameDecoding d e
alike_ok d (Ok e) h = (e, refl, h)
alike_ok d (Err f) h = absurd h

before_same : (es fs : List Event) → SameInForce es fs → SameDecoding (before es) (before fs)
before_same es fs same = record { events = same; records = refl; passed_over = refl }

-- an unknown domain has no events
none_unknown : (ds : History) (q : ℕ) → knows ds q ≡ false → events_in ds q ≡ []
none_unknown ds q h = ap (λ (o : Option (List Event)). unwrap_or o []) (none_is (lookup (eqb q) ds) h)

same_refl : (es fs : List Event) → es ≡ fs → SameInForce es fs
same_refl es fs e = subst (SameInForce es) e (record { at = λ id. refl })

events_same : (fs ds : History) (q : ℕ) → IsPartOf fs ds → knows fs q ≡ knows ds q → SameInForce (events_in ds q) (events_in fs q)
events_same fs ds q part same =
    elim (cases_Bool (knows fs q)) [
      | inl t ↦ part.templates q t
      | inr f ↦ same_refl (events_in ds q) (events_in fs q) (none_unknown ds q (sym same ∙ f) ∙ sym (none_unknown fs q f))
    ]

grown : (fs ds news : History) (d : ℕ) (es : List Event) → Steps fs d es news → knows fs d ≡ true → length news ≡ length fs
grown fs ds news d es s there = length-is news ∙ ap length (s.keys ∙ rw there refl) ∙ sym (length-is fs)

grown_new : (fs news : History) (d : ℕ) (es : List Event) → Steps fs d es news → knows fs d ≡ false → length news ≡ length fs + 1
grown_new fs news d es s new =
    let k : keys_of news ≡ keys_of fs ++ d ∷ [] = s.keys ∙ rw new refl in
    omega (arith, length-is news, ap length k, length-append (keys_of fs) (d ∷ []), length-is fs)

-- the file has read the domain's templates
pub part_leads : (fs ds news : History) (d : ℕ) (es : List Event) → IsPartOf fs ds → Steps fs d es news → knows ds d ≡ true → SameInForce (events_in ds d) es → IsPartOf news ds
part_leads fs ds news d es part s there same = record {
  few = part.few;
  some = by_cases (cases_Bool (knows fs d));
  known = λ q h. elim (or_true (knows fs q) (eqb q d) (sym (s.knows_at q) ∙ h)) [
    | inl was ↦ part.known q was
    | inr new ↦ at q new
  ];
  templates = λ q h. elim (cases_Bool (eqb q d)) [
    | inl t ↦ rw (s.events_at q, t) (at_key q t)
    | inr f ↦ rw (s.events_at q, f) (part.templates q (old q f h))
  ];
}
  where
    is : (q : ℕ) → eqb q d ≡ true → q ≡ d
    is q e = elim (eqb_tells q d) [ inl y ↦ y.1 | inr n ↦ let f = n.0 in absurd cc ]

    at_key : (q : ℕ) → eqb q d ≡ true → SameInForce (events_in ds q) es
    at_key q t = rw (is q t) same

    at : (q : ℕ) → eqb q d ≡ true → knows ds q ≡ true
    at q e = rw (is q e) there

    old : (q : ℕ) → eqb q d ≡ false → knows news q ≡ true → knows fs q ≡ true
    old q f h = elim (or_true (knows fs q) (eqb q d) (sym (s.knows_at q) ∙ h)) [ inl o ↦ o | inr n ↦ absurd cc ]

    by_cases : (knows fs d ≡ true) ⊎ (knows fs d ≡ false) → length news ≤ length (filter (knows news) (keys_of ds))
    by_cases (inl t) =
        let more = filter-more (knows fs) (knows news) (keys_of ds) (λ q h. s.knows_at q ∙ or_left (knows fs q) (eqb q d) h) in
        omega (arith, grown fs ds news d es s t, part.some, more)
    by_cases (inr f) =
        let gains = filter-gains (knows fs) d (keys_of ds) f (sym (knows-keys ds d) ∙ there) in
        let more = filter-more (or_is (knows fs) d) (knows news) (keys_of ds) (λ q h. s.knows_at q ∙ h) in
        omega (arith, grown_new fs news d es s f, part.some, gains, more)

-- a message of a domain that both know, or neither
pub part_reads : (fs ds : History) (m : List ℕ) (x : Message) → IsPartOf fs ds → knows fs x.header.domain ≡ knows ds x.header.domain → Reads ds m x
    → (y : Message) × (message_gives fs m ≡ Ok y) × SameMessage x y × IsPartOf y.domains x.domains × Steps fs x.header.domain y.decoding.events y.domains
part_reads fs ds m x part same read =
    let d = x.header.domain in
    let alike = sets_alike x.header (before (events_in ds d)) (before (events_in fs d)) (drop 16 m) (before_same (events_in ds d) (events_in fs d) (events_same fs ds d part same)) in
    let e = alike_ok x.decoding (sets_from x.header (before (events_in fs d)) (drop 16 m)) (rw read.sets at alike) in
    let room = room_too read.room in
    let r = reads fs m x.header e.0 read.header room e.1 in
    let steps : Steps fs d r.0.decoding.events r.0.domains = rw r.2 at r.4.steps in
    let decoding : SameDecoding x.decoding r.0.decoding = subst (SameDecoding x.decoding) (sym r.3) e.2 in
    (r.0, r.1, record { header = sym r.2; decoding = decoding }, both r.0 steps decoding.events, steps)
  where
    few : length fs ≤ length ds
    few = omega (arith, part.some, filter-all (knows fs) (keys_of ds), length-is ds)

    room_too : HasRoom ds x.header.domain → HasRoom fs x.header.domain
    room_too (inl there) = inl (same ∙ there)
    room_too (inr new) = inr (same ∙ new.0, omega (arith, few, new.1))

    is : (q : ℕ) → eqb q x.header.domain ≡ true → q ≡ x.header.domain
    is q e = elim (eqb_tells q x.header.domain) [ inl y ↦ y.1 | inr n ↦ let f = n.0 in absurd cc ]

    both : (y : Message) → Steps fs x.header.domain y.decoding.events y.domains → SameInForce x.decoding.events y.decoding.events → IsPartOf y.domains x.domains
    both y s force = record {
      few = by_room read.room;
      some = by_some read.room;
      known = λ q h. read.steps.knows_at q ∙ (elim (or_true (knows fs q) (eqb q x.header.domain) (sym (s.knows_at q) ∙ h)) [
        | inl old ↦ or_left (knows ds q) (eqb q x.header.domain) (part.known q old)
        | inr new ↦ or_right (knows ds q) (eqb q x.header.domain) new
      ]);
      templates = λ q h. elim (cases_Bool (eqb q x.header.domain)) [
        | inl t ↦ rw (read.steps.events_at q, s.events_at q, t) force
        | inr f ↦ rw (read.steps.events_at q, s.events_at q, f) (part.templates q (elim (or_true (knows fs q) (eqb q x.header.domain) (sym (s.knows_at q) ∙ h)) [ inl o ↦ o | inr n ↦ absurd cc ]))
      ];
    }
      where
        by_room : HasRoom ds x.header.domain → length x.domains ≤ 1024
        by_room (inl there) = omega (arith, grown ds ds x.domains x.header.domain x.decoding.events read.steps there, part.few)
        by_room (inr new) = omega (arith, grown_new ds x.domains x.header.domain x.decoding.events read.steps new.0, new.1)

        more : length (filter (knows fs) (keys_of ds)) ≤ length (filter (knows y.domains) (keys_of ds))
        more = filter-more (knows fs) (knows y.domains) (keys_of ds) (λ q h. s.knows_at q ∙ or_left (knows fs q) (eqb q x.header.domain) h)

        by_some : HasRoom ds x.header.domain → length y.domains ≤ length (filter (knows y.domains) (keys_of x.domains))
        by_some (inl there) =
            let k : keys_of x.domains ≡ keys_of ds = read.steps.keys ∙ rw there refl in
            rw k (omega (arith, grown fs ds y.domains x.header.domain y.decoding.events s (same ∙ there), part.some, more))
        by_some (inr new) =
            let k : keys_of x.domains ≡ keys_of ds ++ x.header.domain ∷ [] = read.steps.keys ∙ rw new.0 refl in
            let yes : knows y.domains x.header.domain ≡ true = s.knows_at x.header.domain ∙ or_right (knows fs x.header.domain) (eqb x.header.domain x.header.domain) (eq-eqb x.header.domain x.header.domain refl) in
            let last : filter (knows y.domains) (x.header.domain ∷ []) ≡ x.header.domain ∷ [] = rw yes refl in
            let all = ap length (filter-append (knows y.domains) (keys_of ds) (x.header.domain ∷ []) ∙ ap (λ (t : List ℕ). filter (knows y.domains) (keys_of ds) ++ t) last) in
            rw k (omega (arith, grown_new fs y.domains x.header.domain y.decoding.events s (same ∙ new.0), part.some, more, all, length-append (filter (knows y.domains) (keys_of ds)) (x.header.domain ∷ [])))

-- a domain that only the whole knows finds room in the part
pub room_left : (fs ds : History) (d : ℕ) → IsPartOf fs ds → knows fs d ≡ false → knows ds d ≡ true → length fs < 1024
room_left fs ds d part new there =
    let gains = filter-gains (knows fs) d (keys_of ds) new (sym (knows-keys ds d) ∙ there) in
    let all = filter-all (or_is (knows fs) d) (keys_of ds) in
    omega (arith, part.some, gains, all, length-is ds, part.few)

all_pass : (p : ℕ → Bool) (xs : List ℕ) → ((x : ℕ) → list_any (eqb x) xs ≡ true → p x ≡ true) → length (filter p xs) ≡ length xs
all_pass p [] h = refl
all_pass p (x ∷ xs) h =
    let e : eqb x x ≡ true = eq-eqb x x refl in
    let yes : p x ≡ true = h x (rw e refl) in
    rw yes (ap suc (all_pass p xs (λ y k. h y (or_right (eqb y x) (list_any (eqb y) xs) k))))

-- the whole is a part of itself
pub itself_part : (ds : History) → length ds ≤ 1024 → IsPartOf ds ds
itself_part ds few = record {
  few = few;
  some = omega (arith, length-is ds, all_pass (knows ds) (keys_of ds) (λ x k. knows-keys ds x ∙ k));
  known = λ q h. h;
  templates = λ q h. record { at = λ id. refl };
}
