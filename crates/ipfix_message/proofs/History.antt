-- What is kept for the domains of a session.
use Rattle.std.proofs.Common.{◌≡◌, ℕ, ◌<◌, ◌≤◌, Bool, true, false, cond, ltb, eqb, List, [], ◌∷◌, ◌++◌, length, drop, Option, Some, None, Result, Ok, Err, refl, sym, ap, subst, ◌∙◌, arith, inl, inr, is_some}
use Rattle.std.specs.Prelude.{IsOk, IfOk, MatchBool, not}
use Rattle.std.specs.Map.{lookup, keys_of, set_value}
use Rattle.std.specs.Option.{unwrap_or, option_and_then, option_map}
use Rattle.std.proofs.lemmas.Bool.Decides.{eqb_tells}
use Rattle.std.specs.BTreeMap.{BTreeMap}
use Rattle.std.specs.List.{AllZip}
use Rattle.std.proofs.lemmas.Map.Made.{lookup-map_values}
use Rattle.std.proofs.lemmas.Map.Entries.{length-keys_of}
use Rattle.std.proofs.lemmas.Map.Steps.{set_value_same}
use Rattle.std.proofs.lemmas.Bool.{ltb-false, ltb-true, le-ltb, lt-ltb, eqb-true}
use Rattle.std.proofs.lemmas.List.{map-append}
use Rattle.ipfix_message.specs.declared.fault.MessageFault.{MessageFault}
use Rattle.ipfix_message.specs.declared.fault.MessageFault.TheVariants.{MessageLength, TooManyDomains}
use Rattle.ipfix_message.specs.declared.record.Template.{Template}
use Rattle.ipfix_message.specs.declared.template_record.Event.{Event}
use Rattle.ipfix_wire.specs.declared.header.Header.{Header}
use Rattle.ipfix_wire.specs.declared.fault.WireFault.{WireFault}
use Rattle.ipfix_wire.proofs.Headers.{read}
use Rattle.ipfix_message.specs.Faults.{fault_of}
use Rattle.ipfix_wire.specs.MessageHeader.{header_at}
use Rattle.ipfix_message.specs.declared.message.Decoded.{Decoded}
use Rattle.ipfix_message.specs.Outcome.{◌>>=◌, Fails}
use Rattle.ipfix_message.specs.Messages.{Decoding, before, sets_from}
use Rattle.ipfix_message.proofs.Reading.{Fails-of, ok_is, not_both}
use Rattle.ipfix_wire.proofs.Choices.{chosen, different}
use Rattle.ipfix_message.specs.TemplatesInForce.{in_force}
use Rattle.ipfix_message.specs.Held.{template_in, Agrees, Holds, Reaches, Admits, ChecksSets, ChecksUpTo}
use Rattle.ipfix_message.specs.Sets.{has_template_set}
use Rattle.ipfix_message.specs.Domains.{History, IsAdmitted, admit, with_events, of_wire, message_header, message_gives, Message, StandsFor, Decodes, template_for, alone, IsChecked}
use Rattle.ipfix_message.specs.Kept.{kept}

-- ---- what is kept at each domain

-- entries where the history has events, and for them
abbrev AgreesAt : Option (List (ℕ × Template)) → Option (List Event) → Type 0
AgreesAt None None = Unit {0}
AgreesAt (Some entries) (Some es) = Agrees entries es
AgreesAt None (Some es) = ⊥
AgreesAt (Some entries) None = ⊥

for_kept : (a : Option (List (ℕ × Template))) (b : Option (List Event)) (id : ℕ) → AgreesAt a b → option_and_then (λ es. in_force es id) b ≡ option_and_then (λ entries. template_in entries id) a
for_kept None None id h = refl
for_kept (Some x) (Some y) id h = sym (h.at id)
for_kept None (Some y) id h = absurd h
for_kept (Some x) None id h = absurd h

nil_cons : (k : ℕ) (ks : List ℕ) → [] ≡ k ∷ ks → ⊥
nil_cons k ks h = cc

cons_is : (a b : ℕ) (as' bs : List ℕ) → a ∷ as' ≡ b ∷ bs → (a ≡ b) × (as' ≡ bs)
cons_is a b as' bs h = (cc, cc)

-- the same keys are found
same_found : {X Y : Type 0} (test : ℕ → Bool) (xs : List (ℕ × X)) (ys : List (ℕ × Y)) → keys_of xs ≡ keys_of ys → is_some (lookup test xs) ≡ is_some (lookup test ys)
same_found test [] [] h = refl
same_found test [] (y ∷ ys) h = absurd (nil_cons y.0 (keys_of ys) h)
same_found test (x ∷ xs) [] h = absurd (nil_cons x.0 (keys_of xs) (sym h))
same_found test (x ∷ xs) (y ∷ ys) h =
    let parts = cons_is x.0 y.0 (keys_of xs) (keys_of ys) h in
    by_test (test x.0) (test y.0) (ap test parts.0) (same_found test xs ys parts.1)
  where
    by_test : (b c : Bool) → b ≡ c → is_some (lookup test xs) ≡ is_some (lookup test ys) → is_some (cond b (Some x.1) (lookup test xs)) ≡ is_some (cond c (Some y.1) (lookup test ys))
    by_test true true e rest = refl
    by_test false false e rest = rest
    by_test true false e rest = absurd cc
    by_test false true e rest = absurd cc

stands-at : (xs : List (ℕ × List (ℕ × Template))) (ds : History) → StandsFor xs ds → (domain : ℕ) → AgreesAt (lookup (eqb domain) xs) (lookup (eqb domain) ds)
stands-at xs ds stands domain = by_cases (lookup (eqb domain) xs) (lookup (eqb domain) ds) refl refl
  where
    found : is_some (lookup (eqb domain) xs) ≡ is_some (lookup (eqb domain) ds)
    found = same_found (eqb domain) xs ds stands.domains

    not_found : (b c : Bool) → b ≡ false → c ≡ true → b ≡ c → ⊥
    not_found b c p q e = cc

    by_cases : (a : Option (List (ℕ × Template))) (b : Option (List Event)) → lookup (eqb domain) xs ≡ a → lookup (eqb domain) ds ≡ b → AgreesAt a b
    by_cases None None ea eb = tt
    by_cases (Some entries) (Some es) ea eb = record {
      at = λ id.
          sym (ap (λ (o : Option (List (ℕ × Template))). option_and_then (λ x. template_in x id) o) ea) ∙ stands.templates domain id ∙ ap (λ (o : Option (List Event)). option_and_then (λ x. in_force x id) o) eb;
    }
    by_cases None (Some es) ea eb = absurd (not_found _ _ (ap is_some ea) (ap is_some eb) found)
    by_cases (Some entries) None ea eb = absurd (not_found _ _ (ap is_some eb) (ap is_some ea) (sym found))

stands-from : (xs : List (ℕ × List (ℕ × Template))) (ds : History) → keys_of xs ≡ keys_of ds → ((domain : ℕ) → AgreesAt (lookup (eqb domain) xs) (lookup (eqb domain) ds)) → StandsFor xs ds
stands-from xs ds same at = record { domains = same; templates = λ domain id. sym (for_kept (lookup (eqb domain) xs) (lookup (eqb domain) ds) id (at domain)) }

is_some-option_map : {A B : Type 0} (f : A → B) (o : Option A) → is_some (option_map f o) ≡ is_some o
is_some-option_map f None = refl
is_some-option_map f (Some x) = refl

pub lookup-kept : (domain : ℕ) (es : List (ℕ × BTreeMap ℕ Template)) → lookup (eqb domain) (kept es) ≡ option_map (λ (m : BTreeMap ℕ Template). m.entries) (lookup (eqb domain) es)
lookup-kept domain es = lookup-map_values (λ (m : BTreeMap ℕ Template). m.entries) (eqb domain) es

keys_of-kept : (es : List (ℕ × BTreeMap ℕ Template)) → keys_of (kept es) ≡ keys_of es
keys_of-kept [] = refl
keys_of-kept (e ∷ es) = ap (λ (ks : List ℕ). e.0 ∷ ks) (keys_of-kept es)

-- whether a domain is kept is whether the history has it
pub is_some-history : (es : List (ℕ × BTreeMap ℕ Template)) (ds : History) (domain : ℕ) → StandsFor (kept es) ds → is_some (lookup (eqb domain) ds) ≡ is_some (lookup (eqb domain) es)
is_some-history es ds domain stands =
    sym (same_found (eqb domain) (kept es) ds stands.domains) ∙ ap is_some (lookup-kept domain es) ∙ is_some-option_map (λ (m : BTreeMap ℕ Template). m.entries) (lookup (eqb domain) es)

-- as many domains are kept as the history has
pub length-history : (es : List (ℕ × BTreeMap ℕ Template)) (ds : History) → StandsFor (kept es) ds → length ds ≡ length es
length-history es ds stands = sym (length-keys_of ds) ∙ ap length (sym stands.domains ∙ keys_of-kept es) ∙ length-keys_of es

pub admit-known : (es : List (ℕ × BTreeMap ℕ Template)) (ds : History) (domain : ℕ) → StandsFor (kept es) ds → is_some (lookup (eqb domain) es) ≡ true → Admits (Ok tt) (kept es) (admit ds domain)
unfolding admit
admit-known es ds domain stands there = (ds, rw (is_some-history es ds domain stands ∙ there) refl, stands)

pub admit-full : (es : List (ℕ × BTreeMap ℕ Template)) (ds : History) (domain : ℕ) → StandsFor (kept es) ds → is_some (lookup (eqb domain) es) ≡ false → 1024 ≤ length es → admit ds domain ≡ Err TooManyDomains
unfolding admit
admit-full es ds domain stands new full =
    let long : ltb (length ds) 1024 ≡ false = le-ltb (length ds) 1024 (omega (arith, length-history es ds stands, full)) in
    rw (is_some-history es ds domain stands ∙ new, long) refl

-- a look-up in joined entries
pub lookup-append : {X : Type 0} (test : ℕ → Bool) (xs ys : List (ℕ × X)) → lookup test xs ≡ None → lookup test (xs ++ ys) ≡ lookup test ys
lookup-append test [] ys h = refl
lookup-append test (x ∷ xs) ys h = by_test (test x.0) h (λ g. lookup-append test xs ys g)
  where
    by_test : (b : Bool) → cond b (Some x.1) (lookup test xs) ≡ None → (lookup test xs ≡ None → lookup test (xs ++ ys) ≡ lookup test ys) → cond b (Some x.1) (lookup test (xs ++ ys)) ≡ lookup test ys
    by_test true g rest = absurd cc
    by_test false g rest = rest g

pub lookup-front : {X : Type 0} (test : ℕ → Bool) (xs ys : List (ℕ × X)) (v : X) → lookup test xs ≡ Some v → lookup test (xs ++ ys) ≡ Some v
lookup-front test [] ys v h = absurd cc
lookup-front test (x ∷ xs) ys v h = by_test (test x.0) h (λ g. lookup-front test xs ys v g)
  where
    by_test : (b : Bool) → cond b (Some x.1) (lookup test xs) ≡ Some v → (lookup test xs ≡ Some v → lookup test (xs ++ ys) ≡ Some v) → cond b (Some x.1) (lookup test (xs ++ ys)) ≡ Some v
    by_test true g rest = g
    by_test false g rest = rest g

pub keys_of-append : {X : Type 0} (xs ys : List (ℕ × X)) → keys_of (xs ++ ys) ≡ keys_of xs ++ keys_of ys
keys_of-append [] ys = refl
keys_of-append (x ∷ xs) ys = ap (λ (ks : List ℕ). x.0 ∷ ks) (keys_of-append xs ys)

-- a new domain without templates stands for one without events
no_events : Agrees [] []
unfolding in_force
no_events = record { at = λ id. refl }

joins : (a : Option (List (ℕ × Template))) (b : Option (List Event)) (q domain : ℕ) (xs : List (ℕ × List (ℕ × Template))) (ds : History)
    → lookup (eqb q) xs ≡ a → lookup (eqb q) ds ≡ b → AgreesAt a b → AgreesAt (lookup (eqb q) (xs ++ (domain, []) ∷ [])) (lookup (eqb q) (ds ++ (domain, []) ∷ []))
joins None None q domain xs ds ea eb h =
    rw (lookup-append (eqb q) xs ((domain, []) ∷ []) ea, lookup-append (eqb q) ds ((domain, []) ∷ []) eb) (by_test (eqb q domain))
  where
    by_test : (b : Bool) → AgreesAt (cond b (Some []) None) (cond b (Some []) None)
    by_test true = no_events
    by_test false = tt
joins (Some x) (Some y) q domain xs ds ea eb h = rw (lookup-front (eqb q) xs ((domain, []) ∷ []) x ea, lookup-front (eqb q) ds ((domain, []) ∷ []) y eb) h
joins None (Some y) q domain xs ds ea eb h = absurd h
joins (Some x) None q domain xs ds ea eb h = absurd h

pub stands-more : (xs : List (ℕ × List (ℕ × Template))) (ds : History) (domain : ℕ) → StandsFor xs ds → StandsFor (xs ++ (domain, []) ∷ []) (ds ++ (domain, []) ∷ [])
stands-more xs ds domain stands =
    stands-from (xs ++ (domain, []) ∷ []) (ds ++ (domain, []) ∷ [])
    (keys_of-append xs ((domain, []) ∷ []) ∙ ap (λ (ks : List ℕ). ks ++ domain ∷ []) stands.domains ∙ sym (keys_of-append ds ((domain, []) ∷ [])))
    (λ q. joins (lookup (eqb q) xs) (lookup (eqb q) ds) q domain xs ds refl refl (stands-at xs ds stands q))

-- a new domain finds room
pub admit-room : (es : List (ℕ × BTreeMap ℕ Template)) (ds : History) (domain : ℕ) → StandsFor (kept es) ds → is_some (lookup (eqb domain) es) ≡ false → length es < 1024
    → admit ds domain ≡ Ok (ds ++ (domain, []) ∷ [])
unfolding admit
admit-room es ds domain stands new room =
    let short : ltb (length ds) 1024 ≡ true = lt-ltb (length ds) 1024 (omega (arith, length-history es ds stands, room)) in
    rw (is_some-history es ds domain stands ∙ new, short) refl

pub admit-new : (es news : List (ℕ × BTreeMap ℕ Template)) (ds : History) (domain : ℕ) (m : BTreeMap ℕ Template) → StandsFor (kept es) ds → is_some (lookup (eqb domain) es) ≡ false → length es < 1024
    → news ≡ es ++ (domain, m) ∷ [] → m.entries ≡ [] → Admits (Ok tt) (kept news) (admit ds domain)
admit-new es news ds domain m stands new room is empty =
    let keeps : kept news ≡ kept es ++ (domain, []) ∷ [] = ap kept is ∙ map-append (λ (e : ℕ × BTreeMap ℕ Template). (e.0, e.1.entries)) es ((domain, m) ∷ []) ∙ ap (λ (x : List (ℕ × Template)). kept es ++ (domain, x) ∷ []) empty in (
      ds ++ (domain, []) ∷ [],
      admit-room es ds domain stands new room,
      subst (λ (k : List (ℕ × List (ℕ × Template))). StandsFor k (ds ++ (domain, []) ∷ [])) (sym keeps) (stands-more (kept es) ds domain stands),
    )

pub none_is : {A : Type 0} (o : Option A) → is_some o ≡ false → o ≡ None
none_is None h = refl
none_is (Some x) h = absurd cc

-- ---- a domain's entries after a message

pub keys_of-set_value : {X : Type 0} (test : ℕ → Bool) (xs : List (ℕ × X)) (w : X) → keys_of (set_value test xs w) ≡ keys_of xs
keys_of-set_value test [] w = refl
keys_of-set_value test (x ∷ xs) w = by_test (test x.0) (keys_of-set_value test xs w)
  where
    by_test : (b : Bool) → keys_of (set_value test xs w) ≡ keys_of xs → keys_of (cond b ((x.0, w) ∷ xs) (x ∷ set_value test xs w)) ≡ x.0 ∷ keys_of xs
    by_test true rest = refl
    by_test false rest = ap (λ (ks : List ℕ). x.0 ∷ ks) rest

kept-set_value : (test : ℕ → Bool) (es : List (ℕ × BTreeMap ℕ Template)) (m : BTreeMap ℕ Template) → kept (set_value test es m) ≡ set_value test (kept es) m.entries
kept-set_value test [] m = refl
kept-set_value test (e ∷ es) m = by_test (test e.0) (kept-set_value test es m)
  where
    by_test : (b : Bool) → kept (set_value test es m) ≡ set_value test (kept es) m.entries → kept (cond b ((e.0, m) ∷ es) (e ∷ set_value test es m)) ≡ cond b ((e.0, m.entries) ∷ kept es) ((e.0, e.1.entries) ∷ set_value test (kept es) m.entries)
    by_test true rest = refl
    by_test false rest = ap (λ (xs : List (ℕ × List (ℕ × Template))). (e.0, e.1.entries) ∷ xs) rest

-- the new value at the domain, and each other domain's as it was
abbrev pub put : {X : Type 0} → X → Bool → Option X → Option X
put w b o = cond b (option_map (λ _. w) o) o

pub lookup-set_value : {X : Type 0} (q domain : ℕ) (xs : List (ℕ × X)) (w : X) → lookup (eqb q) (set_value (eqb domain) xs w) ≡ put w (eqb q domain) (lookup (eqb q) xs)
lookup-set_value q domain [] w = by_test (eqb q domain)
  where
    by_test : (b : Bool) → None ≡ put w b None
    by_test true = refl
    by_test false = refl
lookup-set_value q domain (x ∷ xs) w =
    elim (eqb_tells domain x.0) [
      | inl here ↦ rw (here.0, here.1) (at_key (eqb q x.0))
      | inr other ↦ rw other.0 (elim (eqb_tells q x.0) [
        | inl same ↦ rw (same.0, same.1) (ap (λ (b : Bool). put w b (Some x.1)) (sym (different x.0 domain (λ e. other.1 (sym e)))))
        | inr not_same ↦ rw not_same.0 (lookup-set_value q domain xs w)
      ])
    ]
  where
    at_key : (b : Bool) → cond b (Some w) (lookup (eqb q) xs) ≡ put w b (cond b (Some x.1) (lookup (eqb q) xs))
    at_key true = refl
    at_key false = refl

puts_agree : (a : Option (List (ℕ × Template))) (b : Option (List Event)) (entries : List (ℕ × Template)) (es : List Event) (t : Bool) → AgreesAt a b → Agrees entries es → AgreesAt (put entries t a) (put es t b)
puts_agree a b entries es false h agrees = h
puts_agree None None entries es true h agrees = tt
puts_agree (Some x) (Some y) entries es true h agrees = agrees
puts_agree None (Some y) entries es true h agrees = absurd h
puts_agree (Some x) None entries es true h agrees = absurd h

pub stands-put : (xs : List (ℕ × BTreeMap ℕ Template)) (ds : History) (domain : ℕ) (m : BTreeMap ℕ Template) (es : List Event) → StandsFor (kept xs) ds → Agrees m.entries es
    → StandsFor (kept (set_value (eqb domain) xs m)) (with_events ds domain es)
stands-put xs ds domain m es stands agrees =
    rw (kept-set_value (eqb domain) xs m)
    (stands-from (set_value (eqb domain) (kept xs) m.entries) (set_value (eqb domain) ds es)
    (keys_of-set_value (eqb domain) (kept xs) m.entries ∙ stands.domains ∙ sym (keys_of-set_value (eqb domain) ds es))
    (λ q. rw (lookup-set_value q domain (kept xs) m.entries, lookup-set_value q domain ds es) (puts_agree (lookup (eqb q) (kept xs)) (lookup (eqb q) ds) m.entries es (eqb q domain) (stands-at (kept xs) ds stands q) agrees)))

-- ---- a message

-- the events of a domain whose entries are kept
pub record EventsAt (ds : History) (domain : ℕ) (entries : List (ℕ × Template)) : Type 0 where
  pub events : List Event
  pub are : unwrap_or (lookup (eqb domain) ds) [] ≡ events
  pub agrees : Agrees entries events

events_at : (a : Option (List (ℕ × Template))) (ds : History) (domain : ℕ) (b : Option (List Event)) (entries : List (ℕ × Template)) → a ≡ Some entries → lookup (eqb domain) ds ≡ b → AgreesAt a b → EventsAt ds domain entries
events_at a ds domain (Some es) entries ea eb h = record { events = es; are = ap (λ (o : Option (List Event)). unwrap_or o []) eb; agrees = subst (λ (o : Option (List (ℕ × Template))). AgreesAt o (Some es)) ea h }
events_at a ds domain None entries ea eb h = absurd (subst (λ (o : Option (List (ℕ × Template))). AgreesAt o None) ea h)

pub events_of : (xs : List (ℕ × BTreeMap ℕ Template)) (ds : History) (domain : ℕ) (m : BTreeMap ℕ Template) → StandsFor (kept xs) ds → lookup (eqb domain) xs ≡ Some m → EventsAt ds domain m.entries
events_of xs ds domain m stands here =
    events_at (lookup (eqb domain) (kept xs)) ds domain (lookup (eqb domain) ds) m.entries (lookup-kept domain xs ∙ ap (option_map (λ (x : BTreeMap ℕ Template). x.entries)) here) refl (stands-at (kept xs) ds stands domain)

-- what follows in a message once its domain is admitted, and once its sets are read
abbrev pub after_admit : Header → List ℕ → History → Result Message MessageFault
after_admit h m known = sets_from h (before (unwrap_or (lookup (eqb h.domain) known) [])) (drop 16 m) >>= λ d. Ok (record { header = h; decoding = d; domains = with_events known h.domain d.events })

abbrev pub after_sets : Header → History → Decoding → Result Message MessageFault
after_sets h known d = Ok (record { header = h; decoding = d; domains = with_events known h.domain d.events })

gives_header : (ds : History) (m : List ℕ) (read : Result Header MessageFault) → message_header m ≡ read → message_gives ds m ≡ (read >>= λ h. admit ds h.domain >>= λ known. after_admit h m known)
unfolding message_gives
gives_header ds m read is = ap (λ (r : Result Header MessageFault). r >>= λ h. admit ds h.domain >>= λ known. after_admit h m known) is

gives_admit : (ds : History) (m : List ℕ) (h : Header) (read : Result History MessageFault) → message_header m ≡ Ok h → admit ds h.domain ≡ read → message_gives ds m ≡ (read >>= λ known. after_admit h m known)
gives_admit ds m h read is admitted = gives_header ds m (Ok h) is ∙ ap (λ (r : Result History MessageFault). r >>= λ known. after_admit h m known) admitted

gives_sets : (ds : History) (m : List ℕ) (h : Header) (known : History) (es : List Event) (read : Result Decoding MessageFault) → message_header m ≡ Ok h → admit ds h.domain ≡ Ok known → unwrap_or (lookup (eqb h.domain) known) [] ≡ es
    → sets_from h (before es) (drop 16 m) ≡ read → message_gives ds m ≡ (read >>= λ d. after_sets h known d)
gives_sets ds m h known es read is admitted are sets =
    gives_admit ds m h (Ok known) is admitted
    ∙ ap (λ (x : List Event). sets_from h (before x) (drop 16 m) >>= λ d. after_sets h known d) are
    ∙ ap (λ (r : Result Decoding MessageFault). r >>= λ d. after_sets h known d) sets

-- a domain that was admitted
pub was_admitted : (ds : History) (m : List ℕ) (h : Header) (es : List (ℕ × List (ℕ × Template))) → message_header m ≡ Ok h → Admits (Ok tt) es (admit ds h.domain) → IsAdmitted ds m
was_admitted ds m h es is admitted = record { header = h; good = is; domain = rw admitted.1 refl }

-- a message's header is the one that is read, and its length is that of the message
header_was : (m : List ℕ) (o : Result Header WireFault) (h : Header) → header_at m ≡ o → (of_wire o >>= λ k. cond (eqb k.length (length m)) (Ok k) (Err MessageLength)) ≡ Ok h → (header_at m ≡ read h) × (h.length ≡ length m)
header_was m (Ok k) h is e =
    elim (chosen (eqb k.length (length m)) (Ok k) (Err MessageLength) (Ok h) e) [
      | inl t ↦
          let same = ok_is k h t.1 in
          (is ∙ ap (λ (y : Header). read y) same, ap (λ (y : Header). y.length) (sym same) ∙ eqb-true k.length (length m) t.0)
      | inr f ↦ absurd (not_both h MessageLength (sym f.1))
    ]
header_was m (Err w) h is e = absurd (not_both h (fault_of w) (sym e))

pub header_is : (m : List ℕ) (h : Header) → message_header m ≡ Ok h → (16 ≤ length m) × (header_at m ≡ read h) × (h.length ≡ length m)
unfolding message_header
header_is m h good =
    elim (chosen (ltb (length m) 16) (Err MessageLength) (of_wire (header_at m) >>= λ k. cond (eqb k.length (length m)) (Ok k) (Err MessageLength)) (Ok h) good) [
      | inl t ↦ absurd (not_both h MessageLength (sym t.1))
      | inr f ↦ let was = header_was m (header_at m) h refl f.1 in (ltb-false (length m) 16 f.0, was.0, was.1)
    ]

pub header_is_whole : (m : List ℕ) (h : Header) → message_header m ≡ Ok h → 16 ≤ length m
header_is_whole m h good = (header_is m h good).0

pub header_has_length : (m : List ℕ) (h : Header) → message_header m ≡ Ok h → h.length ≡ length m
header_has_length m h good = (header_is m h good).2

pub bad_header : (e : MessageFault) (ds : History) (m : List ℕ) → Fails e (message_header m) → Fails e (message_gives ds m)
bad_header e ds m fails = Fails-of e (message_header m) (message_gives ds m) (λ f is. gives_header ds m (Err f) is) fails

pub bad_domain : (e : MessageFault) (ds : History) (m : List ℕ) (h : Header) → message_header m ≡ Ok h → Fails e (admit ds h.domain) → Fails e (message_gives ds m)
bad_domain e ds m h is fails = Fails-of e (admit ds h.domain) (message_gives ds m) (λ f admitted. gives_admit ds m h (Err f) is admitted) fails

pub bad_sets : (e : MessageFault) (ds : History) (m : List ℕ) (h : Header) (xs : List (ℕ × BTreeMap ℕ Template)) (t : BTreeMap ℕ Template) (p : Decoded) → message_header m ≡ Ok h
    → Admits (Ok tt) (kept xs) (admit ds h.domain) → lookup (eqb h.domain) xs ≡ Some t → ((es : List Event) → Agrees t.entries es → Holds t.entries p (before es))
    → ((d : Decoding) → Holds t.entries p d → Fails e (sets_from h d (drop 16 m))) → Fails e (message_gives ds m)
bad_sets e ds m h xs t p is admitted here starts fails =
    let at = events_of xs admitted.0 h.domain t admitted.2 here in
    Fails-of e (sets_from h (before at.events) (drop 16 m)) (message_gives ds m) (λ f sets. gives_sets ds m h admitted.0 at.events (Err f) is admitted.1 at.are sets)
    (fails (before at.events) (starts at.events at.agrees))

pub good_message : (ds : History) (m : List ℕ) (h : Header) (xs : List (ℕ × BTreeMap ℕ Template)) (t u : BTreeMap ℕ Template) (p decoded : Decoded) (news : List (ℕ × BTreeMap ℕ Template)) → message_header m ≡ Ok h
    → Admits (Ok tt) (kept xs) (admit ds h.domain) → lookup (eqb h.domain) xs ≡ Some t → ((es : List Event) → Agrees t.entries es → Holds t.entries p (before es))
    → ((d : Decoding) → Holds t.entries p d → Reaches (Ok tt) u.entries decoded (sets_from h d (drop 16 m)))
    → decoded.header ≡ h
    → news ≡ set_value (eqb h.domain) xs u
    → Decodes (Ok decoded) (kept news) (message_gives ds m)
good_message ds m h xs t u p decoded news is admitted here starts reaches same written =
    let at = events_of xs admitted.0 h.domain t admitted.2 here in
    let r = reaches (before at.events) (starts at.events at.agrees) in
    let d = r.0 in
    let holds = r.2 in (
      record { header = h; decoding = d; domains = with_events admitted.0 h.domain d.events },
      gives_sets ds m h admitted.0 at.events (Ok d) is admitted.1 at.are r.1,
      record { header = same; records = holds.records; passed_over = holds.passed_over },
      rw written (stands-put xs admitted.0 h.domain u d.events admitted.2 holds.templates),
    )

-- ---- look-ups

pub template_for-none : (xs : List (ℕ × BTreeMap ℕ Template)) (ds : History) (domain id : ℕ) → StandsFor (kept xs) ds → lookup (eqb domain) xs ≡ None → template_for ds domain id ≡ None
template_for-none xs ds domain id stands none =
    sym (stands.templates domain id)
    ∙ ap (λ (o : Option (List (ℕ × Template))). option_and_then (λ entries. template_in entries id) o) (lookup-kept domain xs ∙ ap (option_map (λ (m : BTreeMap ℕ Template). m.entries)) none)

pub template_for-some : (xs : List (ℕ × BTreeMap ℕ Template)) (ds : History) (domain id : ℕ) (m : BTreeMap ℕ Template) → StandsFor (kept xs) ds → lookup (eqb domain) xs ≡ Some m → template_for ds domain id ≡ template_in m.entries id
template_for-some xs ds domain id m stands some =
    sym (stands.templates domain id)
    ∙ ap (λ (o : Option (List (ℕ × Template))). option_and_then (λ entries. template_in entries id) o) (lookup-kept domain xs ∙ ap (option_map (λ (x : BTreeMap ℕ Template). x.entries)) some)

-- the templates of a domain, where it is kept
pub templates_for : (xs : List (ℕ × BTreeMap ℕ Template)) (ds : History) (domain id : ℕ) (o : Option (BTreeMap ℕ Template)) → StandsFor (kept xs) ds → lookup (eqb domain) xs ≡ o
    → option_and_then (λ (m : BTreeMap ℕ Template). template_in m.entries id) o ≡ template_for ds domain id
templates_for xs ds domain id None stands e = sym (template_for-none xs ds domain id stands e)
templates_for xs ds domain id (Some m) stands e = sym (template_for-some xs ds domain id m stands e)

-- no domains stand for none
pub stands-none : StandsFor [] []
stands-none = record { domains = refl; templates = λ domain id. refl }

-- ---- whether a domain finds room

pub has_room-known : (es : List (ℕ × BTreeMap ℕ Template)) (ds : History) (domain : ℕ) → StandsFor (kept es) ds → is_some (lookup (eqb domain) es) ≡ true → IsOk (admit ds domain)
has_room-known es ds domain stands there = let a = admit-known es ds domain stands there in rw a.1 refl

pub has_room-new : (es : List (ℕ × BTreeMap ℕ Template)) (ds : History) (domain n : ℕ) → StandsFor (kept es) ds → is_some (lookup (eqb domain) es) ≡ false → n ≡ length es
    → MatchBool (ltb n 1024) (IsOk (admit ds domain)) (admit ds domain ≡ Err TooManyDomains)
has_room-new es ds domain n stands new size = by_test (ltb n 1024) refl
  where
    by_test : (b : Bool) → ltb n 1024 ≡ b → MatchBool b (IsOk (admit ds domain)) (admit ds domain ≡ Err TooManyDomains)
    by_test true e = rw (admit-room es ds domain stands new (omega (arith, size, ltb-true n 1024 e))) refl
    by_test false e = admit-full es ds domain stands new (omega (arith, size, ltb-false n 1024 e))

-- ---- one domain alone

abbrev IsCopy : ℕ × Template → ℕ × Template → Type 0
IsCopy p q = (q.0 ≡ p.0) × (q.1 ≡ p.1)

entry_is : (p q : ℕ × Template) → IsCopy p q → q ≡ p
entry_is p q h = ap (λ (k : ℕ). (k, q.1)) h.0 ∙ ap (λ (t : Template). (p.0, t)) h.1

-- a map whose entries are copies has the same
pub copied : (es fs : List (ℕ × Template)) → AllZip IsCopy es fs → fs ≡ es
copied [] [] h = refl
copied [] (f ∷ fs) h = absurd h
copied (e ∷ es) [] h = absurd h
copied (e ∷ es) (f ∷ fs) h = ap (λ (x : ℕ × Template). x ∷ fs) (entry_is e f h.0) ∙ ap (λ (xs : List (ℕ × Template)). e ∷ xs) (copied es fs h.1)

alone_none : (a : Option (List (ℕ × Template))) (ds : History) (domain : ℕ) (b : Option (List Event)) → a ≡ None → lookup (eqb domain) ds ≡ b → AgreesAt a b → alone ds domain ≡ []
alone_none a ds domain None ea eb h = ap (λ (o : Option (List Event)). elim o [ None ↦ [] | Some es ↦ (domain, es) ∷ [] ]) eb
alone_none a ds domain (Some es) ea eb h = absurd (subst (λ (o : Option (List (ℕ × Template))). AgreesAt o (Some es)) ea h)

pub stands_alone-none : (xs : List (ℕ × BTreeMap ℕ Template)) (ds : History) (domain : ℕ) → StandsFor (kept xs) ds → lookup (eqb domain) xs ≡ None → StandsFor [] (alone ds domain)
stands_alone-none xs ds domain stands none =
    let e = alone_none (lookup (eqb domain) (kept xs)) ds domain (lookup (eqb domain) ds) (lookup-kept domain xs ∙ ap (option_map (λ (x : BTreeMap ℕ Template). x.entries)) none) refl (stands-at (kept xs) ds stands domain) in
    rw e stands-none

alone_some : (a : Option (List (ℕ × Template))) (ds : History) (domain : ℕ) (b : Option (List Event)) (entries : List (ℕ × Template)) → a ≡ Some entries → lookup (eqb domain) ds ≡ b → AgreesAt a b
    → StandsFor ((domain, entries) ∷ []) (alone ds domain)
alone_some a ds domain (Some es) entries ea eb h =
    let e : alone ds domain ≡ (domain, es) ∷ [] = ap (λ (o : Option (List Event)). elim o [ None ↦ [] | Some fs ↦ (domain, fs) ∷ [] ]) eb in
    let agrees : Agrees entries es = subst (λ (o : Option (List (ℕ × Template))). AgreesAt o (Some es)) ea h in
    rw e (stands-from ((domain, entries) ∷ []) ((domain, es) ∷ []) refl (λ q. at (eqb q domain) es agrees))
  where
    at : (b : Bool) (es : List Event) → Agrees entries es → AgreesAt (cond b (Some entries) None) (cond b (Some es) None)
    at true es agrees = agrees
    at false es agrees = tt
alone_some a ds domain None entries ea eb h = absurd (subst (λ (o : Option (List (ℕ × Template))). AgreesAt o None) ea h)

pub stands_alone : (xs : List (ℕ × BTreeMap ℕ Template)) (ds : History) (domain : ℕ) (m n : BTreeMap ℕ Template) → StandsFor (kept xs) ds → lookup (eqb domain) xs ≡ Some m → AllZip IsCopy m.entries n.entries
    → StandsFor ((domain, n.entries) ∷ []) (alone ds domain)
stands_alone xs ds domain m n stands some is =
    rw (copied m.entries n.entries is)
    (alone_some (lookup (eqb domain) (kept xs)) ds domain (lookup (eqb domain) ds) m.entries (lookup-kept domain xs ∙ ap (option_map (λ (x : BTreeMap ℕ Template). x.entries)) some) refl (stands-at (kept xs) ds stands domain))

-- ---- a message that is only checked

admit_same : (ds : History) (domain : ℕ) (es : List Event) → lookup (eqb domain) ds ≡ Some es → admit ds domain ≡ Ok ds
unfolding admit
admit_same ds domain es here = rw (ap is_some here) refl

not_false : (b : Bool) → false ≡ not b → b ≡ true
not_false true h = refl
not_false false h = absurd cc

-- by the events of its domain
checked_after : (ds : History) (m : List ℕ) (h : Header) (es : List Event) (result : Result Bool MessageFault) → message_header m ≡ Ok h → lookup (eqb h.domain) ds ≡ Some es
    → ChecksUpTo result (before es) (sets_from h (before es) (drop 16 m)) → IfOk result (λ is_data. is_data ≡ not (has_template_set (drop 16 m))) → IsChecked result ds h.domain m
checked_after ds m h es (Ok true) is here checked are =
    record {
      given = record { header = h; decoding = checked.0; domains = with_events ds h.domain checked.0.events };
      read = gives_sets ds m h ds es (Ok checked.0) is (admit_same ds h.domain es here) (ap (λ (o : Option (List Event)). unwrap_or o []) here) checked.1;
      same = ap (λ (x : List Event). with_events ds h.domain x) checked.2 ∙ set_value_same (eqb h.domain) ds es here;
    }
checked_after ds m h es (Ok false) is here checked are = inl (not_false (has_template_set (drop 16 m)) are)
checked_after ds m h es (Err f) is here checked are =
    (gives_sets ds m h ds es (Err f) is (admit_same ds h.domain es here) (ap (λ (o : Option (List Event)). unwrap_or o []) here) checked.0, checked.1)

checked_at : (a : Option (List (ℕ × Template))) (b : Option (List Event)) (ds : History) (m : List ℕ) (h : Header) (entries : List (ℕ × Template)) (result : Result Bool MessageFault) → message_header m ≡ Ok h
    → a ≡ Some entries → lookup (eqb h.domain) ds ≡ b → AgreesAt a b → ChecksSets entries (drop 16 m) result
    → IfOk result (λ is_data. is_data ≡ not (has_template_set (drop 16 m))) → IsChecked result ds h.domain m
checked_at a (Some es) ds m h entries result is ea eb agrees checked are =
    let at : Agrees entries es = subst (λ (o : Option (List (ℕ × Template))). AgreesAt o (Some es)) ea agrees in
    checked_after ds m h es result is eb (checked h (before es) at) are
checked_at a None ds m h entries result is ea eb agrees checked are = absurd (subst (λ (o : Option (List (ℕ × Template))). AgreesAt o None) ea agrees)

pub checked_message : (xs : List (ℕ × List (ℕ × Template))) (ds : History) (m : List ℕ) (h : Header) (entries : List (ℕ × Template)) (result : Result Bool MessageFault) → message_header m ≡ Ok h
    → StandsFor xs ds → lookup (eqb h.domain) xs ≡ Some entries → ChecksSets entries (drop 16 m) result
    → IfOk result (λ is_data. is_data ≡ not (has_template_set (drop 16 m))) → IsChecked result ds h.domain m
checked_message xs ds m h entries result is stands here checked are =
    checked_at (lookup (eqb h.domain) xs) (lookup (eqb h.domain) ds) ds m h entries result is here refl (stands-at xs ds stands h.domain) checked are

-- its domain has not appeared
pub new_domain : (xs : List (ℕ × List (ℕ × Template))) (ds : History) (domain : ℕ) → StandsFor xs ds → lookup (eqb domain) xs ≡ None → is_some (lookup (eqb domain) ds) ≡ false
new_domain xs ds domain stands none = sym (same_found (eqb domain) xs ds stands.domains) ∙ ap is_some none
