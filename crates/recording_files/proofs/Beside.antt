-- The domains of a file beside those of the session.
use Rattle.std.proofs.Common.{◌≡◌, ℕ, ◌≤◌, Bool, true, false, cond, eqb, is_some, List, [], ◌∷◌, ◌++◌, length, drop, Some, Result, Ok, Err, refl, sym, ap, subst, ◌∙◌, arith, inl, inr}
use Rattle.std.specs.Prelude.{◌⊎◌, ◌||◌}
use Rattle.std.specs.List.{list_any}
use Rattle.std.specs.Map.{lookup, keys_of}
use Rattle.std.proofs.lemmas.Bool.{cases_Bool, eqb-true}
use Rattle.std.proofs.lemmas.Map.Entries.{length-keys_of}
use Rattle.ipfix_wire.specs.declared.header.Header.{Header}
use Rattle.ipfix_wire.proofs.Choices.{or_right}
use Rattle.ipfix_message.specs.Alike.{Alike, IsPartOf, SameDecoding, SameInForce, SameMessage, knows}
use Rattle.ipfix_message.specs.Domains.{History, Message, events_in, message_gives, with_events}
use Rattle.ipfix_message.specs.Messages.{Decoding, before, sets_from}
use Rattle.ipfix_message.specs.declared.fault.MessageFault.{MessageFault}
use Rattle.ipfix_message.specs.declared.template_record.Event.{Event}
use Rattle.ipfix_message.proofs.Alikes.{sets_alike}
use Rattle.ipfix_message.proofs.PartsOf.{HasRoom, Reads, Steps, admits, or_left, part_leads, part_reads, reads, room_left, was_read}
use Rattle.ipfix_message.proofs.TemplateMessages.{Below}
use Rattle.ipfix_session.specs.Given.{known_after}
use Rattle.recording_files.specs.Recordings.{has}

-- ---- which domains messages have

pub has-append : (xs ys : List Message) (d : ℕ) → has (xs ++ ys) d ≡ (has xs d || has ys d)
has-append [] ys d = refl
has-append (x ∷ xs) ys d = by_test (eqb d x.header.domain) (has-append xs ys d)
  where
    by_test : (b : Bool) → has (xs ++ ys) d ≡ (has xs d || has ys d) → (b || has (xs ++ ys) d) ≡ ((b || has xs d) || has ys d)
    by_test true h = refl
    by_test false h = h

or_false_right : (b : Bool) → (b || false) ≡ b
or_false_right true = refl
or_false_right false = refl

pub has-push : (xs : List Message) (x : Message) (d : ℕ) → has (xs ++ x ∷ []) d ≡ (has xs d || eqb d x.header.domain)
has-push xs x d = has-append xs (x ∷ []) d ∙ ap (λ (b : Bool). has xs d || b) (or_false_right (eqb d x.header.domain))

-- the domains of a session and those of its messages
pub record IsSession (ds : History) (ms : List Message) : Type 0 where
  pub few : length ds ≤ 1024
  pub knows_at : (q : ℕ) → knows ds q ≡ has ms q

-- ---- domains by their keys

knows_by_keys : (ds : History) (d : ℕ) → knows ds d ≡ list_any (eqb d) (keys_of ds)
knows_by_keys [] d = refl
knows_by_keys (e ∷ es) d = by_test (eqb d e.0) (knows_by_keys es d)
  where
    by_test : (b : Bool) → knows es d ≡ list_any (eqb d) (keys_of es) → is_some (cond b (Some e.1) (lookup (eqb d) es)) ≡ (b || list_any (eqb d) (keys_of es))
    by_test true h = refl
    by_test false h = h

same_knows : (ds fs : History) (d : ℕ) → keys_of ds ≡ keys_of fs → knows ds d ≡ knows fs d
same_knows ds fs d same = knows_by_keys ds d ∙ ap (list_any (eqb d)) same ∙ sym (knows_by_keys fs d)

same_length : (ds fs : History) → keys_of ds ≡ keys_of fs → length ds ≡ length fs
same_length ds fs same = sym (length-keys_of ds) ∙ ap length same ∙ length-keys_of fs

same_room : (ds fs : History) (d : ℕ) → keys_of ds ≡ keys_of fs → HasRoom ds d → HasRoom fs d
same_room ds fs d same (inl there) = inl (sym (same_knows ds fs d same) ∙ there)
same_room ds fs d same (inr new) = inr (sym (same_knows ds fs d same) ∙ new.0, omega (arith, new.1, same_length ds fs same))

same_keys : (ds fs news more : History) (d : ℕ) (es gs : List Event) → keys_of ds ≡ keys_of fs → Steps ds d es news → Steps fs d gs more → keys_of news ≡ keys_of more
same_keys ds fs news more d es gs same s t = s.keys ∙ by_keys (knows ds d) (knows fs d) (keys_of ds) (keys_of fs) (same_knows ds fs d same) same ∙ sym t.keys
  where
    by_keys : (a b : Bool) (xs ys : List ℕ) → a ≡ b → xs ≡ ys → cond a xs (xs ++ d ∷ []) ≡ cond b ys (ys ++ d ∷ [])
    by_keys a b xs ys p q = rw (p, q) refl

-- ---- a file beside the session

-- the domains of a file beside these of a session: no more are known, where another list of the same domains counts them; and each
-- has no template that isn't in force in the session, and all of those where the file has messages of it
pub record BesideOf (ds : History) (all here : List Message) (fs : History) : Type 0 where
  pub session : IsSession ds all
  pub twin : History
  pub keys : keys_of twin ≡ keys_of fs
  pub part : IsPartOf twin ds
  pub below : (q : ℕ) → Below (events_in fs q) (events_in ds q)
  pub whole : (q : ℕ) → has here q ≡ true → (knows fs q ≡ true) × SameInForce (events_in ds q) (events_in fs q)

abbrev pub Beside : List Message → List Message → History → Type 0
Beside before here fs = BesideOf (known_after [] (before ++ here)) (before ++ here) here fs

pub room_beside : (ds : History) (all here : List Message) (fs : History) (d : ℕ) → BesideOf ds all here fs → knows ds d ≡ true → HasRoom fs d
room_beside ds all here fs d b there = same_room b.twin fs d b.keys (by_cases (cases_Bool (knows b.twin d)))
  where
    by_cases : (knows b.twin d ≡ true) ⊎ (knows b.twin d ≡ false) → HasRoom b.twin d
    by_cases (inl t) = inl t
    by_cases (inr f) = inr (f, room_left b.twin ds d b.part f there)

-- a domain that the session doesn't know the file doesn't know
pub unknown_beside : (ds : History) (all here : List Message) (fs : History) (d : ℕ) → BesideOf ds all here fs → knows ds d ≡ false → knows fs d ≡ false
unknown_beside ds all here fs d b none = by_cases (cases_Bool (knows fs d))
  where
    not_both : (c : Bool) → c ≡ true → c ≡ false → ⊥
    not_both c p q = cc

    by_cases : (knows fs d ≡ true) ⊎ (knows fs d ≡ false) → knows fs d ≡ false
    by_cases (inl t) = absurd (not_both (knows ds d) (b.part.known d (same_knows b.twin fs d b.keys ∙ t)) none)
    by_cases (inr f) = f

-- the recorder's own message of a domain that the session knows
pub beside_leads : (ds : History) (all here : List Message) (fs news : History) (d : ℕ) (es : List Event) → BesideOf ds all here fs → Steps fs d es news → knows ds d ≡ true → Below es (events_in ds d)
    → (has here d ≡ true → SameInForce (events_in ds d) es) → BesideOf ds all here news
beside_leads ds all here fs news d es b s there below whole =
    let room : HasRoom b.twin d = same_room fs b.twin d (sym b.keys) (room_beside ds all here fs d b there) in
    let a = admits b.twin d room in
    let more : History = with_events a.0 d (events_in ds d) in
    let t : Steps b.twin d (events_in ds d) more = a.1.steps (events_in ds d) in
    record {
      session = b.session;
      twin = more;
      keys = same_keys b.twin fs more news d (events_in ds d) es b.keys t s;
      part = part_leads b.twin ds more d (events_in ds d) b.part t there (record { at = λ id. refl });
      below = λ q. elim (cases_Bool (eqb q d)) [
        | inl e ↦ subst (λ (x : List Event). Below x (events_in ds q)) (sym (at_key q e)) (subst (λ (n : ℕ). Below es (events_in ds n)) (sym (eqb-true q d e)) below)
        | inr f ↦ subst (λ (x : List Event). Below x (events_in ds q)) (sym (at_other q f)) (b.below q)
      ];
      whole = λ q h. elim (cases_Bool (eqb q d)) [
        | inl e ↦ (
          s.knows_at q ∙ or_right (knows fs q) (eqb q d) e,
          subst (λ (x : List Event). SameInForce (events_in ds q) x) (sym (at_key q e)) (subst (λ (n : ℕ). SameInForce (events_in ds n) es) (sym (eqb-true q d e)) (whole (subst (λ (n : ℕ). has here n ≡ true) (eqb-true q d e) h))),
        )
        | inr f ↦ (
          s.knows_at q ∙ or_left (knows fs q) (eqb q d) (b.whole q h).0,
          subst (λ (x : List Event). SameInForce (events_in ds q) x) (sym (at_other q f)) (b.whole q h).1,
        )
      ];
    }
  where
    at_key : (q : ℕ) → eqb q d ≡ true → events_in news q ≡ es
    at_key q e = s.events_at q ∙ ap (λ (c : Bool). cond c es (events_in fs q)) e

    at_other : (q : ℕ) → eqb q d ≡ false → events_in news q ≡ events_in fs q
    at_other q f = s.events_at q ∙ ap (λ (c : Bool). cond c es (events_in fs q)) f

-- ---- a message of the session

alike_ok : (d : Decoding) (r : Result Decoding MessageFault) → Alike SameDecoding (Ok d) r → (e : Decoding) × (r ≡ Ok e) × SameDecoding d e
alike_ok d (Ok e) h = (e, refl, h)
alike_ok d (Err f) h = absurd h

pub record ReadsBeside (ds : History) (all here : List Message) (fs : History) (m : List ℕ) (x : Message) : Type 0 where
  pub given : Message
  pub is : message_gives fs m ≡ Ok given
  pub same : SameMessage x given
  pub beside : BesideOf x.domains (all ++ x ∷ []) (here ++ x ∷ []) given.domains

-- where all templates of its domain are there, the file reads it as the session does
pub beside_reads : (ds : History) (all here : List Message) (fs : History) (m : List ℕ) (x : Message) → BesideOf ds all here fs → knows fs x.header.domain ≡ knows ds x.header.domain
    → SameInForce (events_in ds x.header.domain) (events_in fs x.header.domain) → Reads ds m x → ReadsBeside ds all here fs m x
beside_reads ds all here fs m x b known same read =
    let d = x.header.domain in
    let t = part_reads b.twin ds m x b.part (same_knows b.twin fs d b.keys ∙ known) read in
    let twin_read = was_read b.twin m t.0 t.1 in
    let twin_room : HasRoom b.twin d = subst (λ (h : Header). HasRoom b.twin h.domain) (sym t.2.header) twin_read.room in
    let alike = sets_alike x.header (before (events_in ds d)) (before (events_in fs d)) (drop 16 m) (record { events = same; records = refl; passed_over = refl }) in
    let e = alike_ok x.decoding (sets_from x.header (before (events_in fs d)) (drop 16 m)) (subst (λ (r : Result Decoding MessageFault). Alike SameDecoding r (sets_from x.header (before (events_in fs d)) (drop 16 m))) read.sets alike) in
    let r = reads fs m x.header e.0 read.header (same_room b.twin fs d b.keys twin_room) e.1 in
    let y = r.0 in
    let steps : Steps fs d y.decoding.events y.domains = subst (λ (h : Header). Steps fs h.domain y.decoding.events y.domains) r.2 r.4.steps in
    let decoding : SameDecoding x.decoding y.decoding = subst (SameDecoding x.decoding) (sym r.3) e.2 in
    record {
      given = y;
      is = r.1;
      same = record { header = sym r.2; decoding = decoding };
      beside = record {
        session = record {
          few = t.3.few;
          knows_at = λ q. read.steps.knows_at q ∙ ap (λ (c : Bool). c || eqb q d) (b.session.knows_at q) ∙ sym (has-push all x q);
        };
        twin = t.0.domains;
        keys = same_keys b.twin fs t.0.domains y.domains d t.0.decoding.events y.decoding.events b.keys t.4 steps;
        part = t.3;
        below = λ q. below_at y steps decoding.events q;
        whole = λ q h. whole_at y steps decoding.events q h;
      };
    }
  where
    at_key : (fs news : History) (es : List Event) (q : ℕ) → Steps fs x.header.domain es news → eqb q x.header.domain ≡ true → events_in news q ≡ es
    at_key fs news es q s e = s.events_at q ∙ ap (λ (c : Bool). cond c es (events_in fs q)) e

    at_other : (fs news : History) (es : List Event) (q : ℕ) → Steps fs x.header.domain es news → eqb q x.header.domain ≡ false → events_in news q ≡ events_in fs q
    at_other fs news es q s f = s.events_at q ∙ ap (λ (c : Bool). cond c es (events_in fs q)) f

    below_at : (y : Message) → Steps fs x.header.domain y.decoding.events y.domains → SameInForce x.decoding.events y.decoding.events → (q : ℕ) → Below (events_in y.domains q) (events_in x.domains q)
    below_at y s force q = elim (cases_Bool (eqb q x.header.domain)) [
      | inl e ↦
          let whole : Below y.decoding.events x.decoding.events = record { at = λ id. inr (sym (force.at id)) } in
          rw (at_key fs y.domains y.decoding.events q s e, at_key ds x.domains x.decoding.events q read.steps e) whole
      | inr f ↦ rw (at_other fs y.domains y.decoding.events q s f, at_other ds x.domains x.decoding.events q read.steps f) (b.below q)
    ]

    none_here : (a c : Bool) → (a || c) ≡ true → c ≡ false → a ≡ true
    none_here true c p q = refl
    none_here false c p q = absurd cc

    whole_at : (y : Message) → Steps fs x.header.domain y.decoding.events y.domains → SameInForce x.decoding.events y.decoding.events → (q : ℕ) → has (here ++ x ∷ []) q ≡ true
        → (knows y.domains q ≡ true) × SameInForce (events_in x.domains q) (events_in y.domains q)
    whole_at y s force q h = elim (cases_Bool (eqb q x.header.domain)) [
      | inl e ↦ (
        s.knows_at q ∙ or_right (knows fs q) (eqb q x.header.domain) e,
        rw (at_key fs y.domains y.decoding.events q s e, at_key ds x.domains x.decoding.events q read.steps e) force,
      )
      | inr f ↦
          let old = b.whole q (none_here (has here q) (eqb q x.header.domain) (sym (has-push here x q) ∙ h) f) in (
            s.knows_at q ∙ or_left (knows fs q) (eqb q x.header.domain) old.0,
            rw (at_other fs y.domains y.decoding.events q s f, at_other ds x.domains x.decoding.events q read.steps f) old.1,
          )
    ]
