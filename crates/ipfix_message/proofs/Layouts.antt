-- What the layout of a template's records says of them.
use Rattle.std.proofs.Common.{◌≡◌, ℕ, suc, ◌+◌, ◌^◌, ◌<◌, ◌≤◌, Bool, true, false, cond, eqb, ltb, List, [], ◌∷◌, ◌++◌, length, take, drop, Option, Some, None, Result, Ok, Err, refl, sym, ap, ◌∙◌, arith, inl, inr}
use Rattle.std.specs.Prelude.{◌⊎◌, All, OnOk, find}
use Rattle.std.specs.Option.{option_map, ok_or}
use Rattle.std.specs.Result.{result_ok}
use Rattle.std.specs.Ordering.{nat_cmp}
use Rattle.std.specs.BTreeMap.{get}
use Rattle.std.proofs.lemmas.Bool.{le-ltb, lt-ltb, ltb-true, ltb-false}
use Rattle.std.proofs.lemmas.Bool.Decides.{eqb_tells}
use Rattle.std.proofs.lemmas.List.{length-drop, length-take-le, take-append-drop}
use Rattle.std.proofs.lemmas.List.Elements.{All-nil, All-cons, All-head, All-tail}
use Rattle.std.proofs.Math.Seq.{drop-append-add}
use Rattle.ipfix_wire.specs.Numbers.{IsOctets}
use Rattle.ipfix_wire.specs.declared.specifier.Spec.{Spec}
use Rattle.ipfix_wire.specs.declared.specifier.ElementId.{ElementId}
use Rattle.ipfix_wire.proofs.Parts.{cases_read}
use Rattle.ipfix_message.specs.declared.fault.MessageFault.{MessageFault}
use Rattle.ipfix_message.specs.declared.fault.MessageFault.TheVariants.{RecordCut}
use Rattle.ipfix_message.specs.declared.places.FieldPlace.{FieldPlace}
use Rattle.ipfix_message.specs.declared.layout.Layout.{Layout}
use Rattle.ipfix_message.specs.Fields.{Field, same_element, octets_of}
use Rattle.ipfix_message.specs.Outcome.{Read, ◌>>=◌, Gives}
use Rattle.ipfix_message.specs.SpelledFields.{SpellsOctets, Spells, IsShort, BeginsWithFields, unless_cut, octets_at, value_at, fields_at, fields_in}
use Rattle.ipfix_message.specs.Layouts.{gaps_from, last_from, behind, place_from, key_of, IsNarrow, IsLayout, skip, after_gap, after_gaps, after_all, value_behind, octets_at_place}
use Rattle.ipfix_message.proofs.Reading.{ok_is, not_both, fault_is, bind_ok}
use Rattle.ipfix_message.proofs.RecordFields.{fields_at-found}
use Rattle.ipfix_message.proofs.SpelledFields.{fields_in-read, begins-found}

-- ---- the octets after a gap

ltb_tells : (a b : ℕ) → ((ltb a b ≡ true) × (a < b)) ⊎ ((ltb a b ≡ false) × (b ≤ a))
ltb_tells a b = by_test (ltb a b) refl
  where
    by_test : (test : Bool) → ltb a b ≡ test → ((ltb a b ≡ true) × (a < b)) ⊎ ((ltb a b ≡ false) × (b ≤ a))
    by_test true e = inl (e, ltb-true a b e)
    by_test false e = inr (e, ltb-false a b e)

skip-none : (w : List ℕ) → skip 0 w ≡ Ok w
skip-none w = rw (le-ltb (length w) 0 (omega arith)) refl

skip-more : (a b : ℕ) (w : List ℕ) → skip (a + b) w ≡ (skip a w >>= skip b)
skip-more a b w = elim (ltb_tells (length w) a) [
  | inl short ↦ rw (lt-ltb (length w) (a + b) (omega (arith, short.1)), short.0) refl
  | inr long ↦ rw long.0 (skip-inside a b w (omega (arith, long.1)))
]
  where
    drop-both : (a b : ℕ) (w : List ℕ) → a ≤ length w → drop (a + b) w ≡ drop b (drop a w)
    drop-both a b w room =
        let front = take a w in
        let whole : front ++ drop a w ≡ w = take-append-drop a w in
        let size : length front ≡ a = length-take-le a w room in
        ap (drop (a + b)) (sym whole) ∙ ap (λ (n : ℕ). drop (n + b) (front ++ drop a w)) (sym size) ∙ drop-append-add front (drop a w) b

    skip-inside : (a b : ℕ) (w : List ℕ) → a ≤ length w → skip (a + b) w ≡ skip b (drop a w)
    skip-inside a b w room = elim (ltb_tells (length w) (a + b)) [
      | inl short ↦ rw (short.0, lt-ltb (length (drop a w)) b (omega (arith, short.1, length-drop a w))) refl
      | inr long ↦ rw (long.0, le-ltb (length (drop a w)) b (omega (arith, long.1, length-drop a w)), drop-both a b w room) refl
    ]

-- ---- what follows a record

-- what follows, of what was read
abbrev seconds : {X : Type 0} → Read (X × List ℕ) → Read (List ℕ)
seconds read = read >>= λ x. Ok x.1

seconds-cons : (field : Field) (read : Read (List Field × List ℕ)) → seconds (read >>= λ others. Ok (field ∷ others.0, others.1)) ≡ seconds read
seconds-cons field (Ok x) = refl
seconds-cons field (Err e) = refl

after-variable : (s : Spec) (ss : List Spec) (gaps : List ℕ) (last : ℕ) → s.width ≡ 65535 → ((y : List ℕ) → (after_gaps gaps y >>= skip last) ≡ seconds (fields_at ss y))
    → (read : Read (List ℕ)) → (((read >>= λ z. value_at 65535 z >>= λ x. Ok x.1) >>= after_gaps gaps) >>= skip last) ≡ seconds (read >>= fields_at (s ∷ ss))
unfolding fields_at
after-variable s ss gaps last wide others (Err e) = refl
after-variable s ss gaps last wide others (Ok z) = elim (cases_read (value_at 65535 z)) [
  | inl x ↦ rw (wide, x.1) (others x.0.1 ∙ sym (seconds-cons (record { element = s.element; octets = x.0.0 }) (fields_at ss x.0.1)))
  | inr e ↦ rw (wide, e.1) refl
]

after-fixed : (s : Spec) (ss : List Spec) → eqb s.width 65535 ≡ false → (read : Read (List ℕ)) → seconds ((read >>= skip s.width) >>= fields_at ss) ≡ seconds (read >>= fields_at (s ∷ ss))
unfolding fields_at value_at
after-fixed s ss fixed (Err e) = refl
after-fixed s ss fixed (Ok z) = elim (ltb_tells (length z) s.width) [
  | inl short ↦ rw (fixed, short.0) refl
  | inr long ↦ rw (fixed, long.0) (sym (seconds-cons (record { element = s.element; octets = take s.width z }) (fields_at ss (drop s.width z))))
]

after_all-reads : (ss : List Spec) (o : ℕ) (w : List ℕ) → after_all (gaps_from o ss) (last_from o ss) w ≡ seconds (skip o w >>= fields_at ss)
unfolding fields_at
after_all-reads [] o w = by_read (skip o w)
  where
    by_read : (read : Read (List ℕ)) → read ≡ seconds {X = List Field} (read >>= λ r. Ok ([], r))
    by_read (Ok r) = refl
    by_read (Err e) = refl
after_all-reads (s ∷ ss) o w = elim (eqb_tells s.width 65535) [
  | inl variable ↦ rw variable.0 (after-variable s ss (gaps_from 0 ss) (last_from 0 ss) variable.1 (λ y. after_all-reads ss 0 y ∙ ap (λ (r : Read (List ℕ)). seconds (r >>= fields_at ss)) (skip-none y)) (skip o w))
  | inr fixed ↦ rw fixed.0 (after_all-reads ss (o + s.width) w ∙ ap (λ (r : Read (List ℕ)). seconds (r >>= fields_at ss)) (skip-more o s.width w) ∙ after-fixed s ss fixed.0 (skip o w))
]

-- ---- the field at a place

place-later : (gap : ℕ) (gaps : List ℕ) (p : Option FieldPlace) (w y : List ℕ) → after_gap gap w ≡ Ok y → octets_at_place (gap ∷ gaps) (behind 1 p) w ≡ octets_at_place gaps p y
place-later gap gaps None w y after = refl
place-later gap gaps (Some p) w y after =
    let one : 1 + p.before ≡ suc p.before = omega arith in
    let front : take (1 + p.before) (gap ∷ gaps) ≡ gap ∷ take p.before gaps = ap (λ (n : ℕ). take n (gap ∷ gaps)) one in
    ap (λ (gs : List ℕ). option_map (λ x. x.0) (result_ok (value_behind gs p.offset p.width w))) front
    ∙ ap (λ (r : Read (List ℕ)). option_map (λ x. x.0) (result_ok (r >>= after_gaps (take p.before gaps) >>= skip p.offset >>= value_at p.width))) after

-- what follows the octets of a field of fixed width
skip-value : (width : ℕ) (z : List ℕ) (first : List ℕ × List ℕ) → eqb width 65535 ≡ false → value_at width z ≡ Ok first → skip width z ≡ Ok first.1
unfolding value_at
skip-value width z first fixed value =
    let read : octets_at width z ≡ Ok first = rw fixed at value in
    elim (ltb_tells (length z) width) [
      | inl short ↦ absurd (not_both first RecordCut (sym read ∙ rw short.0 refl))
      | inr long ↦ let both : (take width z, drop width z) ≡ first = ok_is (take width z, drop width z) first (rw long.0 at read) in rw long.0 (ap (λ (p : List ℕ × List ℕ). Ok p.1) both)
    ]

-- the first field of an element is what the layout's place reads, where o octets stand before the first specifier
abbrev Sought : List Spec → Type 0
Sought ss = (o : ℕ) (w : List ℕ) (e : ElementId) (x : List Field × List ℕ) → (skip o w >>= fields_at ss) ≡ Ok x → octets_of e x.0 ≡ octets_at_place (gaps_from o ss) (place_from o ss e) w

sought-more : (s : Spec) (ss : List Spec) → Sought ss → (o : ℕ) (w : List ℕ) (e : ElementId) (same : Bool) (z : List ℕ) (first : List ℕ × List ℕ) (others : List Field × List ℕ)
    → skip o w ≡ Ok z → value_at s.width z ≡ Ok first → fields_at ss first.1 ≡ Ok others
    → option_map (λ f. f.octets) (cond same (Some (record { element = s.element; octets = first.0 })) (find (λ f. same_element f.element e) others.0))
    ≡ octets_at_place (gaps_from o (s ∷ ss)) (cond same (Some (record { before = 0; offset = o; width = s.width })) (cond (eqb s.width 65535) (behind 1 (place_from 0 ss e)) (place_from (o + s.width) ss e))) w
sought-more s ss more o w e true z first others a b c = rw (a, b) refl
sought-more s ss more o w e false z first others a b c = elim (eqb_tells s.width 65535) [
  | inl variable ↦
      let value : value_at 65535 z ≡ Ok first = rw (← variable.1) b in
      let after : after_gap o w ≡ Ok first.1 = rw (a, value) refl in
      let next : (skip 0 first.1 >>= fields_at ss) ≡ Ok others = ap (λ (r : Read (List ℕ)). r >>= fields_at ss) (skip-none first.1) ∙ c in
      rw variable.0 (more 0 first.1 e others next ∙ sym (place-later o (gaps_from 0 ss) (place_from 0 ss e) w first.1 after))
  | inr fixed ↦
      let after : skip (o + s.width) w ≡ Ok first.1 = skip-more o s.width w ∙ rw a (skip-value s.width z first fixed.0 b) in
      let next : (skip (o + s.width) w >>= fields_at ss) ≡ Ok others = ap (λ (r : Read (List ℕ)). r >>= fields_at ss) after ∙ c in
      rw fixed.0 (more (o + s.width) w e others next)
]

octets_at_place-reads : (ss : List Spec) → Sought ss
unfolding fields_at
octets_at_place-reads [] o w e x h =
    let a = bind_ok (skip o w) (λ r. Ok ([], r)) x h in
    rw (← ok_is ([], a.0) x a.2) refl
octets_at_place-reads (s ∷ ss) o w e x h =
    let a = bind_ok (skip o w) (fields_at (s ∷ ss)) x h in
    let b = bind_ok (value_at s.width a.0) (λ first. fields_at ss first.1 >>= λ others. Ok (record { element = s.element; octets = first.0 } ∷ others.0, others.1)) x a.2 in
    let c = bind_ok (fields_at ss b.0.1) (λ others. Ok (record { element = s.element; octets = b.0.0 } ∷ others.0, others.1)) x b.2 in
    rw (← ok_is (record { element = s.element; octets = b.0.0 } ∷ c.0.0, c.0.1) x c.2) (sought-more s ss (octets_at_place-reads ss) o w e (same_element s.element e) a.0 b.0 c.0 a.1 b.1 c.1)

-- a place is after some of the gaps
abbrev Inside : List Spec → Type 0
Inside ss = (o : ℕ) (e : ElementId) (p : FieldPlace) → place_from o ss e ≡ Some p → p.before ≤ length (gaps_from o ss)

inside-later : (ss : List Spec) → Inside ss → (o : ℕ) (e : ElementId) (p : FieldPlace) (q : Option FieldPlace) → place_from 0 ss e ≡ q → behind 1 q ≡ Some p → p.before ≤ length (o ∷ gaps_from 0 ss)
inside-later ss more o e p None is h = absurd cc
inside-later ss more o e p (Some q) is h = let one : p.before ≡ 1 + q.before = cc in let below = more 0 e q is in omega (arith, one, below)

inside-more : (s : Spec) (ss : List Spec) → Inside ss → (o : ℕ) (e : ElementId) (p : FieldPlace) (same : Bool)
    → cond same (Some (record { before = 0; offset = o; width = s.width })) (cond (eqb s.width 65535) (behind 1 (place_from 0 ss e)) (place_from (o + s.width) ss e)) ≡ Some p
    → p.before ≤ length (gaps_from o (s ∷ ss))
inside-more s ss more o e p true h = let none : p.before ≡ 0 = cc in omega (arith, none)
inside-more s ss more o e p false h = elim (eqb_tells s.width 65535) [
  | inl variable ↦ rw variable.0 (inside-later ss more o e p (place_from 0 ss e) refl (rw variable.0 at h))
  | inr fixed ↦ rw fixed.0 (more (o + s.width) e p (rw fixed.0 at h))
]

before-inside : (ss : List Spec) → Inside ss
before-inside [] o e p h = absurd cc
before-inside (s ∷ ss) o e p h = inside-more s ss (before-inside ss) o e p (same_element s.element e) h

-- ---- what the layout says

record Cut (specs : List Spec) (w : List ℕ) (read : Read (List ℕ)) : Type 0 where
  pub whole : (r : List ℕ) → read ≡ Ok r → fields_at specs w ≡ Ok (fields_in specs w, r)
  pub cut : (e : MessageFault) → read ≡ Err e → fields_at specs w ≡ Err e

pair-is : {fs gs : List Field} → {r q : List ℕ} → fs ≡ gs → r ≡ q → ◌≡◌ {A = List Field × List ℕ} (fs, r) (gs, q)
pair-is a b = rw (a, b) refl

after_all-cuts : (specs : List Spec) (w : List ℕ) → Cut specs w (after_all (gaps_from 0 specs) (last_from 0 specs) w)
after_all-cuts specs w =
    let same : after_all (gaps_from 0 specs) (last_from 0 specs) w ≡ seconds (fields_at specs w) = after_all-reads specs 0 w ∙ ap (λ (r : Read (List ℕ)). seconds (r >>= fields_at specs)) (skip-none w) in
    elim (cases_read (fields_at specs w)) [
      | inl x ↦ record {
        whole = λ r h. x.1 ∙ ap (λ (p : List Field × List ℕ). Ok p) (pair-is (sym (fields_in-read specs w x.0.0 x.0.1 x.1)) (ok_is x.0.1 r (sym (same ∙ rw x.1 refl) ∙ h)));
        cut = λ e h. absurd (not_both x.0.1 e (sym (same ∙ rw x.1 refl) ∙ h));
      }
      | inr f ↦ record {
        whole = λ r h. absurd (not_both r f.0 (sym h ∙ same ∙ rw f.1 refl));
        cut = λ e h. f.1 ∙ ap (λ (d : MessageFault). Err d) (fault_is f.0 e (sym (same ∙ rw f.1 refl) ∙ h));
      }
    ]

octets_at_place-finds : (specs : List Spec) (w : List ℕ) (e : ElementId) → BeginsWithFields specs w → octets_at_place (gaps_from 0 specs) (place_from 0 specs e) w ≡ octets_of e (fields_in specs w)
octets_at_place-finds specs w e begins =
    let x = begins-found specs w begins in
    let read : (skip 0 w >>= fields_at specs) ≡ Ok x.0 = ap (λ (r : Read (List ℕ)). r >>= fields_at specs) (skip-none w) ∙ x.1 in
    rw (fields_in-read specs w x.0.0 x.0.1 x.1) (sym (octets_at_place-reads specs 0 w e x.0 read))

pub layout-inside : (l : Layout) (specs : List Spec) (e : ElementId) (p : FieldPlace) → IsLayout l specs → e.number < 2 ^ 16 → get nat_cmp l.places.all (key_of e) ≡ Some p → p.before ≤ length l.gaps.items
layout-inside l specs e p is small found = rw is.gaps (before-inside specs 0 e p (sym (is.places e small) ∙ found))

-- the fields of a record of octets are short
short_fields : (specs : List Spec) (w : List ℕ) (x : List Field × List ℕ) → All IsNarrow specs → IsOctets w → fields_at specs w ≡ Ok x → All IsShort x.0
short_fields specs w x narrow fits h =
    let read = fields_at-found specs w x.0 x.1 fits h in
    spelled_short specs x.0 read.text narrow read.is
  where
    short_octets : (width : ℕ) (v w : List ℕ) → width < 2 ^ 16 → SpellsOctets width v w → length v < 2 ^ 16
    short_octets width v w narrow (inl fixed) = omega (arith, fixed.1)
    short_octets width v w narrow (inr variable) = elim variable.1.1 [ inl one ↦ omega (arith, one.0) | inr long ↦ long.0 ]

    spelled_short : (specs : List Spec) (fs : List Field) (w : List ℕ) → All IsNarrow specs → Spells specs fs w → All IsShort fs
    spelled_short [] [] w narrow spelled = All-nil IsShort
    spelled_short [] (f ∷ fs) w narrow spelled = absurd spelled
    spelled_short (s ∷ ss) [] w narrow spelled = absurd spelled
    spelled_short (s ∷ ss) (f ∷ fs) w narrow spelled =
        All-cons IsShort f fs (short_octets s.width f.octets spelled.0 (All-head IsNarrow s ss narrow) spelled.4) (spelled_short ss fs spelled.1 (All-tail IsNarrow s ss narrow) spelled.5)

pub layout_finds : (l : Layout) (specs : List Spec) (w : List ℕ) (e : ElementId) → IsLayout l specs → e.number < 2 ^ 16 → BeginsWithFields specs w
    → octets_at_place l.gaps.items (get nat_cmp l.places.all (key_of e)) w ≡ octets_of e (fields_in specs w)
layout_finds l specs w e is small begins = rw (is.gaps, is.places e small) (octets_at_place-finds specs w e begins)

-- the answer of cutting a record by the layout, whose octets now shows
pub layout_gives : {X : Type 0} (now : X → List ℕ) (l : Layout) (specs : List Spec) (w : List ℕ) (o : Option X) (result : Result X MessageFault) → IsLayout l specs → result ≡ ok_or o RecordCut
    → unless_cut (option_map now o) ≡ after_all l.gaps.items l.last w → Gives (λ x. (fields_in specs w, now x)) result (fields_at specs w)
layout_gives {X = X} now l specs w o result is answer h = rw answer (by_case o (h ∙ rw (is.gaps, is.last) refl))
  where
    by_case : (o : Option X) → unless_cut (option_map now o) ≡ after_all (gaps_from 0 specs) (last_from 0 specs) w → Gives (λ x. (fields_in specs w, now x)) (ok_or o RecordCut) (fields_at specs w)
    by_case None cut = (after_all-cuts specs w).cut RecordCut (sym cut)
    by_case (Some x) cut = (after_all-cuts specs w).whole (now x) (sym cut)

pub layout_short : {X : Type 0} (now : X → List ℕ) (l : Layout) (specs : List Spec) (w : List ℕ) (o : Option X) (result : Result X MessageFault) → IsLayout l specs → result ≡ ok_or o RecordCut
    → unless_cut (option_map now o) ≡ after_all l.gaps.items l.last w → IsOctets w → OnOk result (All IsShort (fields_in specs w))
layout_short {X = X} now l specs w o result is answer h fits = by_result result (layout_gives now l specs w o result is answer h)
  where
    by_result : (result : Result X MessageFault) → Gives (λ x. (fields_in specs w, now x)) result (fields_at specs w) → OnOk result (All IsShort (fields_in specs w))
    by_result (Err e) gives = tt
    by_result (Ok x) gives = short_fields specs w (fields_in specs w, now x) is.narrow fits gives
