-- What the templates of a peer count.
use Rattle.std.proofs.Common.{◌≡◌, ◌+◌, ◌<◌, ◌≤◌, ◌&&◌, arith, ℕ, Bool, true, false, cond, eqb, is_some, List, [], ◌∷◌, ◌++◌, length, take, get_or, Option, Some, None, refl, sym, ap, ap₂, subst, ◌∙◌, inl, inr}
use Rattle.std.specs.Prelude.{◌⊎◌, ◌||◌, filter, not, option_map, sum}
use Rattle.std.specs.Map.{lookup, values_of}
use Rattle.std.specs.List.{list_any}
use Rattle.std.specs.Option.{option_or}
use Rattle.std.specs.Ordering.{nat_cmp, eq_by_cmp}
use Rattle.std.specs.Cmp.{nat_eq_equiv}
use Rattle.std.specs.BTreeMap.{BTreeMap, IsOrdered, get, keys}
use Rattle.std.proofs.lemmas.Bool.{eq-eqb}
use Rattle.std.proofs.lemmas.Bool.Decides.{eqb_tells}
use Rattle.std.proofs.lemmas.List.{take_more}
use Rattle.std.proofs.lemmas.List.Folds.{list_any_more}
use Rattle.std.proofs.lemmas.Cmp.{nat_cmp_total}
use Rattle.std.proofs.lemmas.Map.Lookups.{exact_unsigned}
use Rattle.std.proofs.lemmas.Map.Views.{btree_map_contains_key_iff, list_any-from_Contains}
use Rattle.ipfix_message.specs.declared.record.Template.{Template}
use Rattle.ipfix_message.specs.Domains.{History, Message, template_for}
use Rattle.ipfix_message.specs.Alike.{knows}
use Rattle.ipfix_message.specs.TemplateLimits.{fields_of}
use Rattle.ipfix_datagrams.specs.Datagrams.{AreWeighed, Basis, Fits, IsReadingOf, IsTaken, WeighAfter, barred_after, is_changed, Preparation, Weighs, WeighsIf, defined_before, is_changed_by, known_in, last_definition, withdrawn_in}
use Rattle.ipfix_datagrams.specs.declared.reading.DatagramReading.{DatagramReading}
use Rattle.ipfix_datagrams.specs.Attempts.{kept_entries}
use Rattle.ipfix_datagrams.proofs.InForce.{known_or}
use Rattle.ipfix_datagrams.proofs.Kept.{known_after, known_elsewhere, knows_after}

-- ---- templates in turn

-- at an id it is so already, or the id is still to come
abbrev pub Counting : (ℕ → Option ℕ) → (ℕ → Option ℕ) → (ℕ → Option ℕ) → List ℕ → Type 0
Counting f old now rest = (q : ℕ) → (now q ≡ option_or (f q) (old q)) ⊎ ((list_any (eqb q) rest ≡ true) × (now q ≡ old q))

or_twice : (a b : Option ℕ) → option_or a (option_or a b) ≡ option_or a b
or_twice None b = refl
or_twice (Some n) b = refl

pub counting_more : (f old now new : ℕ → Option ℕ) (k : ℕ) (ks : List ℕ) → Counting f old now (k ∷ ks) → ((q : ℕ) → new q ≡ cond (eqb q k) (option_or (f q) (now q)) (now q)) → Counting f old new ks
counting_more f old now new k ks so_far is q = elim (eqb_tells q k) [
  | inl here ↦
      let at : new q ≡ option_or (f q) (now q) = is q ∙ rw here.0 refl in
      elim (so_far q) [
        | inl done ↦ inl (at ∙ ap (option_or (f q)) done ∙ or_twice (f q) (old q))
        | inr rest ↦ inl (at ∙ ap (option_or (f q)) rest.1)
      ]
  | inr other ↦
      let at : new q ≡ now q = is q ∙ rw other.0 refl in
      elim (so_far q) [
        | inl done ↦ inl (at ∙ done)
        | inr rest ↦ inr (sym (ap (λ (b : Bool). b || list_any (eqb q) ks) other.0) ∙ rest.0, at ∙ rest.1)
      ]
]

-- at first
pub counting_first : (m : BTreeMap ℕ Template) (old : ℕ → Option ℕ) → Counting (λ q. option_map fields_of (get nat_cmp m q)) old old (keys m)
counting_first m old q = by_cases (get nat_cmp m q) refl
  where
    by_cases : (o : Option Template) → get nat_cmp m q ≡ o → (old q ≡ option_or (option_map fields_of (get nat_cmp m q)) (old q)) ⊎ ((list_any (eqb q) (keys m) ≡ true) × (old q ≡ old q))
    by_cases None e = inl (sym (ap (λ (o : Option Template). option_or (option_map fields_of o) (old q)) e))
    by_cases (Some t) e = inr (list_any-from_Contains nat_eq_equiv q (keys m) ((btree_map_contains_key_iff nat_cmp_total exact_unsigned m q).0 (ap is_some e)), refl)

-- at the end
pub all_counted : (f old now : ℕ → Option ℕ) (rest : List ℕ) → Counting f old now rest → rest ≡ [] → (q : ℕ) → now q ≡ option_or (f q) (old q)
all_counted f old now rest so_far none q = elim (so_far q) [
  | inl done ↦ done
  | inr more ↦ let no : false ≡ true = sym (ap (list_any (eqb q)) none) ∙ more.0 in absurd cc
]

-- ---- ids in turn

-- at an id it is so already, or the id is still to come
abbrev pub Listing : (ℕ → Bool) → (ℕ → Bool) → List ℕ → Type 0
Listing f now rest = (q : ℕ) → (now q ≡ f q) ⊎ ((list_any (eqb q) rest ≡ true) × (now q ≡ false))

pub listing_more : (f now new : ℕ → Bool) (k : ℕ) (ks : List ℕ) → Listing f now (k ∷ ks) → ((q : ℕ) → new q ≡ (now q || (f k && eqb k q))) → Listing f new ks
listing_more f now new k ks so_far is q = elim (eqb_tells k q) [
  | inl here ↦
      let at : new q ≡ (now q || f q) = is q ∙ rw here.0 (ap (λ (b : Bool). now q || b) (and_true (f k) ∙ ap f here.1)) in
      elim (so_far q) [
        | inl done ↦ inl (at ∙ ap (λ (b : Bool). b || f q) done ∙ or_same (f q))
        | inr rest ↦ inl (at ∙ ap (λ (b : Bool). b || f q) rest.1)
      ]
  | inr other ↦
      let at : new q ≡ now q = is q ∙ rw other.0 (ap (λ (b : Bool). now q || b) (and_false (f k)) ∙ or_false (now q)) in
      elim (so_far q) [
        | inl done ↦ inl (at ∙ done)
        | inr rest ↦ inr (sym (ap (λ (b : Bool). b || list_any (eqb q) ks) (other_way k q other.0)) ∙ rest.0, at ∙ rest.1)
      ]
]
  where
    and_true : (b : Bool) → (b && true) ≡ b
    and_true true = refl
    and_true false = refl

    and_false : (b : Bool) → (b && false) ≡ false
    and_false true = refl
    and_false false = refl

    or_same : (b : Bool) → (b || b) ≡ b
    or_same true = refl
    or_same false = refl

    or_false : (b : Bool) → (b || false) ≡ b
    or_false true = refl
    or_false false = refl

    other_way : (a b : ℕ) → eqb a b ≡ false → eqb b a ≡ false
    other_way a b e = elim (eqb_tells b a) [ inl here ↦ let no : true ≡ false = sym (eq-eqb a b (sym here.1)) ∙ e in absurd cc | inr other ↦ other.0 ]

-- none yet
pub listing_first : (last : BTreeMap ℕ Template) (known : ℕ → Option Template) → Listing (λ q. is_changed_by (get nat_cmp last q) (known q)) (λ q. false) (keys last)
listing_first last known q = by_cases (get nat_cmp last q) refl
  where
    by_cases : (o : Option Template) → get nat_cmp last q ≡ o → (false ≡ is_changed_by (get nat_cmp last q) (known q)) ⊎ ((list_any (eqb q) (keys last) ≡ true) × (false ≡ false))
    by_cases None e = inl (sym (ap (λ (o : Option Template). is_changed_by o (known q)) e))
    by_cases (Some t) e = inr (list_any-from_Contains nat_eq_equiv q (keys last) ((btree_map_contains_key_iff nat_cmp_total exact_unsigned last q).0 (ap is_some e)), refl)

pub all_listed : (f now : ℕ → Bool) (rest : List ℕ) → Listing f now rest → rest ≡ [] → (q : ℕ) → now q ≡ f q
all_listed f now rest so_far none q = elim (so_far q) [
  | inl done ↦ done
  | inr more ↦ let no : false ≡ true = sym (ap (list_any (eqb q)) none) ∙ more.0 in absurd cc
]

-- one id more of a loop over them
pub both_more : (xs ids : List ℕ) (i q : ℕ) (old new : Bool) → i < length ids → old ≡ (list_any (λ b. eqb b q) xs || list_any (λ b. eqb b q) (take i ids)) → new ≡ (old || eqb (get_or ids i 0) q) → new ≡ (list_any (λ b. eqb b q) xs || list_any (λ b. eqb b q) (take (i + 1) ids))
both_more xs ids i q old new more so_far is =
    is ∙ ap (λ (b : Bool). b || eqb (get_or ids i 0) q) so_far ∙ or_assoc (list_any (λ b. eqb b q) xs) (list_any (λ b. eqb b q) (take i ids)) (eqb (get_or ids i 0) q)
    ∙ ap (λ (b : Bool). list_any (λ b. eqb b q) xs || b) (sym (list_any_more (λ b. eqb b q) ids i 0 more))
  where
    or_assoc : (a b c : Bool) → ((a || b) || c) ≡ (a || (b || c))
    or_assoc true b c = refl
    or_assoc false b c = refl

-- the ids of one domain, in the place of others
pub barred_more : (old new : ℕ → List ℕ) (domain : ℕ) (all ids : List ℕ) → ((q : ℕ) → new q ≡ cond (eqb q domain) all (old q)) → ((id : ℕ) → list_any (λ b. eqb b id) all ≡ (list_any (λ b. eqb b id) (old domain) || list_any (λ b. eqb b id) ids))
    → (q id : ℕ) → list_any (λ b. eqb b id) (new q) ≡ (list_any (λ b. eqb b id) (old q) || (eqb q domain && list_any (λ b. eqb b id) ids))
barred_more old new domain all ids is both q id = elim (eqb_tells q domain) [
  | inl here ↦
      let at : new q ≡ all = is q ∙ ap (λ (b : Bool). cond b all (old q)) here.0 in
      ap (λ (xs : List ℕ). list_any (λ b. eqb b id) xs) at ∙ both id ∙ ap₂ (λ (d : ℕ) (b : Bool). list_any (λ b. eqb b id) (old d) || (b && list_any (λ b. eqb b id) ids)) (sym here.1) (sym here.0)
  | inr other ↦
      let at : new q ≡ old q = is q ∙ ap (λ (b : Bool). cond b all (old q)) other.0 in
      ap (λ (xs : List ℕ). list_any (λ b. eqb b id) xs) at ∙ sym (ap (λ (b : Bool). list_any (λ b. eqb b id) (old q) || (b && list_any (λ b. eqb b id) ids)) other.0 ∙ or_none_more (list_any (λ b. eqb b id) (old q)))
]
  where
    or_none_more : (b : Bool) → (b || false) ≡ b
    or_none_more true = refl
    or_none_more false = refl

-- ---- after a datagram

map_or : (a b : Option Template) → option_map fields_of (option_or a b) ≡ option_or (option_map fields_of a) (option_map fields_of b)
map_or None b = refl
map_or (Some t) b = refl

or_none : (o : Option ℕ) → option_or o None ≡ o
or_none None = refl
or_none (Some n) = refl

abbrev fields : Option Template → Option ℕ
fields o = option_map fields_of o

-- what is counted is what is known
pub counts_known : (basis : Basis) (ds : History) (m : List ℕ) (p : Preparation) (x : Message) (domain id : ℕ) (now empty : Option ℕ) (last given before kept : Option Template) → IsTaken basis ds m p x → x.header.domain ≡ domain
    → last ≡ last_definition m id → given ≡ defined_before basis ds m x.header.domain id → before ≡ template_for ds domain id → kept ≡ withdrawn_in ds domain id → empty ≡ None
    → now ≡ option_or (fields last) (option_or (fields given) (option_or (fields before) (option_or (fields kept) empty))) → now ≡ fields (known_in x.domains domain id)
counts_known basis ds m p x domain id now empty last given before kept taken same is_last is_given is_before is_kept none is =
    let d = x.header.domain in
    let known : option_or last (option_or given (option_or before kept)) ≡ known_in x.domains domain id =
    ap₂ (λ (a b : Option Template). option_or a b) is_last (ap₂ (λ (a b : Option Template). option_or a b) is_given (ap₂ (λ (a b : Option Template). option_or a b) is_before is_kept ∙ sym (known_or ds domain id) ∙ ap (λ (q : ℕ). known_in ds q id) (sym same)))
    ∙ sym (known_after basis ds m p x id taken) ∙ ap (λ (q : ℕ). known_in x.domains q id) same in
    is ∙ ap (λ (o : Option ℕ). option_or (fields last) (option_or (fields given) (option_or (fields before) o))) (ap (option_or (fields kept)) none ∙ or_none (fields kept))
    ∙ sym (map_or last (option_or given (option_or before kept)) ∙ ap (option_or (fields last)) (map_or given (option_or before kept) ∙ ap (option_or (fields given)) (map_or before kept)))
    ∙ ap fields known

-- a domain that stays as it is
weighs_still : (n : ℕ) (ds es : History) (domain : ℕ) → ((id : ℕ) → known_in es domain id ≡ known_in ds domain id) → Weighs n ds domain → Weighs n es domain
weighs_still n ds es domain same w = record {
  counts = w.counts;
  ascending = w.ascending;
  at = λ id. w.at id ∙ ap fields (sym (same id));
  is = w.is;
}

still_if : (o : Option ℕ) (ds es : History) (domain : ℕ) → knows es domain ≡ knows ds domain → ((id : ℕ) → known_in es domain id ≡ known_in ds domain id) → WeighsIf o ds domain → WeighsIf o es domain
still_if None ds es domain there same w = there ∙ w
still_if (Some n) ds es domain there same w = (there ∙ w.0, weighs_still n ds es domain same w.1)

-- the domains after it, of which one was weighed anew
pub weighed_after : (basis : Basis) (ds : History) (m : List ℕ) (p : Preparation) (x : Message) (ws vs : BTreeMap ℕ ℕ) (n : ℕ) → IsTaken basis ds m p x → AreWeighed ws.entries ds → IsOrdered nat_cmp vs
    → ((q : ℕ) → get nat_cmp vs q ≡ cond (eqb q x.header.domain) (Some n) (get nat_cmp ws q)) → Weighs n x.domains x.header.domain → AreWeighed vs.entries x.domains
weighed_after basis ds m p x ws vs n taken weighed ordered is weighs = record {
  ascending = ordered;
  at = λ q. elim (eqb_tells q x.header.domain) [
    | inl here ↦
        let at : get nat_cmp vs q ≡ Some n = is q ∙ ap (λ (b : Bool). cond b (Some n) (get nat_cmp ws q)) here.0 in
        subst (λ (o : Option ℕ). WeighsIf o x.domains q) (sym at) (subst (λ (d : ℕ). WeighsIf (Some n) x.domains d) (sym here.1) (knows_after basis ds m p x taken, weighs))
    | inr other ↦
        let elsewhere = known_elsewhere basis ds m p x q taken other.0 in
        let at : get nat_cmp vs q ≡ get nat_cmp ws q = is q ∙ ap (λ (b : Bool). cond b (Some n) (get nat_cmp ws q)) other.0 in
        subst (λ (o : Option ℕ). WeighsIf o x.domains q) (sym at) (still_if (get nat_cmp ws q) ds x.domains q elsewhere.0 elsewhere.1 (weighed.at q))
  ];
}

-- ---- what is kept

pub weighs_kept : (budget : ℕ) (old : BTreeMap ℕ ℕ) (o : Option (BTreeMap ℕ ℕ)) (es : List (ℕ × ℕ)) (ds after : History) → es ≡ kept_entries old o → WeighAfter o budget ds after → Fits budget old.entries ds → Fits budget es after
weighs_kept budget old None es ds after same stays fits = subst (λ (ws : List (ℕ × ℕ)). Fits budget ws after) (sym same) (subst (Fits budget old.entries) (sym stays) fits)
weighs_kept budget old (Some vs) es ds after same fits none = subst (λ (ws : List (ℕ × ℕ)). Fits budget ws after) (sym same) fits

filter_same : (p r : ℕ → Bool) → ((id : ℕ) → p id ≡ r id) → (ids : List ℕ) → filter p ids ≡ filter r ids
filter_same p r same [] = refl
filter_same p r same (id ∷ ids) = ap₂ (λ (b : Bool) (rest : List ℕ). cond b (id ∷ rest) rest) (same id) (filter_same p r same ids)

filter_push : (p : ℕ → Bool) (ids : List ℕ) (id : ℕ) → filter p (ids ++ id ∷ []) ≡ filter p ids ++ cond (p id) (id ∷ []) []
filter_push p [] id = refl
filter_push p (x ∷ xs) id = by_test (p x) (filter_push p xs id)
  where
    by_test : (b : Bool) → filter p (xs ++ id ∷ []) ≡ filter p xs ++ cond (p id) (id ∷ []) [] → cond b (x ∷ filter p (xs ++ id ∷ [])) (filter p (xs ++ id ∷ [])) ≡ cond b (x ∷ filter p xs) (filter p xs) ++ cond (p id) (id ∷ []) []
    by_test true more = ap (λ (rest : List ℕ). x ∷ rest) more
    by_test false more = more

-- one id more of a loop over them
pub left_more : (f : ℕ → Bool) (ids : List ℕ) (i : ℕ) (old new : List ℕ) → i < length ids → old ≡ filter (λ id. not (f id)) (take i ids) → new ≡ old ++ cond (not (f (get_or ids i 0))) (get_or ids i 0 ∷ []) [] → new ≡ filter (λ id. not (f id)) (take (i + 1) ids)
left_more f ids i old new more so_far is =
    let x = get_or ids i 0 in
    is ∙ ap (λ (xs : List ℕ). xs ++ cond (not (f x)) (x ∷ []) []) so_far ∙ sym (ap (filter (λ id. not (f id))) (take_more ids i 0 more) ∙ filter_push (λ id. not (f id)) (take i ids) x)

-- the ids that have no template then
pub barred_then : (old new : ℕ → List ℕ) (m : List ℕ) (last : ℕ → Option Template) (domain d : ℕ) → ((id : ℕ) → last id ≡ last_definition m id) → d ≡ domain → ((q : ℕ) → new q ≡ cond (eqb q domain) (filter (λ id. not (is_some (last id))) (old q)) (old q))
    → (q : ℕ) → new q ≡ cond (eqb q d) (barred_after (old q) m) (old q)
barred_then old new m last domain d lasts same is q =
    is q ∙ ap₂ (λ (b : Bool) (ids : List ℕ). cond b ids (old q)) (ap (eqb q) (sym same)) (filter_same (λ id. not (is_some (last id))) (λ id. not (is_some (last_definition m id))) (λ id. ap (λ (o : Option Template). not (is_some o)) (lasts id)) (old q))

-- for an id what is known changes
pub is_changed_here : (ds : History) (m : List ℕ) (domain d id : ℕ) (last before kept : Option Template) → last ≡ last_definition m id → before ≡ template_for ds domain id → kept ≡ withdrawn_in ds domain id → d ≡ domain → is_changed_by last (option_or before kept) ≡ is_changed ds m d id
is_changed_here ds m domain d id last before kept is_last is_before is_kept same =
    ap₂ (λ (a b : Option Template). is_changed_by a b) is_last (ap₂ (λ (a b : Option Template). option_or a b) is_before is_kept ∙ sym (known_or ds domain id) ∙ ap (λ (q : ℕ). known_in ds q id) (sym same))

-- nothing is known at first
pub fits_none : (budget : ℕ) (ws : BTreeMap ℕ ℕ) → ws.entries ≡ [] → IsOrdered nat_cmp ws → Fits budget ws.entries []
fits_none budget ws none ordered = record {
  weighed = record { ascending = ordered; at = λ domain. subst (λ (es : List (ℕ × ℕ)). WeighsIf (lookup (eq_by_cmp nat_cmp domain) es) [] domain) (sym none) refl };
  within = subst (λ (es : List (ℕ × ℕ)). sum (values_of es) ≤ budget) (sym none) (omega arith);
}

-- a datagram that was read, with what each domain counts after it
pub with_weighed : (basis : Basis) (budget : ℕ) (ds : History) (m : List ℕ) (r q : DatagramReading) (x : Message) (ws : BTreeMap ℕ ℕ) → q ≡ record r { weights = Some ws } → IsReadingOf basis ds m r x → Fits budget ws.entries x.domains
    → (y : Message) × IsReadingOf basis ds m q y × WeighAfter q.weights budget ds y.domains
with_weighed basis budget ds m r q x ws same is fits =
    subst (λ (k : DatagramReading). (y : Message) × IsReadingOf basis ds m k y × WeighAfter k.weights budget ds y.domains) (sym same)
    (x, record { taken = is.taken; before = is.before; leaves = is.leaves; defines = is.defines; withdrawals = is.withdrawals }, fits)
