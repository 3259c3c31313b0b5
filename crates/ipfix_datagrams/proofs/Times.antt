-- When the templates of a peer were defined.
use Rattle.std.proofs.Common.{◌≡◌, ℕ, Bool, true, false, cond, eqb, is_some, List, [], ◌∷◌, ◌&&◌, length, Option, Some, None, refl, sym, ap, ap₂, ◌∙◌, inl, inr}
use Rattle.std.specs.Prelude.{◌⊎◌, ◌||◌, not}
use Rattle.std.specs.Bool.{Decides}
use Rattle.std.specs.Map.{lookup}
use Rattle.std.specs.List.{list_any}
use Rattle.std.specs.Option.{option_or}
use Rattle.std.specs.Ordering.{nat_cmp, eq_by_cmp}
use Rattle.std.specs.Cmp.{nat_eq_equiv}
use Rattle.std.specs.BTreeMap.{BTreeMap, get, keys}
use Rattle.std.proofs.lemmas.Bool.Decides.{eqb_tells}
use Rattle.std.proofs.lemmas.Cmp.{nat_cmp_total}
use Rattle.std.proofs.lemmas.Map.Lookups.{exact_unsigned}
use Rattle.std.proofs.lemmas.Map.Views.{btree_map_contains_key_iff, list_any-from_Contains}
use Rattle.ipfix_message.specs.declared.record.Template.{Template}
use Rattle.ipfix_message.specs.TemplatesInForce.{is_other}
use Rattle.ipfix_message.specs.Domains.{History, template_for}
use Rattle.ipfix_datagrams.specs.Datagrams.{known_in, last_definition, withdrawn_in}
use Rattle.ipfix_datagrams.specs.Late.{Times, is_known, newly, retimed_in, time_at, times_after}
use Rattle.ipfix_datagrams.specs.declared.moment.Moment.{Moment}
use Rattle.ipfix_datagrams.proofs.DefinedAgain.{not_replaced}
use Rattle.ipfix_datagrams.proofs.InForce.{known_or}

-- whether a template is known
pub known_is : (t u : Template) (o : Option Template) (b : Bool) → o ≡ Some u → Decides b (t ≡ u) → b ≡ is_known t o
known_is t u o b found decides = let other = not_replaced t u o b found decides in twice b ∙ ap not other ∙ sym (ap (λ (p : Option Template). is_some p && not (is_other t o)) found)
  where
    twice : (b : Bool) → b ≡ not (not b)
    twice true = refl
    twice false = refl

-- ---- ids in turn

-- at an id it is so already, or the id is still to come
abbrev pub Timing : (ℕ → Option Moment) → (ℕ → Option Moment) → (ℕ → Option Moment) → List ℕ → Type 0
Timing f old now rest = (q : ℕ) → (now q ≡ option_or (f q) (old q)) ⊎ ((list_any (eqb q) rest ≡ true) × (now q ≡ old q))

or_twice : (a b : Option Moment) → option_or a (option_or a b) ≡ option_or a b
or_twice None b = refl
or_twice (Some n) b = refl

pub timing_more : (f old now new : ℕ → Option Moment) (k : ℕ) (ks : List ℕ) → Timing f old now (k ∷ ks) → ((q : ℕ) → new q ≡ cond (eqb q k) (option_or (f k) (now q)) (now q)) → Timing f old new ks
timing_more f old now new k ks so_far is q = elim (eqb_tells q k) [
  | inl here ↦
      let at : new q ≡ option_or (f q) (now q) = is q ∙ rw here.0 (ap (λ (n : ℕ). option_or (f n) (now q)) (sym here.1)) in
      elim (so_far q) [
        | inl done ↦ inl (at ∙ ap (option_or (f q)) done ∙ or_twice (f q) (old q))
        | inr rest ↦ inl (at ∙ ap (option_or (f q)) rest.1)
      ]
  | inr other ↦
      let at : new q ≡ now q = is q ∙ rw other.0 refl in
      elim (so_far q) [
        | inl done ↦ inl (at ∙ done)
        | inr rest ↦ inr (sym (ap (λ (b : Bool). b || list_any (eqb q) ks) other.0) ∙ rest.0, at ∙ rest.1)
      ]
]

-- at first
pub timing_first : (last : BTreeMap ℕ Template) (known : ℕ → Option Template) (at : Moment) (old : ℕ → Option Moment) → Timing (λ q. newly (known q) (get nat_cmp last q) at) old old (keys last)
timing_first last known at old q = by_cases (get nat_cmp last q) refl
  where
    by_cases : (o : Option Template) → get nat_cmp last q ≡ o → (old q ≡ option_or (newly (known q) (get nat_cmp last q) at) (old q)) ⊎ ((list_any (eqb q) (keys last) ≡ true) × (old q ≡ old q))
    by_cases None e = inl (sym (ap (λ (o : Option Template). option_or (newly (known q) o at) (old q)) e))
    by_cases (Some t) e = inr (list_any-from_Contains nat_eq_equiv q (keys last) ((btree_map_contains_key_iff nat_cmp_total exact_unsigned last q).0 (ap is_some e)), refl)

-- at the end
pub all_timed : (f old now : ℕ → Option Moment) (rest : List ℕ) → Timing f old now rest → rest ≡ [] → (q : ℕ) → now q ≡ option_or (f q) (old q)
all_timed f old now rest so_far none q = elim (so_far q) [
  | inl done ↦ done
  | inr more ↦ let no : false ≡ true = sym (ap (list_any (eqb q)) none) ∙ more.0 in absurd cc
]

-- ---- after a datagram

-- an empty map has none
pub empty_gets : (m : BTreeMap ℕ Template) (id : ℕ) → length m.entries ≡ 0 → get nat_cmp m id ≡ None
empty_gets m id none = by_entries m.entries none
  where
    by_entries : (es : List (ℕ × Template)) → length es ≡ 0 → lookup (eq_by_cmp nat_cmp id) es ≡ None
    by_entries [] e = refl
    by_entries (x ∷ es) e = cc

-- where it defines none, nothing changes
pub none_timed : (b : Bool) (known : Option Template) (now : Moment) (last : Option Template) (old : Option Moment) → last ≡ None → old ≡ cond b (option_or (newly known last now) old) old
none_timed true known now last old none = sym (ap (λ (o : Option Template). option_or (newly known o now) old) none)
none_timed false known now last old none = refl

pub times_kept : (old new : BTreeMap ℕ (BTreeMap ℕ Moment)) (ds : History) (m : List ℕ) (domain d : ℕ) (now : Moment) (last before kept : ℕ → Option Template) → d ≡ domain → ((id : ℕ) → last id ≡ last_definition m id)
    → ((id : ℕ) → before id ≡ template_for ds domain id) → ((id : ℕ) → kept id ≡ withdrawn_in ds domain id)
    → ((q id : ℕ) → time_at new q id ≡ cond (eqb q domain) (option_or (newly (option_or (before id) (kept id)) (last id) now) (time_at old q id)) (time_at old q id)) → time_at new ≡ times_after (time_at old) ds m d now
times_kept old new ds m domain d now last before kept same lasts befores kepts is = λ i q id. each q id i
  where
    each : (q id : ℕ) → time_at new q id ≡ times_after (time_at old) ds m d now q id
    each q id = elim (eqb_tells q domain) [
      | inl here ↦
          let there : eqb q d ≡ true = ap (eqb q) same ∙ here.0 in
          is q id ∙ rw here.0 (ap₂ (λ (k l : Option Template). option_or (newly k l now) (time_at old q id)) (ap₂ (λ (a b : Option Template). option_or a b) (befores id) (kepts id) ∙ sym (known_or ds domain id) ∙ ap (λ (n : ℕ). known_in ds n id) (sym here.1)) (lasts id)
          ∙ sym (ap (λ (b : Bool). cond b (option_or (newly (known_in ds q id) (last_definition m id) now) (time_at old q id)) (time_at old q id)) there))
      | inr other ↦
          let away : eqb q d ≡ false = ap (eqb q) same ∙ other.0 in
          is q id ∙ rw other.0 (sym (ap (λ (b : Bool). cond b (option_or (newly (known_in ds q id) (last_definition m id) now) (time_at old q id)) (time_at old q id)) away))
    ]

-- the times of a domain, which were taken out, are put back with those of its definitions
pub put_in_again : (d : ℕ) (known last : ℕ → Option Template) (now : Moment) (old taken new : Times) (own first : ℕ → Option Moment) → ((q id : ℕ) → new q id ≡ cond (eqb q d) (own id) (taken q id))
    → ((id : ℕ) → own id ≡ option_or (newly (known id) (last id) now) (first id)) → ((id : ℕ) → first id ≡ old d id) → ((q id : ℕ) → eqb q d ≡ false → taken q id ≡ old q id) → (q id : ℕ) → new q id ≡ retimed_in d known last now old q id
put_in_again d known last now old taken new own first puts timed firsts others q id = elim (eqb_tells q d) [
  | inl here ↦ puts q id ∙ rw here.0 (timed id ∙ ap (option_or (newly (known id) (last id) now)) (firsts id ∙ ap (λ (n : ℕ). old n id) (sym here.1)))
  | inr other ↦ puts q id ∙ rw other.0 (others q id other.0)
]
