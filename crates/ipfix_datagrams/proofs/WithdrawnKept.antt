-- Keeping the templates that were withdrawn: the maps.
use Rattle.std.proofs.Common.{◌≡◌, ℕ, Bool, true, false, cond, eqb, is_some, List, [], ◌∷◌, Option, Some, None, Ordering, Equal, Less, Greater, refl, sym, ap, ◌∙◌, inl, inr}
use Rattle.std.specs.Prelude.{◌⊎◌, ◌||◌, not}
use Rattle.std.specs.List.{list_any}
use Rattle.std.specs.Option.{option_or}
use Rattle.std.specs.Ordering.{nat_cmp, is_eq}
use Rattle.std.specs.Cmp.{nat_eq_equiv}
use Rattle.std.specs.BTreeMap.{BTreeMap, get, keys}
use Rattle.std.proofs.lemmas.Bool.Decides.{eqb_tells}
use Rattle.std.proofs.lemmas.Cmp.{nat_cmp_total}
use Rattle.std.proofs.lemmas.Map.Lookups.{exact_unsigned}
use Rattle.std.proofs.lemmas.Map.Views.{btree_map_contains_key_iff, list_any-from_Contains}
use Rattle.ipfix_message.specs.declared.record.Template.{Template}
use Rattle.ipfix_datagrams.specs.Attempts.{with_ended}

-- at an id it is so already, or the id is still to come
abbrev pub Ending : (ℕ → Option Template) → (ℕ → Option Template) → (ℕ → Option Template) → (ℕ → Option Template) → List ℕ → Type 0
Ending after before old now rest = (q : ℕ) → (now q ≡ with_ended (after q) (before q) (old q)) ⊎ ((list_any (eqb q) rest ≡ true) × (now q ≡ old q))

or_twice : (a b : Option Template) → option_or a (option_or a b) ≡ option_or a b
or_twice None b = refl
or_twice (Some t) b = refl

nothing_ended : (after old : Option Template) → with_ended after None old ≡ old
nothing_ended None old = refl
nothing_ended (Some t) old = refl

-- an id whose template is in force after it
pub ending_known : (after before old now : ℕ → Option Template) (k : ℕ) (ks : List ℕ) → is_some (after k) ≡ true → Ending after before old now (k ∷ ks) → Ending after before old now ks
ending_known after before old now k ks known so_far q = elim (so_far q) [
  | inl done ↦ inl done
  | inr rest ↦ elim (eqb_tells q k) [
    | inl here ↦ inl (rest.1 ∙ at_known (after q) (before q) (old q) (ap (λ (i : ℕ). is_some (after i)) here.1 ∙ known))
    | inr other ↦ inr (sym (ap (λ (b : Bool). b || list_any (eqb q) ks) other.0) ∙ rest.0, rest.1)
  ]
]
  where
    at_known : (a b o : Option Template) → is_some a ≡ true → o ≡ with_ended a b o
    at_known (Some t) b o e = refl
    at_known None b o e = absurd cc

-- and one that it ends
pub ending_more : (after before old now new : ℕ → Option Template) (k : ℕ) (ks : List ℕ) → is_some (after k) ≡ false → Ending after before old now (k ∷ ks) → ((q : ℕ) → new q ≡ cond (eqb q k) (option_or (before q) (now q)) (now q)) → Ending after before old new ks
ending_more after before old now new k ks ended so_far is q = elim (eqb_tells q k) [
  | inl here ↦
      let none : is_some (after q) ≡ false = ap (λ (i : ℕ). is_some (after i)) here.1 ∙ ended in
      let at : new q ≡ option_or (before q) (now q) = is q ∙ rw here.0 refl in
      elim (so_far q) [
        | inl done ↦ inl (at ∙ ap (option_or (before q)) done ∙ at_ended (after q) (before q) (old q) none)
        | inr rest ↦ inl (at ∙ ap (option_or (before q)) rest.1 ∙ first_ended (after q) (before q) (old q) none)
      ]
  | inr other ↦
      let at : new q ≡ now q = is q ∙ rw other.0 refl in
      elim (so_far q) [
        | inl done ↦ inl (at ∙ done)
        | inr rest ↦ inr (sym (ap (λ (b : Bool). b || list_any (eqb q) ks) other.0) ∙ rest.0, at ∙ rest.1)
      ]
]
  where
    at_ended : (a b o : Option Template) → is_some a ≡ false → option_or b (with_ended a b o) ≡ with_ended a b o
    at_ended None b o e = or_twice b o
    at_ended (Some t) b o e = absurd cc

    first_ended : (a b o : Option Template) → is_some a ≡ false → option_or b o ≡ with_ended a b o
    first_ended None b o e = refl
    first_ended (Some t) b o e = absurd cc

-- at first
pub ending_first : (after : ℕ → Option Template) (m : BTreeMap ℕ Template) (old : ℕ → Option Template) → Ending after (get nat_cmp m) old old (keys m)
ending_first after m old q = by_cases (get nat_cmp m q) refl
  where
    by_cases : (o : Option Template) → get nat_cmp m q ≡ o → (old q ≡ with_ended (after q) (get nat_cmp m q) (old q)) ⊎ ((list_any (eqb q) (keys m) ≡ true) × (old q ≡ old q))
    by_cases None e = inl (sym (ap (λ (b : Option Template). with_ended (after q) b (old q)) e ∙ nothing_ended (after q) (old q)))
    by_cases (Some t) e = inr (list_any-from_Contains nat_eq_equiv q (keys m) ((btree_map_contains_key_iff nat_cmp_total exact_unsigned m q).0 (ap is_some e)), refl)

-- at the end
pub all_ended : (after before old now : ℕ → Option Template) (rest : List ℕ) → Ending after before old now rest → rest ≡ [] → (q : ℕ) → now q ≡ with_ended (after q) (before q) (old q)
all_ended after before old now rest so_far none q = elim (so_far q) [
  | inl done ↦ done
  | inr more ↦ let no : false ≡ true = sym (ap (list_any (eqb q)) none) ∙ more.0 in absurd cc
]

-- ---- a test of keys

same_key : (o : Ordering) → is_eq o ≡ true → o ≡ Equal
same_key Equal e = refl
same_key Less e = absurd cc
same_key Greater e = absurd cc

pub at_key : (p : ℕ → Bool) (q k : ℕ) → is_eq (nat_cmp q k) ≡ true → p k ≡ p q
at_key p q k e = ap p (sym (exact_unsigned q k (same_key (nat_cmp q k) e)))

pub not_kept : (b : Bool) (o : Option Template) → cond (not b) o None ≡ cond b None o
not_kept true o = refl
not_kept false o = refl

-- a domain has none after its templates are taken out
pub taken_out : (d : ℕ) (old new : ℕ → ℕ → Option Template) → ((q id : ℕ) → new q id ≡ cond (eqb q d) None (old q id)) → (id : ℕ) → new d id ≡ None
taken_out d old new is id = elim (eqb_tells d d) [
  | inl here ↦ is d id ∙ rw here.0 refl
  | inr other ↦ absurd (other.1 refl)
]

-- where none is put in a domain that has none, all stays
pub none_put : (d : ℕ) (old : ℕ → ℕ → Option Template) (own : ℕ → Option Template) → ((id : ℕ) → old d id ≡ None) → ((id : ℕ) → own id ≡ None) → (q id : ℕ) → old q id ≡ cond (eqb q d) (own id) (old q id)
none_put d old own none empty q id = elim (eqb_tells q d) [
  | inl here ↦ rw here.0 (ap (λ (n : ℕ). old n id) here.1 ∙ none id ∙ sym (empty id))
  | inr other ↦ rw other.0 refl
]
