-- The domains that an earlier run left.
use Rattle.std.proofs.Common.{◌≡◌, ℕ, Bool, true, false, cond, eqb, List, [], ◌∷◌, Option, Some, refl, sym, ap, subst, ◌∙◌, inl, inr}
use Rattle.std.specs.Prelude.{◌⊎◌, ◌||◌, IfSome, IsSome, nat_eq}
use Rattle.std.specs.List.{list_any}
use Rattle.std.specs.Cmp.{nat_eq_equiv}
use Rattle.std.specs.Map.{lookup}
use Rattle.std.specs.Ordering.{nat_cmp, eq_by_cmp}
use Rattle.std.specs.BTreeMap.{BTreeMap, get}
use Rattle.std.proofs.lemmas.Bool.Decides.{eqb_tells}
use Rattle.std.proofs.lemmas.Map.Views.{Contains-keys_from_lookup, exact_unsigned_eq, list_any-from_Contains}
use Rattle.indexmap.specs.IndexMap.{IndexMap, get as index_get, keys}
use Rattle.ipfix_message.specs.Domains.{DomainsView}
use Rattle.recording_resumption.specs.EarlierFiles.{HasDomain, IsLeft, LeavesOnly}
use Rattle.recording_resumption.specs.declared.earlier_domain.EarlierDomain.{EarlierDomain}
use Rattle.recording_resumption.specs.declared.last_message.LastMessage.{LastMessage}

-- with one more
pub one_more_left : (last : ℕ → Option LastMessage) (d : DomainsView) (old new : BTreeMap ℕ EarlierDomain) (domain : ℕ) (e : EarlierDomain) → LeavesOnly last d old → IsLeft d domain (last domain) e
    → ((q : ℕ) → get nat_cmp new q ≡ cond (eqb q domain) (Some e) (get nat_cmp old q)) → LeavesOnly last d new
one_more_left last d old new domain e before left is = record {
  at = λ q. elim (eqb_tells q domain) [
    | inl here ↦
        let at : get nat_cmp new q ≡ Some e = is q ∙ rw here.0 refl in
        subst (λ (o : Option EarlierDomain). IfSome o (IsLeft d q (last q))) (sym at) (subst (λ (n : ℕ). IsLeft d n (last n) e) (sym here.1) left)
    | inr other ↦
        let at : get nat_cmp new q ≡ get nat_cmp old q = is q ∙ rw other.0 refl in
        subst (λ (o : Option EarlierDomain). IfSome o (IsLeft d q (last q))) (sym at) (before.at q)
  ];
}

-- none yet
pub none_left : (last : ℕ → Option LastMessage) (d : DomainsView) (m : BTreeMap ℕ EarlierDomain) → m.entries ≡ [] → LeavesOnly last d m
none_left last d m none = record {
  at = λ q. subst (λ (o : Option EarlierDomain). IfSome o (IsLeft d q (last q))) (sym (ap (λ (es : List (ℕ × EarlierDomain)). lookup (eq_by_cmp nat_cmp q) es) none)) tt;
}

-- of the same domains
pub same_left : (last : ℕ → Option LastMessage) (d e : DomainsView) (m : BTreeMap ℕ EarlierDomain) {o : Option DomainsView} → o ≡ Some d → o ≡ Some e → LeavesOnly last d m → LeavesOnly last e m
same_left last d e m first second left = subst (λ (f : DomainsView). LeavesOnly last f m) (some_is (sym first ∙ second)) left
  where
    some_is : Some d ≡ Some e → d ≡ e
    some_is h = cc

-- ---- each is left

-- each that has a last message is left, or is still to come
abbrev pub LeavesBut : (ℕ → Option LastMessage) → List ℕ → BTreeMap ℕ EarlierDomain → Type 0
LeavesBut last rest left = (q : ℕ) → IsSome (last q) → (list_any (eqb q) rest ≡ true) ⊎ IsSome (get nat_cmp left q)

-- at first all are to come
pub all_to_come : {S : Type 0} (last : IndexMap ℕ LastMessage S) (left : BTreeMap ℕ EarlierDomain) → LeavesBut (index_get nat_eq last) (keys last) left
all_to_come last left q some = inl (list_any-from_Contains nat_eq_equiv q (keys last) (Contains-keys_from_lookup exact_unsigned_eq q last.entries some))

-- one more is left
pub one_more_each : (last : ℕ → Option LastMessage) (k : ℕ) (ks : List ℕ) (old new : BTreeMap ℕ EarlierDomain) → LeavesBut last (k ∷ ks) old
    → (IsSome (last k) → IsSome (get nat_cmp new k)) → ((q : ℕ) → IsSome (get nat_cmp old q) → IsSome (get nat_cmp new q)) → LeavesBut last ks new
one_more_each last k ks old new before put others q some = elim (eqb_tells q k) [
  | inl here ↦ inr (subst (λ (n : ℕ). IsSome (get nat_cmp new n)) (sym here.1) (put (subst (λ (n : ℕ). IsSome (last n)) here.1 some)))
  | inr other ↦ elim (before q some) [
    | inl later ↦ inl (sym (ap (λ (b : Bool). b || list_any (eqb q) ks) other.0) ∙ later)
    | inr is ↦ inr (others q is)
  ]
]

-- at the end none is to come
pub each_left : (last : ℕ → Option LastMessage) (rest : List ℕ) (left : BTreeMap ℕ EarlierDomain) → rest ≡ [] → LeavesBut last rest left → (q : ℕ) → IsSome (last q) → HasDomain left q
each_left last rest left none each q some = elim (each q some) [
  | inl later ↦ let no : false ≡ true = sym (ap (list_any (eqb q)) none) ∙ later in absurd cc
  | inr is ↦ is
]
