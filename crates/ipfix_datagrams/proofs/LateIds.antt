-- Datagrams that come late.
use Rattle.std.proofs.Common.{◌≡◌, ◌+◌, ◌<◌, ◌&&◌, ℕ, Bool, true, false, eqb, List, [], ◌∷◌, length, take, drop, map, get_or, refl, sym, ap, ap₂, ◌∙◌, inl, inr}
use Rattle.std.specs.Prelude.{◌||◌}
use Rattle.std.specs.List.{list_any}
use Rattle.std.proofs.lemmas.Bool.Decides.{eqb_tells}
use Rattle.std.proofs.lemmas.List.Folds.{list_any_more}
use Rattle.ipfix_message.specs.Domains.{History}
use Rattle.ipfix_message.specs.Sets.{Set, sets_of}
use Rattle.ipfix_datagrams.specs.Datagrams.{has_data_set, is_changed}
use Rattle.ipfix_datagrams.specs.Late.{ChangesNone, ChangesOne, Withheld}
use Rattle.ipfix_datagrams.proofs.DataSets.{ids_of}

-- one id of a list of which something holds
pub one_of : (p : ℕ → Bool) (ids : List ℕ) → list_any p ids ≡ true → (id : ℕ) × (p id ≡ true) × (list_any (λ b. eqb b id) ids ≡ true)
one_of p [] h = cc
one_of p (x ∷ xs) h = by_test (p x) refl h (one_of p xs)
  where
    or_true : (b : Bool) → (b || true) ≡ true
    or_true true = refl
    or_true false = refl

    same : (n : ℕ) → eqb n n ≡ true
    same n = elim (eqb_tells n n) [ inl here ↦ here.0 | inr other ↦ absurd (other.1 refl) ]

    by_test : (b : Bool) → p x ≡ b → (b || list_any p xs) ≡ true → (list_any p xs ≡ true → (id : ℕ) × (p id ≡ true) × (list_any (λ b. eqb b id) xs ≡ true))
        → (id : ℕ) × (p id ≡ true) × ((eqb x id || list_any (λ b. eqb b id) xs) ≡ true)
    by_test true e g rest = (x, e, ap (λ (b : Bool). b || list_any (λ b. eqb b x) xs) (same x))
    by_test false e g rest = let later = rest g in (later.0, later.1, ap (λ (b : Bool). eqb x later.0 || b) later.2 ∙ or_true (eqb x later.0))

-- or of none
pub none_of : (p : ℕ → Bool) (ids : List ℕ) (id : ℕ) → list_any p ids ≡ false → p id ≡ true → list_any (λ b. eqb b id) ids ≡ false
none_of p [] id h holds = refl
none_of p (x ∷ xs) id h holds = by_test (p x) refl h (λ g. none_of p xs id g holds)
  where
    apart : p x ≡ false → eqb x id ≡ false
    apart e = elim (eqb_tells x id) [ inl here ↦ let no : true ≡ false = sym holds ∙ ap p (sym here.1) ∙ e in absurd cc | inr other ↦ other.0 ]

    by_test : (b : Bool) → p x ≡ b → (b || list_any p xs) ≡ false → (list_any p xs ≡ false → list_any (λ b. eqb b id) xs ≡ false) → (eqb x id || list_any (λ b. eqb b id) xs) ≡ false
    by_test true e g rest = absurd cc
    by_test false e g rest = ap₂ (λ (a b : Bool). a || b) (apart e) (rest g)

-- a datagram changes one of the ids that are withheld, or none
pub changes_one : (withheld : Withheld) (ds : History) (m : List ℕ) (domain : ℕ) (ids : List ℕ) → ((id : ℕ) → list_any (λ b. eqb b id) ids ≡ is_changed ds m domain id) → list_any withheld ids ≡ true → ChangesOne withheld ds m domain
changes_one withheld ds m domain ids are any = let one = one_of withheld ids any in record { id = one.0; is_withheld = one.1; changed = sym (are one.0) ∙ one.2 }

pub changes_none : (withheld : Withheld) (ds : History) (m : List ℕ) (domain : ℕ) (ids : List ℕ) → ((id : ℕ) → list_any (λ b. eqb b id) ids ≡ is_changed ds m domain id) → list_any withheld ids ≡ false → ChangesNone withheld ds m domain
changes_none withheld ds m domain ids are none id holds = sym (are id) ∙ none_of withheld ids id none holds

-- one id more of a loop over them
pub later_more : (p : ℕ → Bool) (barred ids : List ℕ) (i q : ℕ) (old new : Bool) → i < length ids → old ≡ (list_any (λ b. eqb b q) barred || (list_any (λ b. eqb q b) (take i ids) && p q)) → new ≡ (old || (eqb (get_or ids i 0) q && p q))
    → new ≡ (list_any (λ b. eqb b q) barred || (list_any (λ b. eqb q b) (take (i + 1) ids) && p q))
later_more p barred ids i q old new more so_far is =
    is ∙ ap (λ (b : Bool). b || (eqb (get_or ids i 0) q && p q)) so_far ∙ ap (λ (b : Bool). (list_any (λ b. eqb b q) barred || (list_any (λ b. eqb q b) (take i ids) && p q)) || (b && p q)) (other_way (get_or ids i 0) q)
    ∙ joined (list_any (λ b. eqb b q) barred) (list_any (λ b. eqb q b) (take i ids)) (eqb q (get_or ids i 0)) (p q)
    ∙ ap (λ (b : Bool). list_any (λ b. eqb b q) barred || (b && p q)) (sym (list_any_more (λ b. eqb q b) ids i 0 more))
  where
    joined : (a b c d : Bool) → ((a || (b && d)) || (c && d)) ≡ (a || ((b || c) && d))
    joined true b c d = refl
    joined false true true true = refl
    joined false true true false = refl
    joined false true false true = refl
    joined false true false false = refl
    joined false false c d = refl

    other_way : (a b : ℕ) → eqb a b ≡ eqb b a
    other_way a b = elim (eqb_tells a b) [
      | inl here ↦ ap₂ eqb here.1 (sym here.1)
      | inr other ↦ elim (eqb_tells b a) [ inl there ↦ absurd (other.1 (sym there.1)) | inr none ↦ other.0 ∙ sym none.0 ]
    ]

-- an id of which something holds, and no other
pub put_held : (p : ℕ → Bool) (id q : ℕ) (old new : Bool) → p id ≡ true → new ≡ (old || eqb id q) → new ≡ (old || (eqb id q && p q))
put_held p id q old new holds is = elim (eqb_tells id q) [
  | inl here ↦ is ∙ ap (λ (b : Bool). old || b) (here.0 ∙ sym (ap₂ (λ (a b : Bool). a && b) here.0 (ap p (sym here.1) ∙ holds)))
  | inr other ↦ is ∙ ap (λ (b : Bool). old || b) (other.0 ∙ sym (ap (λ (b : Bool). b && p q) other.0))
]

pub put_none : (p : ℕ → Bool) (id q : ℕ) (old : Bool) → p id ≡ false → old ≡ (old || (eqb id q && p q))
put_none p id q old not_so = elim (eqb_tells id q) [
  | inl here ↦ or_none old ∙ ap (λ (b : Bool). old || b) (sym (ap₂ (λ (a b : Bool). a && b) here.0 (ap p (sym here.1) ∙ not_so)))
  | inr other ↦ or_none old ∙ ap (λ (b : Bool). old || b) (sym (ap (λ (b : Bool). b && p q) other.0))
]
  where
    or_none : (b : Bool) → b ≡ (b || false)
    or_none true = refl
    or_none false = refl

-- one id more of a loop that looks for one
pub any_more : (p : ℕ → Bool) (ids : List ℕ) (i : ℕ) (old new : Bool) → i < length ids → old ≡ list_any p (take i ids) → new ≡ (old || p (get_or ids i 0)) → new ≡ list_any p (take (i + 1) ids)
any_more p ids i old new more so_far is = is ∙ ap (λ (b : Bool). b || p (get_or ids i 0)) so_far ∙ sym (list_any_more p ids i 0 more)

-- a datagram has a data set of an id
pub any_mapped : (q : ℕ) (m : List ℕ) → list_any (λ id. eqb q id) (ids_of (drop 16 m)) ≡ has_data_set m q
any_mapped q m = in_sets (sets_of (drop 16 m)).items
  where
    in_sets : (ss : List Set) → list_any (λ id. eqb q id) (map (λ (s : Set). s.id) ss) ≡ list_any (λ (s : Set). eqb q s.id) ss
    in_sets [] = refl
    in_sets (s ∷ ss) = ap (λ (b : Bool). eqb q s.id || b) (in_sets ss)

-- one id more of those that are put among others
pub listed_more : (ids more : List ℕ) (i q : ℕ) (old new : Bool) → i < length more → old ≡ (list_any (λ b. eqb b q) ids || list_any (λ b. eqb b q) (take i more)) → new ≡ (old || eqb (get_or more i 0) q)
    → new ≡ (list_any (λ b. eqb b q) ids || list_any (λ b. eqb b q) (take (i + 1) more))
listed_more ids more i q old new less so_far is =
    is ∙ ap (λ (b : Bool). b || eqb (get_or more i 0) q) so_far ∙ joined (list_any (λ b. eqb b q) ids) (list_any (λ b. eqb b q) (take i more)) (eqb (get_or more i 0) q)
    ∙ ap (λ (b : Bool). list_any (λ b. eqb b q) ids || b) (sym (list_any_more (λ b. eqb b q) more i 0 less))
  where
    joined : (a b c : Bool) → ((a || b) || c) ≡ (a || (b || c))
    joined true b c = refl
    joined false b c = refl
