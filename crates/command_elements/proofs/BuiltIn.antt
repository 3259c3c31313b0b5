-- The built-in elements, one number after another.
use Rattle.std.proofs.Common.{◌≡◌, ◌==◌, ℕ, ◌+◌, ◌<◌, ◌≤◌, true, List, [], ◌∷◌, ◌++◌, map, find, Some, refl, ap, ◌∙◌, arith}
use Rattle.std.specs.Prelude.{nat_lt}
use Rattle.std.specs.List.{filter}
use Rattle.std.specs.Option.{option_map, option_map_or, option_to_list}
use Rattle.std.proofs.lemmas.Bool.Decides.{nat_tests}
use Rattle.std.proofs.lemmas.List.{map-append}
use Rattle.ipfix_wire.specs.declared.specifier.ElementId.{ElementId}
use Rattle.ipfix_elements.specs.declared.kind.Kind.{Kind}
use Rattle.ipfix_elements.specs.declared.kind.Kind.TheVariants.{Octets}
use Rattle.ipfix_elements.specs.Elements.{Entry, elements, entry_of, iana, kind_of, name_of}
use Rattle.ipfix_elements.specs.Entries.{rise}
use Rattle.element_registry.specs.declared.kind.ElementKind.TheVariants.{Plain}
use Rattle.command_elements.specs.Listed.{Listed, built_in, built_in_at, listed_as, of_entry}

-- those with smaller numbers
abbrev pub below : ℕ → List Entry → List Entry
below n rs = filter (λ r. nat_lt r.number n) rs

abbrev numbers : List Entry → List ℕ
numbers rs = map (λ r. r.number) rs

rise_tail : (m : ℕ) (ns : List ℕ) → rise (m ∷ ns) ≡ true → rise ns ≡ true
rise_tail m [] up = refl
rise_tail m (n ∷ ns) up = grind (arith, nat_tests)

rise_head : (m n : ℕ) (ns : List ℕ) → rise (m ∷ n ∷ ns) ≡ true → m < n
rise_head m n ns up = grind (arith, nat_tests)

-- none after an element is below the number after its own
none_below : (n : ℕ) (r : Entry) (rs : List Entry) → rise (numbers (r ∷ rs)) ≡ true → n ≤ r.number + 1 → below n rs ≡ []
none_below n r [] up le = refl
none_below n r (s ∷ rs) up le =
    let first = rise_head r.number s.number (numbers rs) up in
    let rest = none_below n s rs (rise_tail r.number (numbers (s ∷ rs)) up) (omega (arith, first, le)) in
    grind (arith, nat_tests)

-- one number more adds the entry of that number
pub next : (n : ℕ) (rs : List Entry) → rise (numbers rs) ≡ true → below (n + 1) rs ≡ below n rs ++ option_to_list (find (λ r. r.number == n) rs)
next n [] up = refl
next n (r ∷ rs) up =
    let more = next n rs (rise_tail r.number (numbers rs) up) in
    let none = λ (k : ℕ) (le : k ≤ r.number + 1). none_below k r rs up le in
    grind (arith, nat_tests, none n, none (n + 1))

none_yet : (rs : List Entry) → below 0 rs ≡ []
none_yet [] = refl
none_yet (r ∷ rs) = let rest = none_yet rs in grind (arith, nat_tests)

pub they_rise : rise (numbers elements) ≡ true
unfolding elements
they_rise = refl

pub at_last : below 32768 elements ≡ elements
unfolding elements
at_last = refl

-- the built-in elements with smaller numbers
abbrev pub built_in_below : ℕ → List Listed
built_in_below n = map of_entry (below n elements)

pub at_first : built_in_below 0 ≡ []
at_first = ap (map of_entry) (none_yet elements)

pub is_next : (n : ℕ) → built_in_below (n + 1) ≡ built_in_below n ++ built_in_at n
is_next n = ap (map of_entry) (next n elements they_rise) ∙ map-append of_entry (below n elements) (option_to_list (entry_of (iana n)))

pub all_below : (n : ℕ) → n ≡ 32768 → built_in_below n ≡ built_in
all_below n is = ap (λ (k : ℕ). map of_entry (below k elements)) is ∙ ap (map of_entry) at_last

-- the entry of a number that has a name
found_is : (n : ℕ) (rs : List Entry) (name : List ℕ) (kind : Kind) → Some name ≡ option_map (λ r. r.name) (find (λ r. r.number == n) rs) → kind ≡ option_map_or (λ r. r.kind) (find (λ r. r.number == n) rs) Octets
    → map of_entry (option_to_list (find (λ r. r.number == n) rs)) ≡ listed_as (iana n) name (Plain kind) ∷ []
found_is n [] name kind named read = cc
found_is n (r ∷ rs) name kind named read =
    let more = found_is n rs name kind in
    grind (arith, nat_tests, more)

pub at_number : (e : ElementId) (n : ℕ) (name : List ℕ) (kind : Kind) → e ≡ iana n → Some name ≡ name_of e → kind ≡ kind_of e
    → built_in_at n ≡ listed_as e name (Plain kind) ∷ []
at_number e n name kind is named read = rw is (found_is n elements name kind (rw is at named) (rw is at read))
