-- The table: no number and no name stands in it twice, and no name has a dot.
use Rattle.std.proofs.Common.{◌≡◌, ℕ, Bool, true, false, List, [], ◌∷◌, None, refl, ap, subst, ◌∙◌, inl, inr}
use Rattle.std.specs.Prelude.{◌==◌, not, find}
use Rattle.std.specs.List.{list_any, list_all}
use Rattle.std.specs.Str.{bytes_eq}
use Rattle.std.proofs.lemmas.Bool.{cases_Bool, and_parts, not-true, both_ways, eqb-true, eq-eqb}
use Rattle.std.proofs.lemmas.Slice.Eq.{bytes_eq-Decides}
use Rattle.ipfix_elements.specs.Elements.{Entry, elements}
use Rattle.ipfix_elements.proofs.Lookups.{are_distinct, ComparesKeys, find_rest}

abbrev pub same_number : Entry → Entry → Bool
same_number r s = r.number == s.number

abbrev pub same_name : Entry → Entry → Bool
same_name r s = bytes_eq r.name s.name

abbrev pub has_dot : List ℕ → Bool
has_dot t = list_any (λ b. b == 46) t

pub numbers_distinct : are_distinct same_number elements ≡ true
unfolding elements
numbers_distinct = refl

pub names_distinct : are_distinct same_name elements ≡ true
unfolding elements
names_distinct = refl

pub no_dots : list_all (λ r. not (has_dot r.name)) elements ≡ true
unfolding elements
no_dots = refl

pub by_number : ComparesKeys same_number
by_number = record { itself = λ r. eq-eqb r.number r.number refl; alike = λ r s e q. ap (λ (n : ℕ). q.number == n) (eqb-true r.number s.number e) }

pub by_name : ComparesKeys same_name
by_name = record { itself = λ r. (bytes_eq-Decides r.name r.name).1 refl; alike = λ r s e q. ap (λ (n : List ℕ). bytes_eq q.name n) ((bytes_eq-Decides r.name s.name).0 e) }

-- a text with a dot is no name among those
pub dotted : (rows : List Entry) (t : List ℕ) → list_all (λ r. not (has_dot r.name)) rows ≡ true → has_dot t ≡ true → find (λ r. bytes_eq r.name t) rows ≡ None
dotted [] t none dot = refl
dotted (r ∷ rows) t none dot =
    let parts = and_parts (not (has_dot r.name)) (list_all (λ r. not (has_dot r.name)) rows) none in
    elim (cases_Bool (bytes_eq r.name t)) [
      | inl e ↦
          let is : r.name ≡ t = (bytes_eq-Decides r.name t).0 e in
          absurd (both_ways (has_dot t) (subst (λ (n : List ℕ). has_dot n ≡ false) is (not-true (has_dot r.name) parts.0)) dot)
      | inr e ↦ find_rest (λ r. bytes_eq r.name t) r rows e ∙ dotted rows t parts.1 dot
    ]
