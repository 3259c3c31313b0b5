-- Names of elements: each is found, and nothing else.
use Rattle.std.proofs.Common.{◌≡◌, ℕ, Bool, true, false, cond, List, Option, Some, None, refl, sym, ap, subst, ◌∙◌, inl, inr}
use Rattle.std.specs.Prelude.{◌==◌, find, option_map, unwrap_or, IfSome}
use Rattle.std.specs.Str.{bytes_eq}
use Rattle.std.proofs.lemmas.Bool.{eqb-true}
use Rattle.std.proofs.lemmas.Option.{none-some, same_Some}
use Rattle.std.proofs.lemmas.Slice.Eq.{bytes_eq-Decides}
use Rattle.ipfix_wire.specs.declared.specifier.ElementId.{ElementId}
use Rattle.ipfix_elements.specs.Elements.{Entry, elements, listed, entry_of, name_of}
use Rattle.ipfix_elements.specs.Names.{IsElement, IsNameOf, numbered_text, name_text, numbered_element, first_of_both, element_named}
use Rattle.ipfix_elements.proofs.Lookups.{find_passes, find_again, mapped, cases_Option}
use Rattle.ipfix_elements.proofs.Table.{has_dot, same_number, same_name, numbers_distinct, names_distinct, no_dots, by_number, by_name, dotted}
use Rattle.ipfix_elements.proofs.Numbered.{numbered_has_dot, numbered_again, numbered_so}

chosen : {X : Type 0} (b : Bool) (o : Option X) (x : X) → cond b o None ≡ Some x → (b ≡ true) × (o ≡ Some x)
chosen true o x h = (refl, h)
chosen false o x h = absurd (none-some x h)

named_is : (t : List ℕ) → element_named t ≡ first_of_both (option_map listed (find (λ r. bytes_eq r.name t) elements)) (numbered_element t)
unfolding element_named
named_is t = refl

by_first : (t : List ℕ) (r : Entry) → find (λ r. bytes_eq r.name t) elements ≡ Some r → element_named t ≡ Some (listed r)
by_first t r h = named_is t ∙ ap (λ (o : Option Entry). first_of_both (option_map listed o) (numbered_element t)) h

by_second : (t : List ℕ) → find (λ r. bytes_eq r.name t) elements ≡ None → element_named t ≡ numbered_element t
by_second t h = named_is t ∙ ap (λ (o : Option Entry). first_of_both (option_map listed o) (numbered_element t)) h

-- a name of the table leads to its element
of_listed : (t : List ℕ) (e : ElementId) → name_of e ≡ Some t → element_named t ≡ Some e
of_listed t e h =
    let row = mapped (λ (r : Entry). r.name) (entry_of e) t h in
    let at = chosen (e.pen == 0) (find (λ r. r.number == e.number) elements) row.0 row.1 in
    let again = find_again (λ r. r.number == e.number) same_name by_name elements row.0 names_distinct at.1 in
    let found = subst (λ (n : List ℕ). find (λ r. bytes_eq r.name n) elements ≡ Some row.0) row.2 again in
    let pen = sym (eqb-true e.pen 0 at.0) in
    let number = eqb-true row.0.number e.number (find_passes (λ r. r.number == e.number) elements row.0 at.1) in
    by_first t row.0 found ∙ ap (λ (d : ElementId). Some d) (λ i. record { pen = pen i; number = number i })

-- the numbers of an element lead to it
of_numbered : (t : List ℕ) (e : ElementId) → IsElement e → t ≡ numbered_text e → element_named t ≡ Some e
of_numbered t e fits is =
    by_second t (dotted elements t no_dots (ap (λ (n : List ℕ). has_dot n) is ∙ numbered_has_dot e)) ∙ numbered_again t e fits is

pub named_only : (t : List ℕ) (e : ElementId) → IsNameOf e t → element_named t ≡ Some e
named_only t e (inl h) = of_listed t e h
named_only t e (inr h) = of_numbered t e h.0 h.1

-- the entry of a name gives its element that name
has_name : (t : List ℕ) (r : Entry) → find (λ r. bytes_eq r.name t) elements ≡ Some r → name_of (listed r) ≡ Some t
has_name t r h =
    let again = find_again (λ r. bytes_eq r.name t) same_number by_number elements r numbers_distinct h in
    let is = (bytes_eq-Decides r.name t).0 (find_passes (λ r. bytes_eq r.name t) elements r h) in
    ap (option_map (λ (r : Entry). r.name)) again ∙ ap (λ (n : List ℕ). Some n) is

pub named_so : (t : List ℕ) (e : ElementId) → element_named t ≡ Some e → IsNameOf e t
named_so t e h =
    elim (cases_Option (find (λ r. bytes_eq r.name t) elements)) [
      | inl none ↦ let so = numbered_so t e (sym (by_second t none) ∙ h) in inr so
      | inr row ↦
          let same : listed row.0 ≡ e = same_Some (listed row.0) e (sym (by_first t row.0 row.1) ∙ h) in
          inl (ap name_of (sym same) ∙ has_name t row.0 row.1)
    ]

pub named_found : (t : List ℕ) (r : Option ElementId) → r ≡ element_named t → IfSome r (λ e. IsNameOf e t)
named_found t None h = tt
named_found t (Some e) h = named_so t e (sym h)

-- what is written is a name
pub written_name : (e : ElementId) → IsElement e → IsNameOf e (name_text e)
written_name e fits =
    elim (cases_Option (name_of e)) [
      | inl none ↦ inr (fits, ap (λ (o : Option (List ℕ)). unwrap_or o (numbered_text e)) none)
      | inr name ↦ inl (name.1 ∙ ap (λ (n : List ℕ). Some n) (sym (ap (λ (o : Option (List ℕ)). unwrap_or o (numbered_text e)) name.1)))
    ]
