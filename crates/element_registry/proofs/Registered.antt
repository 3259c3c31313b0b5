-- Names of elements from files: each is found, and nothing else.
use Rattle.std.proofs.Common.{◌≡◌, ℕ, Bool, true, List, [], ◌∷◌, Option, Some, None, refl, sym, ap, subst, ◌∙◌, inl, inr}
use Rattle.std.specs.Prelude.{◌==◌, ◌&&◌, not, find, option_map, unwrap_or, is_none}
use Rattle.std.specs.Option.{option_or}
use Rattle.std.specs.List.{list_all, list_any}
use Rattle.std.specs.Str.{bytes_eq}
use Rattle.std.proofs.lemmas.Bool.{cases_Bool, and_parts, and_from, eqb-true, eq-eqb}
use Rattle.std.proofs.lemmas.Option.{none-some, same_Some}
use Rattle.std.proofs.lemmas.Slice.Eq.{bytes_eq-Decides}
use Rattle.ipfix_wire.specs.declared.specifier.ElementId.{ElementId}
use Rattle.ipfix_elements.specs.Elements.{Entry, entry_of, name_of}
use Rattle.ipfix_elements.specs.Names.{IsElement, numbered_text, element_named}
use Rattle.ipfix_elements.proofs.Lookups.{ComparesKeys, are_distinct, find_head, find_rest, find_passes, find_again, mapped, cases_Option}
use Rattle.ipfix_elements.proofs.Named.{named_only, named_so}
use Rattle.element_registry.specs.Registries.{Known, IsRegistry, IsElementName, is_of, is_named, same_element, same_name, are_apart, listed_name, element_name, element_by_name}

pub by_name : ComparesKeys same_name
by_name = record { itself = λ k. (bytes_eq-Decides k.name k.name).1 refl; alike = λ a b e k. ap (λ (n : List ℕ). bytes_eq k.name n) ((bytes_eq-Decides a.name b.name).0 e) }

-- two that are of the same element
pub element_is : (e : ElementId) (k : Known) → is_of e k ≡ true → k.element ≡ e
element_is e k h =
    let both = and_parts (k.element.pen == e.pen) (k.element.number == e.number) h in
    let pen = eqb-true k.element.pen e.pen both.0 in
    let number = eqb-true k.element.number e.number both.1 in
    λ i. record { pen = pen i; number = number i }

pub is_of_itself : (k : Known) → is_of k.element k ≡ true
is_of_itself k = and_from _ _ (eq-eqb k.element.pen k.element.pen refl) (eq-eqb k.element.number k.element.number refl)

pub by_element : ComparesKeys same_element
by_element = record { itself = is_of_itself; alike = λ a b e k. ap (λ (d : ElementId). is_of d k) (element_is b.element a e) }

pub distinct : (same : Known → Known → Bool) (ks : List Known) → are_apart same ks ≡ are_distinct same ks
distinct same [] = refl
distinct same (k ∷ ks) = ap (λ (b : Bool). not (list_any (λ other. same other k) ks) && b) (distinct same ks)

-- what all of a list pass, that which is found passes
all_found : {X : Type 0} (p q : X → Bool) (xs : List X) (y : X) → list_all p xs ≡ true → find q xs ≡ Some y → p y ≡ true
all_found p q [] y all h = absurd (none-some y h)
all_found p q (x ∷ xs) y all h =
    let parts = and_parts (p x) (list_all p xs) all in
    elim (cases_Bool (q x)) [
      | inl e ↦ subst (λ z. p z ≡ true) (same_Some x y (sym (find_head q x xs e) ∙ h)) parts.0
      | inr e ↦ all_found p q xs y parts.1 (sym (find_rest q x xs e) ∙ h)
    ]

none_is : {X : Type 0} (o : Option X) → is_none o ≡ true → o ≡ None
none_is None h = refl
none_is (Some x) h = absurd cc

pub before : (known : List Known) (t : List ℕ) (e : ElementId) → element_named t ≡ Some e → element_by_name known t ≡ Some e
before known t e h = ap (λ (o : Option ElementId). option_or o (option_map (λ k. k.element) (find (is_named t) known))) h

behind : (known : List Known) (t : List ℕ) (k : Known) → element_named t ≡ None → find (is_named t) known ≡ Some k → element_by_name known t ≡ Some k.element
behind known t k none found =
    ap (λ (o : Option ElementId). option_or o (option_map (λ k. k.element) (find (is_named t) known))) none ∙ ap (λ (o : Option Known). option_map (λ k. k.element) o) found

of_file : (known : List Known) (t : List ℕ) (e : ElementId) → IsRegistry known → option_map (λ (k : Known). k.name) (find (is_of e) known) ≡ Some t → element_by_name known t ≡ Some e
of_file known t e good h =
    let at = mapped (λ (k : Known). k.name) (find (is_of e) known) t h in
    let apart = sym (distinct same_name known) ∙ good.names_apart in
    let again = find_again (is_of e) same_name by_name known at.0 apart at.1 in
    let found : find (is_named t) known ≡ Some at.0 = subst (λ (n : List ℕ). find (is_named n) known ≡ Some at.0) at.2 again in
    let free = none_is (element_named at.0.name) (all_found (λ k. is_none (element_named k.name)) (is_of e) known at.0 good.not_named at.1) in
    let none : element_named t ≡ None = subst (λ (n : List ℕ). element_named n ≡ None) at.2 free in
    behind known t at.0 none found ∙ ap (λ (d : ElementId). Some d) (element_is e at.0 (find_passes (is_of e) known at.0 at.1))

of_listed : (known : List Known) (t : List ℕ) (e : ElementId) (o : Option (List ℕ)) → name_of e ≡ o → IsRegistry known
    → option_or o (option_map (λ (k : Known). k.name) (find (is_of e) known)) ≡ Some t → element_by_name known t ≡ Some e
of_listed known t e None is good h = of_file known t e good h
of_listed known t e (Some n) is good h = before known t e (named_only t e (inl (is ∙ h)))

pub name_read : (known : List Known) (t : List ℕ) (e : ElementId) → IsRegistry known → IsElementName known e t → element_by_name known t ≡ Some e
name_read known t e good (inl h) = of_listed known t e (name_of e) refl good h
name_read known t e good (inr h) = before known t e (named_only t e (inr h))

pub written_name : (known : List Known) (e : ElementId) → IsElement e → IsElementName known e (element_name known e)
written_name known e fits =
    elim (cases_Option (listed_name known e)) [
      | inl none ↦ inr (fits, ap (λ (o : Option (List ℕ)). unwrap_or o (numbered_text e)) none)
      | inr name ↦ inl (name.1 ∙ ap (λ (n : List ℕ). Some n) (sym (ap (λ (o : Option (List ℕ)). unwrap_or o (numbered_text e)) name.1)))
    ]

pub written_read : (known : List Known) (e : ElementId) → IsRegistry known → IsElement e → element_by_name known (element_name known e) ≡ Some e
written_read known e good fits = name_read known (element_name known e) e good (written_name known e fits)

pub written_apart : (known : List Known) (d e : ElementId) → IsRegistry known → IsElement d → IsElement e → element_name known d ≡ element_name known e → d ≡ e
written_apart known d e good fits_d fits_e same =
    same_Some d e (sym (written_read known d good fits_d) ∙ ap (element_by_name known) same ∙ written_read known e good fits_e)

-- ---- what is found has the name

-- the name of a built-in element stands before those of files
listed_before : (known : List Known) (t : List ℕ) (e : ElementId) → name_of e ≡ Some t → listed_name known e ≡ Some t
listed_before known t e h = ap (λ (o : Option (List ℕ)). option_or o (option_map (λ (k : Known). k.name) (find (is_of e) known))) h

so_before : (known : List Known) (t : List ℕ) (e : ElementId) → element_named t ≡ Some e → IsElementName known e t
so_before known t e h =
    elim (named_so t e h) [
      | inl listed ↦ inl (listed_before known t e listed)
      | inr numbered ↦ inr numbered
    ]

no_name : (e : ElementId) → entry_of e ≡ None → name_of e ≡ None
no_name e h = ap (option_map (λ (r : Entry). r.name)) h

so_behind : (known : List Known) (t : List ℕ) (k : Known) → IsRegistry known → find (is_named t) known ≡ Some k → IsElementName known k.element t
so_behind known t k good h =
    let apart = sym (distinct same_element known) ∙ good.numbers_apart in
    let again = find_again (is_named t) same_element by_element known k apart h in
    let name = (bytes_eq-Decides k.name t).0 (find_passes (is_named t) known k h) in
    let free = none_is (entry_of k.element) (all_found (λ k. is_none (entry_of k.element)) (is_named t) known k good.not_built_in h) in
    inl (
    ap (λ (o : Option (List ℕ)). option_or o (option_map (λ (k : Known). k.name) (find (is_of k.element) known))) (no_name k.element free)
    ∙ ap (option_map (λ (k : Known). k.name)) again ∙ ap (λ (n : List ℕ). Some n) name)

so_either : (known : List Known) (t : List ℕ) (e : ElementId) (o : Option ElementId) → element_named t ≡ o → IsRegistry known
    → option_or o (option_map (λ (k : Known). k.element) (find (is_named t) known)) ≡ Some e → IsElementName known e t
so_either known t e (Some d) is good h = so_before known t e (is ∙ h)
so_either known t e None is good h =
    let at = mapped (λ (k : Known). k.element) (find (is_named t) known) e h in
    subst (λ (d : ElementId). IsElementName known d t) at.2 (so_behind known t at.0 good at.1)

pub name_found : (known : List Known) (t : List ℕ) (e : ElementId) → IsRegistry known → element_by_name known t ≡ Some e → IsElementName known e t
name_found known t e good h = so_either known t e (element_named t) refl good h
