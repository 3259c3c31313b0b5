-- What stands at the place that is noted for it.
use Rattle.std.proofs.Common.{◌≡◌, ℕ, zero, suc, Bool, true, false, List, [], ◌∷◌, ◌++◌, Option, Some, None, length, refl, sym, ap, subst, ◌∙◌, inl, inr}
use Rattle.std.specs.Prelude.{◌⊎◌, find, is_some}
use Rattle.std.specs.BTreeMap.{BTreeMap, Updates, get, get_by_text, is_at}
use Rattle.std.specs.List.{slice_get}
use Rattle.std.specs.Global.{Global}
use Rattle.std.specs.declared.string.String.{String}
use Rattle.std.specs.String.{string_bytes, string_cmp}
use Rattle.std.specs.Cmp.{Equal-is}
use Rattle.std.specs.Str.{bytes_eq}
use Rattle.std.proofs.lemmas.Bool.{cases_Bool, and_from, both_ways, cond-false, eq-eqb}
use Rattle.std.proofs.lemmas.List.Folds.{find_at}
use Rattle.std.proofs.lemmas.Map.Lookups.{exact_pairs, exact_unsigned}
use Rattle.std.proofs.lemmas.Map.Text.{btree_map_updates_text}
use Rattle.std.proofs.lemmas.Option.{none-some, same_Some}
use Rattle.std.proofs.lemmas.Slice.Eq.{bytes_eq-Decides}
use Rattle.std.specs.Ordering.{nat_cmp}
use Rattle.std.specs.Map.{lookup}
use Rattle.std.specs.Cmp.Lexicographic.{slice_cmp}
use Rattle.ipfix_wire.specs.declared.specifier.ElementId.{ElementId}
use Rattle.ipfix_elements.proofs.Lookups.{find_head, find_rest, find_passes, cases_Option}
use Rattle.element_registry.specs.Registries.{Known, is_of, is_named}
use Rattle.element_registry.specs.Places.{AreNoted, element_cmp, place_of, place_named, standing}
use Rattle.element_registry.specs.declared.places.Places.{Places}
use Rattle.element_registry.proofs.Registered.{element_is}

-- ---- what is found

-- where nothing is found, none passes
none_passes : (p : Known → Bool) (known : List Known) → find p known ≡ None → (i : ℕ) (k : Known) → slice_get known i ≡ Some k → p k ≡ false
none_passes p [] none i k at = absurd (none-some k at)
none_passes p (x ∷ known) none i k at =
    elim (cases_Bool (p x)) [
      | inl e ↦ absurd (none-some x (sym none ∙ find_head p x known e))
      | inr e ↦ first_or i at e (λ n next. none_passes p known (sym (find_rest p x known e) ∙ none) n k next)
    ]
  where
    first_or : (n : ℕ) → slice_get (x ∷ known) n ≡ Some k → p x ≡ false → ((m : ℕ) → slice_get known m ≡ Some k → p k ≡ false) → p k ≡ false
    first_or zero here e later = subst (λ (y : Known). p y ≡ false) (same_Some x k here) e
    first_or (suc n) there e later = later n there

-- each that passes is noted where it stands
abbrev pub AllAt : (Known → Bool) → List Known → Option ℕ → Type 0
AllAt p known noted = (i : ℕ) (k : Known) → slice_get known i ≡ Some k → p k ≡ true → noted ≡ Some i

-- what is found stands there
found_there : (p : Known → Bool) (known : List Known) (noted : Option ℕ) (k : Known) → AllAt p known noted → find p known ≡ Some k → standing known noted ≡ Some k
found_there p known noted k all found =
    let at = sym (find_at p known) ∙ found in
    ap (standing known) (all _ k at (find_passes p known k found)) ∙ at

-- what stands there is found, if it passes, and nothing otherwise
pub standing_found : (p : Known → Bool) (known : List Known) (noted : Option ℕ) (k : Known) → AllAt p known noted → standing known noted ≡ Some k → p k ≡ true → find p known ≡ Some k
standing_found p known None k all stands passes = absurd (none-some k stands)
standing_found p known (Some i) k all stands passes =
    elim (cases_Option (find p known)) [
      | inl none ↦ absurd (both_ways (p k) (none_passes p known none i k stands) passes)
      | inr at ↦ at.1 ∙ sym (sym stands ∙ found_there p known (Some i) at.0 all at.1)
    ]

pub none_standing : (p : Known → Bool) (known : List Known) (noted : Option ℕ) → AllAt p known noted → standing known noted ≡ None → find p known ≡ None
none_standing p known noted all stands =
    elim (cases_Option (find p known)) [
      | inl none ↦ none
      | inr at ↦ absurd (none-some at.0 (sym stands ∙ found_there p known noted at.0 all at.1))
    ]

pub other_standing : (p : Known → Bool) (known : List Known) (noted : Option ℕ) (k : Known) → AllAt p known noted → standing known noted ≡ Some k → p k ≡ false → find p known ≡ None
other_standing p known noted k all stands other =
    elim (cases_Option (find p known)) [
      | inl none ↦ none
      | inr at ↦
          let same = same_Some k at.0 (sym stands ∙ found_there p known noted at.0 all at.1) in
          absurd (both_ways (p k) other (ap p same ∙ find_passes p known at.0 at.1))
    ]

-- as it was looked up
pub looked_up : (p : Known → Bool) (known : List Known) (noted seen : Option ℕ) → seen ≡ noted → AllAt p known noted → AllAt p known seen
looked_up p known noted seen is all = subst (AllAt p known) (sym is) all

pub noted_of : (places : Places) (known : List Known) (e : ElementId) → AreNoted places known → AllAt (is_of e) known (place_of places e)
noted_of places known e noted i k at passes = subst (λ (d : ElementId). place_of places d ≡ Some i) (element_is e k passes) (noted.elements i k at)

pub noted_so : (places : Places) (known : List Known) (t : List ℕ) → AreNoted places known → AllAt (is_named t) known (place_named places t)
noted_so places known t noted i k at passes = subst (λ (n : List ℕ). place_named places n ≡ Some i) ((bytes_eq-Decides k.name t).0 passes) (noted.names i k at)

-- ---- one more

behind : (known : List Known) (k : Known) (i : ℕ) (x : Known) → slice_get (known ++ k ∷ []) i ≡ Some x → (slice_get known i ≡ Some x) ⊎ ((i ≡ length known) × (k ≡ x))
behind [] k zero x h = inr (refl, same_Some k x h)
behind [] k (suc i) x h = absurd (none-some x h)
behind (y ∷ known) k zero x h = inl h
behind (y ∷ known) k (suc i) x h =
    elim (behind known k i x h) [
      | inl here ↦ inl here
      | inr last ↦ inr (ap suc last.0, last.1)
    ]

-- no key of those is the new one's
other_key : (e : ElementId) (k : Known) → is_of e k ≡ false → is_at (element_cmp (e.pen, e.number)) (k.element.pen, k.element.number) ≡ false
other_key e k other =
    elim (cases_Bool (is_at (element_cmp (e.pen, e.number)) (k.element.pen, k.element.number))) [
      | inl tied ↦
          let same = exact_pairs nat_cmp nat_cmp exact_unsigned exact_unsigned (e.pen, e.number) (k.element.pen, k.element.number) ((Equal-is _).0 tied) in
          absurd (both_ways (is_of e k) other
          (and_from _ _ (eq-eqb k.element.pen e.pen (sym (ap (λ (q : ℕ × ℕ). q.0) same))) (eq-eqb k.element.number e.number (sym (ap (λ (q : ℕ × ℕ). q.1) same)))))
      | inr apart ↦ apart
    ]

other_text : (t : List ℕ) (k : Known) → is_named t k ≡ false → bytes_eq t k.name ≡ false
other_text t k other =
    elim (cases_Bool (bytes_eq t k.name)) [
      | inl e ↦ absurd (both_ways (is_named t k) other ((bytes_eq-Decides k.name t).1 (sym ((bytes_eq-Decides t k.name).0 e))))
      | inr e ↦ e
    ]

abbrev AllSeen : (Known → Option ℕ) → List Known → Type 0
AllSeen seen known = (i : ℕ) (k : Known) → slice_get known i ≡ Some k → seen k ≡ Some i

seen_behind : (seen : Known → Option ℕ) (known : List Known) (k : Known) → AllSeen seen known → seen k ≡ Some (length known) → AllSeen seen (known ++ k ∷ [])
seen_behind seen known k all last i x at =
    elim (behind known k i x at) [
      | inl here ↦ all i x here
      | inr end ↦ ap seen (sym end.1) ∙ last ∙ ap (λ (n : ℕ). Some n) (sym end.0)
    ]

none_found : (o : Option Known) → is_some o ≡ false → o ≡ None
none_found None none = refl
none_found (Some k) none = absurd cc

abbrev Elements : Type 0
Elements = BTreeMap (ℕ × ℕ) ℕ

abbrev place_in : Elements → Known → Option ℕ
place_in places k = get element_cmp places (k.element.pen, k.element.number)

-- a place that is noted for an element that none is of leaves theirs
elements_kept : (old new : Elements) (known : List Known) (e : ElementId) (noted : Option ℕ) → AllSeen (place_in old) known → is_some (find (is_of e) known) ≡ false
    → Updates element_cmp old new (e.pen, e.number) noted → AllSeen (place_in new) known
elements_kept old new known e noted all none updates i k at =
    updates.2 (k.element.pen, k.element.number) (other_key e k (none_passes (is_of e) known (none_found _ none) i k at)) ∙ all i k at

names_kept : (old new : BTreeMap (String Global) ℕ) (known : List Known) (name : String Global) (noted : Option ℕ) → AllSeen (λ k. get_by_text old k.name) known
    → is_some (find (is_named (string_bytes name)) known) ≡ false → Updates string_cmp old new name noted → AllSeen (λ k. get_by_text new k.name) known
names_kept old new known name noted all none updates i k at =
    btree_map_updates_text (string_bytes name) old new noted updates k.name
    ∙ cond-false _ noted (get_by_text old k.name) (other_text (string_bytes name) k (none_passes (is_named (string_bytes name)) known (none_found _ none) i k at))
    ∙ all i k at

-- what is noted under the numbers and the name of one more, of which those are free
pub noted_more : (old new : Places) (known : List Known) (k : Known) (name : String Global) (n : ℕ) → n ≡ length known → AreNoted old known → is_some (find (is_of k.element) known) ≡ false
    → is_some (find (is_named k.name) known) ≡ false → string_bytes name ≡ k.name → Updates element_cmp old.by_element new.by_element (k.element.pen, k.element.number) (Some n)
    → Updates string_cmp old.by_name new.by_name name (Some n) → AreNoted new (known ++ k ∷ [])
noted_more old new known k name n last noted number free is elements names =
    record {
      elements = seen_behind (place_in new.by_element) known k (elements_kept old.by_element new.by_element known k.element (Some n) noted.elements number elements) (elements.1 ∙ ap (λ (i : ℕ). Some i) last);
      names = seen_behind (λ x. get_by_text new.by_name x.name) known k
          (names_kept old.by_name new.by_name known name (Some n) noted.names (subst (λ (t : List ℕ). is_some (find (is_named t) known) ≡ false) (sym is) free) names)
          (ap (get_by_text new.by_name) (sym is) ∙ names.1 ∙ ap (λ (i : ℕ). Some i) last);
    }

-- where only the numbers were noted
pub noted_numbers : (old : Places) (new : Elements) (names : BTreeMap (String Global) ℕ) (known : List Known) (e : ElementId) (noted : Option ℕ) → AreNoted old known
    → is_some (find (is_of e) known) ≡ false → Updates element_cmp old.by_element new (e.pen, e.number) noted → names.entries ≡ old.by_name.entries
    → AreNoted (record { by_element = new; by_name = names }) known
noted_numbers old new names known e place noted number elements same =
    record {
      elements = elements_kept old.by_element new known e place noted.elements number elements;
      names = λ i k at. ap (lookup (is_at (λ (key : String Global). slice_cmp nat_cmp k.name (string_bytes key)))) same ∙ noted.names i k at;
    }
