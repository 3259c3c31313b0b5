-- A record is appended, field by field.
use Rattle.std.proofs.Common.{◌≡◌, ℕ, Bool, true, false, cond, eqb, List, [], ◌∷◌, ◌++◌, length, Option, Some, None, refl, sym, ap, subst, ◌∙◌, append_assoc, arith}
use Rattle.std.proofs.lemmas.List.{append-nil}
use Rattle.ipfix_wire.proofs.Choices.{different}
use Rattle.ipfix_wire.specs.declared.specifier.Spec.{Spec}
use Rattle.ipfix_message.specs.Fields.{Field, same_element}
use Rattle.recording_files.specs.RecordOctets.{Appended, joined, record_octets, value_octets}
use Rattle.recording_files.proofs.RecordsSpelled.{element_is}

abbrev some_octets : List ℕ → Option (List ℕ)
some_octets w = Some w

-- these octets were appended, and those of the fields that are left are to follow
pub record RecordSoFar (specs : List Spec) (fields : List Field) (left : List Spec) (rest : List Field) (old new : List ℕ) : Type 0 where
  pub done : List ℕ
  pub appended : new ≡ old ++ done
  pub whole : record_octets specs fields ≡ joined (some_octets done) (record_octets left rest)

joined_first : (o : Option (List ℕ)) → o ≡ joined (some_octets []) o
joined_first None = refl
joined_first (Some w) = refl

joined_twice : (u w : List ℕ) (o : Option (List ℕ)) → joined (some_octets u) (joined (some_octets w) o) ≡ joined (some_octets (u ++ w)) o
joined_twice u w None = refl
joined_twice u w (Some v) = ap some_octets (sym (append_assoc u w v))

joined_none : (o : Option (List ℕ)) → joined o None ≡ None
joined_none None = refl
joined_none (Some w) = refl

pub record_begins : (specs : List Spec) (fields : List Field) (old : List ℕ) → RecordSoFar specs fields specs fields old old
record_begins specs fields old = record { done = []; appended = sym (append-nil old); whole = joined_first (record_octets specs fields) }

-- ---- a field more

by_element : (s : Spec) (f : Field) (ss : List Spec) (fs : List Field) → f.element ≡ s.element → record_octets (s ∷ ss) (f ∷ fs) ≡ joined (value_octets s.width f.octets) (record_octets ss fs)
by_element s f ss fs same = let e : same_element f.element s.element ≡ true = (element_is f.element s.element).1 same in rw e refl

other_element : (s : Spec) (f : Field) (ss : List Spec) (fs : List Field) → (f.element ≡ s.element → ⊥) → record_octets (s ∷ ss) (f ∷ fs) ≡ None
other_element s f ss fs other = by_test (same_element f.element s.element) refl
  where
    by_test : (b : Bool) → same_element f.element s.element ≡ b → cond b (joined (value_octets s.width f.octets) (record_octets ss fs)) None ≡ None
    by_test true e = absurd (other ((element_is f.element s.element).0 e))
    by_test false e = refl

pub record_goes_on : (specs : List Spec) (fields : List Field) (left others : List Spec) (rest more : List Field) (s : Spec) (f : Field) (old out new : List ℕ) → left ≡ s ∷ others → rest ≡ f ∷ more
    → f.element ≡ s.element → Appended (value_octets s.width f.octets) out new true → RecordSoFar specs fields left rest old out → RecordSoFar specs fields others more old new
record_goes_on specs fields left others rest more s f old out new is_left is_rest same appended far = by_value (value_octets s.width f.octets) refl appended
  where
    here : record_octets left rest ≡ joined (value_octets s.width f.octets) (record_octets others more)
    here = rw (is_left, is_rest) (by_element s f others more same)

    by_value : (o : Option (List ℕ)) → value_octets s.width f.octets ≡ o → Appended o out new true → RecordSoFar specs fields others more old new
    by_value None e h = absurd h
    by_value (Some u) e h = record {
      done = far.done ++ u;
      appended = h ∙ ap (λ (w : List ℕ). w ++ u) far.appended ∙ append_assoc old far.done u;
      whole = far.whole ∙ ap (joined (some_octets far.done)) (here ∙ ap (λ (o : Option (List ℕ)). joined o (record_octets others more)) e) ∙ joined_twice far.done u (record_octets others more);
    }

-- ---- where it ends

fails : (specs : List Spec) (fields : List Field) (left : List Spec) (rest : List Field) (old out : List ℕ) → RecordSoFar specs fields left rest old out → record_octets left rest ≡ None → Appended (record_octets specs fields) old out false
fails specs fields left rest old out far none =
    let whole : record_octets specs fields ≡ None = far.whole ∙ ap (joined (some_octets far.done)) none in
    subst (λ (o : Option (List ℕ)). Appended o old out false) (sym whole) tt

pub too_many : (specs : List Spec) (fields : List Field) (left : List Spec) (rest more : List Field) (f : Field) (old out : List ℕ) → RecordSoFar specs fields left rest old out → length left ≡ 0 → rest ≡ f ∷ more
    → Appended (record_octets specs fields) old out false
too_many specs fields [] rest more f old out far none is = fails specs fields [] rest old out far (rw is refl)
too_many specs fields (s ∷ ss) rest more f old out far none is = absurd (omega (arith, none))

pub other_one : (specs : List Spec) (fields : List Field) (left others : List Spec) (rest more : List Field) (s : Spec) (f : Field) (old out : List ℕ) → RecordSoFar specs fields left rest old out → left ≡ s ∷ others → rest ≡ f ∷ more
    → (f.element ≡ s.element → ⊥) → Appended (record_octets specs fields) old out false
other_one specs fields left others rest more s f old out far is_left is_rest other = fails specs fields left rest old out far (rw (is_left, is_rest) (other_element s f others more other))

pub other_width : (specs : List Spec) (fields : List Field) (left others : List Spec) (rest more : List Field) (s : Spec) (f : Field) (old out new : List ℕ) → RecordSoFar specs fields left rest old out → left ≡ s ∷ others → rest ≡ f ∷ more
    → f.element ≡ s.element → Appended (value_octets s.width f.octets) out new false → Appended (record_octets specs fields) old new false
other_width specs fields left others rest more s f old out new far is_left is_rest same appended = by_value (value_octets s.width f.octets) refl appended
  where
    by_value : (o : Option (List ℕ)) → value_octets s.width f.octets ≡ o → Appended o out new false → Appended (record_octets specs fields) old new false
    by_value (Some u) e h = absurd h
    by_value None e h =
        let none : record_octets left rest ≡ None = rw (is_left, is_rest) (by_element s f others more same ∙ ap (λ (o : Option (List ℕ)). joined o (record_octets others more)) e) in
        let whole : record_octets specs fields ≡ None = far.whole ∙ ap (joined (some_octets far.done)) none in
        subst (λ (o : Option (List ℕ)). Appended o old new false) (sym whole) tt

pub all_appended : (specs : List Spec) (fields : List Field) (left : List Spec) (old out : List ℕ) (b : Bool) → RecordSoFar specs fields left [] old out → b ≡ eqb (length left) 0 → Appended (record_octets specs fields) old out b
all_appended specs fields [] old out b far is =
    rw is (subst (λ (o : Option (List ℕ)). Appended o old out true) (sym far.whole) (far.appended ∙ ap (λ (w : List ℕ). old ++ w) (sym (append-nil far.done))))
all_appended specs fields (s ∷ ss) old out b far is =
    let no : b ≡ false = is ∙ different (length (s ∷ ss)) 0 (λ e. omega (arith, e)) in
    subst (λ (c : Bool). Appended (record_octets specs fields) old out c) (sym no) (fails specs fields (s ∷ ss) [] old out far refl)
