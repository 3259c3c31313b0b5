-- The octets of a record spell its fields.
use Rattle.std.proofs.Common.{◌≡◌, ℕ, ◌^◌, ◌<◌, Bool, true, false, cond, ltb, eqb, List, [], ◌∷◌, ◌++◌, length, Option, Some, None, sym, refl, rules, inl, inr}
use Rattle.std.specs.Bool.{Decides}
use Rattle.std.proofs.lemmas.Bool.{cases_Bool, ltb-true, eqb-true, eqb-false}
use Rattle.ipfix_wire.specs.VariableLength.{SpellsLength, length_octets}
use Rattle.ipfix_wire.specs.declared.specifier.ElementId.{ElementId}
use Rattle.ipfix_wire.specs.declared.specifier.Spec.{Spec}
use Rattle.ipfix_message.specs.Fields.{Field, same_element}
use Rattle.ipfix_message.specs.SpelledFields.{Spells, SpellsOctets}
use Rattle.recording_files.specs.RecordOctets.{joined, record_octets, value_octets}

abbrev some_octets : List ℕ → Option (List ℕ)
some_octets w = Some w

some_is : (u w : List ℕ) → some_octets u ≡ some_octets w → u ≡ w
some_is u w h = cc

pub element_is : (a b : ElementId) → Decides (same_element a b) (a ≡ b)
element_is a b = search rules

length_spelled : (n : ℕ) → n < 2 ^ 16 → SpellsLength n (length_octets n)
length_spelled n small = elim (cases_Bool (ltb n 255)) [
  | inl t ↦ rw t (inl (ltb-true n 255 t, refl))
  | inr f ↦ rw f (inr (small, refl))
]

value_spelled : (width : ℕ) (octets w : List ℕ) → value_octets width octets ≡ Some w → SpellsOctets width octets w
value_spelled width octets w h = by_width (eqb width 65535) refl h
  where
    by_size : (b : Bool) → ltb (length octets) (2 ^ 16) ≡ b → cond b (some_octets (length_octets (length octets) ++ octets)) None ≡ Some w
        → (head : List ℕ) × SpellsLength (length octets) head × (w ≡ head ++ octets)
    by_size true e h = (length_octets (length octets), length_spelled (length octets) (ltb-true (length octets) (2 ^ 16) e), sym (some_is (length_octets (length octets) ++ octets) w h))
    by_size false e h = absurd cc

    by_own : (b : Bool) → eqb (length octets) width ≡ b → cond b (some_octets octets) None ≡ Some w → (length octets ≡ width) × (w ≡ octets)
    by_own true e h = (eqb-true (length octets) width e, sym (some_is octets w h))
    by_own false e h = absurd cc

    by_width : (b : Bool) → eqb width 65535 ≡ b
        → cond b (cond (ltb (length octets) (2 ^ 16)) (some_octets (length_octets (length octets) ++ octets)) None) (cond (eqb (length octets) width) (some_octets octets) None) ≡ Some w → SpellsOctets width octets w
    by_width true e h = inr (eqb-true width 65535 e, by_size (ltb (length octets) (2 ^ 16)) refl h)
    by_width false e h = let own = by_own (eqb (length octets) width) refl h in inl (eqb-false width 65535 e, own.0, own.1)

pub record_spelled : (ss : List Spec) (fs : List Field) (w : List ℕ) → record_octets ss fs ≡ Some w → Spells ss fs w
record_spelled [] [] w h = sym (some_is [] w h)
record_spelled [] (f ∷ fs) w h = absurd cc
record_spelled (s ∷ ss) [] w h = absurd cc
record_spelled (s ∷ ss) (f ∷ fs) w h = by_element (same_element f.element s.element) (λ v others. record_spelled ss fs v others) refl h
  where
    by_parts : ((v : List ℕ) → record_octets ss fs ≡ Some v → Spells ss fs v) → f.element ≡ s.element → (a b : Option (List ℕ)) → value_octets s.width f.octets ≡ a → record_octets ss fs ≡ b → joined a b ≡ Some w → Spells (s ∷ ss) (f ∷ fs) w
    by_parts more same (Some u) (Some v) one others h = (u, v, sym (some_is (u ++ v) w h), same, value_spelled s.width f.octets u one, more v others)
    by_parts more same (Some u) None one others h = absurd cc
    by_parts more same None (Some v) one others h = absurd cc
    by_parts more same None None one others h = absurd cc

    by_element : (b : Bool) → ((v : List ℕ) → record_octets ss fs ≡ Some v → Spells ss fs v) → same_element f.element s.element ≡ b → cond b (joined (value_octets s.width f.octets) (record_octets ss fs)) None ≡ Some w → Spells (s ∷ ss) (f ∷ fs) w
    by_element true more e h = by_parts more ((element_is f.element s.element).0 e) (value_octets s.width f.octets) (record_octets ss fs) refl refl h
    by_element false more e h = absurd cc
