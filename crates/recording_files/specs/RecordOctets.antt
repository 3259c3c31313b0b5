-- A data record as octets again, each length of a variable field in its shortest form (RFC 7011, sections 3.4.3 and 7).
use Rattle.std.specs.Prelude.{◌≡◌, ℕ, ◌^◌, ◌==◌, Bool, true, false, nat_lt, if◌then◌else◌, List, [], ◌∷◌, ◌++◌, length, Option, Some, None}
use Rattle.ipfix_wire.specs.VariableLength.{length_octets}
use Rattle.ipfix_wire.specs.declared.specifier.TheConstants.{VARIABLE_WIDTH}
use Rattle.ipfix_wire.specs.declared.specifier.Spec.{Spec}
use Rattle.ipfix_message.specs.Fields.{Field, same_element}

-- the octets of a field of this width; none of a field that has another
abbrev pub value_octets : ℕ → List ℕ → Option (List ℕ)
value_octets width octets =
    if width == VARIABLE_WIDTH then (if nat_lt (length octets) (2 ^ 16) then Some (length_octets (length octets) ++ octets) else None)
    else (if length octets == width then Some octets else None)

abbrev pub joined : Option (List ℕ) → Option (List ℕ) → Option (List ℕ)
joined None others = None
joined (Some first) None = None
joined (Some first) (Some others) = Some (first ++ others)

-- the octets of a record: it has a field for each specifier, of its element and its width; none of fields that aren't so
abbrev pub record_octets : List Spec → List Field → Option (List ℕ)
record_octets [] [] = Some []
record_octets [] (f ∷ fs) = None
record_octets (s ∷ ss) [] = None
record_octets (s ∷ ss) (f ∷ fs) = if same_element f.element s.element then joined (value_octets s.width f.octets) (record_octets ss fs) else None

-- they were appended, or there are none
abbrev pub Appended : Option (List ℕ) → List ℕ → List ℕ → Bool → Type 0
Appended (Some w) old new true = new ≡ old ++ w
Appended None old new false = Unit {0}
Appended (Some w) old new false = ⊥
Appended None old new true = ⊥
