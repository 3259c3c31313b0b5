-- The octets that spell the fields of a data record (RFC 7011, sections 3.4.3 and 7).
use Rattle.std.specs.Prelude.{◌≡◌, ◌≢◌, ℕ, ◌+◌, ◌^◌, ◌<◌, ◌⊎◌, nat_lt, ◌==◌, if◌then◌else◌, List, [], ◌∷◌, ◌++◌, length, take, drop, Option, Some, None, Result, Ok, Err, IsOk}
use Rattle.std.specs.Result.{result_unwrap_or}
use Rattle.ipfix_wire.specs.VariableLength.{SpellsLength, length_at}
use Rattle.ipfix_wire.specs.declared.specifier.TheConstants.{VARIABLE_WIDTH}
use Rattle.ipfix_wire.specs.declared.specifier.Spec.{Spec}
use Rattle.ipfix_message.specs.declared.fault.MessageFault.{MessageFault}
use Rattle.ipfix_message.specs.declared.fault.MessageFault.TheVariants.{RecordCut}
use Rattle.ipfix_message.specs.Fields.{Field}
use Rattle.ipfix_message.specs.Outcome.{◌>>=◌}

-- ---- what spells a record

-- w spells the octets of a field of this width: the octets themselves, as many as the width; or, if
-- the length is variable, that length and then the octets
abbrev pub SpellsOctets : ℕ → List ℕ → List ℕ → Type 0
SpellsOctets width octets w =
    ((width ≢ VARIABLE_WIDTH) × (length octets ≡ width) × (w ≡ octets))
    ⊎ ((width ≡ VARIABLE_WIDTH) × ((head : List ℕ) × SpellsLength (length octets) head × (w ≡ head ++ octets)))

-- w spells a record: one field for each specifier, in their order and with their elements
abbrev pub Spells : List Spec → List Field → List ℕ → Type 0
Spells [] [] w = w ≡ []
Spells [] (f ∷ fs) w = ⊥
Spells (s ∷ ss) [] w = ⊥
Spells (s ∷ ss) (f ∷ fs) w =
    (u : List ℕ) × (v : List ℕ) × (w ≡ u ++ v) × (f.element ≡ s.element) × SpellsOctets s.width f.octets u × Spells ss fs v

-- the least length of a record: the sum of the widths, in which a variable field counts 1
abbrev pub least : List Spec → ℕ
least [] = 0
least (s ∷ ss) = (if s.width == VARIABLE_WIDTH then 1 else s.width) + least ss

-- ---- reading them

abbrev pub octets_at : ℕ → List ℕ → Result (List ℕ × List ℕ) MessageFault
octets_at n w = if nat_lt (length w) n then Err RecordCut else Ok (take n w, drop n w)

-- the octets after a length
abbrev pub variable_at : Option (ℕ × ℕ) → List ℕ → Result (List ℕ × List ℕ) MessageFault
variable_at None w = Err RecordCut
variable_at (Some r) w = octets_at r.0 (drop r.1 w)

-- the octets of a field of this width
unfoldable pub value_at : ℕ → List ℕ → Result (List ℕ × List ℕ) MessageFault
value_at width w = if width == VARIABLE_WIDTH then variable_at (length_at w) w else octets_at width w

-- what was read; none is a record that is cut
abbrev pub unless_cut : {X : Type 0} → Option X → Result X MessageFault
unless_cut None = Err RecordCut
unless_cut (Some x) = Ok x

unfoldable pub fields_at : List Spec → List ℕ → Result (List Field × List ℕ) MessageFault
fields_at [] w = Ok ([], w)
fields_at (s ∷ ss) w = do
  first ← value_at s.width w
  others ← fields_at ss first.1
  Ok (record { element = s.element; octets = first.0 } ∷ others.0, others.1)

-- w begins with a record of these specifiers
abbrev pub BeginsWithFields : List Spec → List ℕ → Type 0
BeginsWithFields specs w = IsOk (fields_at specs w)

-- the octets of a field are not more than a length says (section 7)
abbrev pub IsShort : Field → Type 0
IsShort field = length field.octets < 2 ^ 16

-- the fields of the record with which w begins
abbrev pub fields_in : List Spec → List ℕ → List Field
fields_in specs w = (result_unwrap_or (fields_at specs w) ([], w)).0
