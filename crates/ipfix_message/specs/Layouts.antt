-- Where the fields of a template's records stand (RFC 7011, sections 3.4.3 and 7).
use Rattle.std.specs.Prelude.{◌≡◌, ℕ, ◌+◌, ◌*◌, ◌^◌, ◌<◌, nat_lt, ◌==◌, if◌then◌else◌, List, [], ◌∷◌, length, take, drop, Option, Some, None, Ok, Err, All}
use Rattle.std.specs.Ordering.{nat_cmp}
use Rattle.std.specs.BTreeMap.{get}
use Rattle.std.specs.Result.{result_ok}
use Rattle.std.specs.Option.{option_map}
use Rattle.ipfix_wire.specs.declared.specifier.TheConstants.{VARIABLE_WIDTH}
use Rattle.ipfix_wire.specs.declared.specifier.Spec.{Spec}
use Rattle.ipfix_wire.specs.declared.specifier.ElementId.{ElementId}
use Rattle.ipfix_message.specs.declared.fault.MessageFault.TheVariants.{RecordCut}
use Rattle.ipfix_message.specs.declared.layout.Layout.{Layout}
use Rattle.ipfix_message.specs.declared.places.FieldPlace.{FieldPlace}
use Rattle.ipfix_message.specs.Fields.{same_element}
use Rattle.ipfix_message.specs.Outcome.{Read, ◌>>=◌}
use Rattle.ipfix_message.specs.SpelledFields.{value_at}
use Rattle.ipfix_message.specs.Spots.{AreSpotsOf}

-- ---- gaps, where o octets of fixed widths stand before the first specifier

-- for each field of variable length, the octets of fixed widths since the one before it
abbrev pub gaps_from : ℕ → List Spec → List ℕ
gaps_from o [] = []
gaps_from o (s ∷ ss) = if s.width == VARIABLE_WIDTH then o ∷ gaps_from 0 ss else gaps_from (o + s.width) ss

-- those since the last field of variable length
abbrev pub last_from : ℕ → List Spec → ℕ
last_from o [] = o
last_from o (s ∷ ss) = if s.width == VARIABLE_WIDTH then last_from 0 ss else last_from (o + s.width) ss

-- ---- places

-- with n more fields of variable length before it
abbrev pub behind : ℕ → Option FieldPlace → Option FieldPlace
behind n p = option_map (λ x. record { before = n + x.before; offset = x.offset; width = x.width }) p

-- where the first field of an element stands
abbrev pub place_from : ℕ → List Spec → ElementId → Option FieldPlace
place_from o [] e = None
place_from o (s ∷ ss) e =
    if same_element s.element e then Some (record { before = 0; offset = o; width = s.width })
    else if s.width == VARIABLE_WIDTH then behind 1 (place_from 0 ss e)
    else place_from (o + s.width) ss e

-- the number by which an element is sought
abbrev pub key_of : ElementId → ℕ
key_of e = e.pen * 65536 + e.number

abbrev pub IsNarrow : Spec → Type 0
IsNarrow s = s.width < 2 ^ 16

-- the layout of records of these specifiers
pub record IsLayout (l : Layout) (specs : List Spec) : Type 0 where
  pub gaps : l.gaps.items ≡ gaps_from 0 specs
  pub last : l.last ≡ last_from 0 specs
  pub places : (e : ElementId) → e.number < 2 ^ 16 → get nat_cmp l.places.all (key_of e) ≡ place_from 0 specs e
  pub spots : AreSpotsOf l.places.spots l.places.all
  pub narrow : All IsNarrow specs

-- ---- reading by them

-- what follows that many octets
abbrev pub skip : ℕ → List ℕ → Read (List ℕ)
skip n w = if nat_lt (length w) n then Err RecordCut else Ok (drop n w)

-- what follows a gap and the field of variable length after it
abbrev pub after_gap : ℕ → List ℕ → Read (List ℕ)
after_gap gap w = skip gap w >>= λ rest. value_at VARIABLE_WIDTH rest >>= λ x. Ok x.1

abbrev pub after_gaps : List ℕ → List ℕ → Read (List ℕ)
after_gaps [] w = Ok w
after_gaps (gap ∷ gaps) w = after_gap gap w >>= after_gaps gaps

-- what follows a record
abbrev pub after_all : List ℕ → ℕ → List ℕ → Read (List ℕ)
after_all gaps last w = after_gaps gaps w >>= skip last

-- the octets of the field at a place, and what follows them
abbrev pub value_behind : List ℕ → ℕ → ℕ → List ℕ → Read (List ℕ × List ℕ)
value_behind gaps offset width w = after_gaps gaps w >>= skip offset >>= value_at width

abbrev pub octets_at_place : List ℕ → Option FieldPlace → List ℕ → Option (List ℕ)
octets_at_place gaps None w = None
octets_at_place gaps (Some p) w = option_map (λ x. x.0) (result_ok (value_behind (take p.before gaps) p.offset p.width w))
