-- The fields of a data record (RFC 7011, section 3.4.3).
use Rattle.std.specs.Prelude.{ℕ, Bool, ◌==◌, ◌&&◌, List, Option, option_map, find}
use Rattle.ipfix_wire.specs.declared.specifier.ElementId.{ElementId}

-- a field: its information element and its octets
pub record Field : Type 0 where
  pub element : ElementId
  pub octets : List ℕ

abbrev pub same_element : ElementId → ElementId → Bool
same_element a b = (a.pen == b.pen) && (a.number == b.number)

-- the octets of the first field of an element
abbrev pub octets_of : ElementId → List Field → Option (List ℕ)
octets_of element fields = option_map (λ f. f.octets) (find (λ f. same_element f.element element) fields)
