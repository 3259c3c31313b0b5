-- The entries of the table of elements, as the code keeps them.
use Rattle.std.specs.Prelude.{ℕ, Bool, true, nat_lt, ◌&&◌, List, [], ◌∷◌}
use Rattle.ipfix_elements.specs.declared.element.Entry as kept
use Rattle.ipfix_elements.specs.Elements.{Entry, element}

abbrev pub shown : kept.Entry → Entry
shown r = element r.number r.name.now r.kind

-- numbers that ascend
abbrev pub rise : List ℕ → Bool
rise [] = true
rise (n ∷ []) = true
rise (m ∷ n ∷ ns) = nat_lt m n && rise (n ∷ ns)
