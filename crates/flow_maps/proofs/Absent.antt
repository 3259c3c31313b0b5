-- Fields of which none is of an element.
use Rattle.std.proofs.Common.{◌≡◌, Bool, true, false, cond, List, [], ◌∷◌, Option, Some, None, refl, sym, ap, ◌∙◌}
use Rattle.std.specs.Prelude.{not, find, is_some, option_map, ℕ}
use Rattle.std.specs.Borrow.{Bor}
use Rattle.std.specs.Option.{option_copied}
use Rattle.std.proofs.lemmas.Bool.{false≢true}
use Rattle.std.proofs.lemmas.Option.{none-some}
use Rattle.ipfix_wire.specs.declared.specifier.ElementId.{ElementId}
use Rattle.ipfix_message.specs.Fields.{Field, octets_of, same_element}
use Rattle.flow_maps.specs.Numbers.{without}

first : (e : ElementId) (f : Field) (fields : List Field) (same : Bool) → (octets_of e fields ≡ None → fields ≡ without e fields)
    → option_map (λ (g : Field). g.octets) (cond same (Some f) (find (λ g. same_element g.element e) fields)) ≡ None → f ∷ fields ≡ cond (not same) (f ∷ without e fields) (without e fields)
first e f fields true rest none = absurd (none-some f.octets (sym none))
first e f fields false rest none = ap (λ (fs : List Field). f ∷ fs) (rest none)

-- nothing is lost
pub none_lost : (e : ElementId) (fields : List Field) → octets_of e fields ≡ None → fields ≡ without e fields
none_lost e [] none = refl
none_lost e (f ∷ fields) none = first e f fields (same_element f.element e) (none_lost e fields) none

pub not_there : (r : Option (Bor (List ℕ))) (o : Option (List ℕ)) → false ≡ is_some r → option_copied r ≡ o → o ≡ None
not_there None o none same = sym same
not_there (Some x) o none same = absurd (false≢true none)
