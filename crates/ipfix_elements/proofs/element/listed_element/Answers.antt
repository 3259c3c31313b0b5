use Rattle.std.proofs.Common.{Some, ap, ◌∙◌}
use Rattle.std.specs.Prelude.{option_map}
use Rattle.ipfix_wire.specs.declared.specifier.ElementId.{ElementId}
use Rattle.ipfix_elements.specs.Elements.{elements, listed}
use Rattle.ipfix_elements.proofs.element.listed_element.Goals as goal

pub returns-in-Some : goal.returns-in-Some
unfolding elements
returns-in-Some c = ap (λ (e : ElementId). Some e) c.iana.ensures ∙ ap (option_map listed) c.in-Some.ensures

pub returns-in-None : goal.returns-in-None
unfolding elements
returns-in-None c = ap (option_map listed) c.in-None.ensures
