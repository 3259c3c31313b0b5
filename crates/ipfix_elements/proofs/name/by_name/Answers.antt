use Rattle.std.proofs.Common.{subst, ◌∙◌, sym, List, ℕ}
use Rattle.ipfix_elements.specs.Names.{IsNameOf}
use Rattle.ipfix_elements.proofs.Named.{named_found, named_only, written_name}
use Rattle.ipfix_elements.proofs.name.by_name.Goals as goal

pub returns-clause-found : goal.returns-clause-found
returns-clause-found c = named_found c.args.name.now c.named_element.result c.named_element.ensures

pub returns-clause-only : goal.returns-clause-only
returns-clause-only c = λ e is. c.named_element.ensures ∙ named_only c.args.name.now e is

pub returns-clause-written : goal.returns-clause-written
returns-clause-written c = λ e fits is. c.named_element.ensures ∙ named_only c.args.name.now e (subst (λ (t : List ℕ). IsNameOf e t) (sym is) (written_name e fits))
