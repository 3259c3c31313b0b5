use Rattle.std.proofs.Common.{List, sym, subst}
use Rattle.std.specs.Prelude.{IfOk}
use Rattle.ipfix_elements.specs.Writers.{Writes}
use Rattle.command_elements.specs.Listed.{Listed}
use Rattle.command_elements.specs.Searches.{Shows}
use Rattle.command_elements.proofs.BuiltIn.{at_number}
use Rattle.command_elements.proofs.listing.write_number.Goals as goal

pub returns-in-Some : goal.returns-in-Some
returns-in-Some g c =
    let is = at_number c.iana-element.result c.args.number c.in-Some.name.now c.kind_of.result c.iana-element.ensures c.in-Some.ensures c.kind_of.ensures in
    subst (λ (ks : List Listed). IfOk c.write_if_fits.result (Shows c.args.search.now ks (Writes g.W.Write.contents c.args.out.now c.write_if_fits.new.out))) (sym is) c.write_if_fits.ensures
