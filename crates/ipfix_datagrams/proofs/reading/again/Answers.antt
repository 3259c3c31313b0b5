use Rattle.std.proofs.Common.{◌≡◌, Some, ap, ◌∙◌, rules}
use Rattle.std.specs.BTreeMap.{get}
use Rattle.std.specs.Ordering.{nat_cmp}
use Rattle.ipfix_datagrams.proofs.DefinedAgain.{again_in}
use Rattle.ipfix_datagrams.proofs.DataSets.{ids_of}
use Rattle.ipfix_datagrams.proofs.reading.again.Goals as goal

pub returns-clause-again : goal.returns-clause-again
returns-clause-again c = λ ds m keeps sets id.
    let found : get nat_cmp c.args.known.now.withdrawn c.args.domain ≡ Some c.in-Some.templates.now = search rules in
    let ids = c.deref.ensures.value ∙ c.in_ok-ids.ensures ∙ ap ids_of sets.octets in
    c.in_ok-defined.ensures id
    ∙ again_in c.args.barred.now ds m c.args.domain c.args.known.now.withdrawn c.in-Some.templates.now c.args.first.now c.deref.result.now keeps.withdrawn found ids sets.defines id
