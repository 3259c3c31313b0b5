use Rattle.std.proofs.Common.{sym, subst}
use Rattle.ipfix_message.specs.Domains.{DomainsView, StandsFor}
use Rattle.ipfix_message.specs.Kept.{kept}
use Rattle.ipfix_message.proofs.domains.Domains.is_left_within.Goals as goal

pub returns-then-may_add : goal.returns-then-may_add
returns-then-may_add c = λ ds stands fits.
    let inside : StandsFor (kept c.self.inside.known.entries) ds = subst (λ (s : DomainsView). StandsFor s.domains ds) (sym c.self.view_is) stands in
    c.are_within.ensures ds inside
