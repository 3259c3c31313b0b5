use Rattle.std.proofs.Common.{◌≡◌, true, is_some, sym, ap, subst, ◌∙◌, rules}
use Rattle.std.specs.Prelude.{nat_eq}
use Rattle.indexmap.specs.IndexMap.{get}
use Rattle.ipfix_message.specs.Domains.{DomainsView, StandsFor}
use Rattle.ipfix_message.specs.Kept.{kept}
use Rattle.ipfix_message.specs.Sets.{has_template_set}
use Rattle.ipfix_message.proofs.TemplateLimits.{nothing_added}
use Rattle.ipfix_message.proofs.domains.Domains.may_add.Goals as goal

pub returns-then-contains_key : goal.returns-then-contains_key
returns-then-contains_key c = λ ds x stands none read.
    let inside : StandsFor (kept c.self.inside.known.entries) ds = subst (λ (s : DomainsView). StandsFor s.domains ds) (sym c.self.view_is) stands in
    let there : is_some (get nat_eq c.self.inside.known c.args.header.now.domain) ≡ true = search rules in
    nothing_added c.self.inside.known.entries ds c.args.message.now c.args.header.now x c.requires inside there
    (ap has_template_set (sym c.after_header.ensures.octets) ∙ sym c.has_template_set.ensures ∙ none) read
