use Rattle.std.proofs.Common.{ℕ, sym, ap, subst, ◌∙◌}
use Rattle.std.specs.Prelude.{nat_eq, option_copied, option_map}
use Rattle.std.specs.BTreeMap.{BTreeMap}
use Rattle.std.specs.Map.{lookup}
use Rattle.ipfix_message.specs.declared.record.Template.{Template}
use Rattle.ipfix_message.specs.Domains.{DomainsView, StandsFor}
use Rattle.ipfix_message.specs.Kept.{kept}
use Rattle.ipfix_message.proofs.History.{lookup-kept, templates_for}
use Rattle.ipfix_message.proofs.domains.Domains.templates.Goals as goal

pub returns-clause-entries : goal.returns-clause-entries
returns-clause-entries c = λ fresh.
    ap (option_map (λ (m : BTreeMap ℕ Template). m.entries)) c.get.ensures.value
    ∙ sym (lookup-kept c.args.domain c.self.inside.known.entries) ∙ ap (λ (s : DomainsView). lookup (nat_eq c.args.domain) s.domains) c.self.view_is

pub returns-clause-found : goal.returns-clause-found
returns-clause-found c = λ fresh ds stands id.
    let inside : StandsFor (kept c.self.inside.known.entries) ds = subst (λ (s : DomainsView). StandsFor s.domains ds) (sym c.self.view_is) stands in
    templates_for c.self.inside.known.entries ds c.args.domain id (option_copied c.get.result) inside (sym c.get.ensures.value)
