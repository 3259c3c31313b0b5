use Rattle.std.proofs.Common.{◌≡◌, Some, None, sym, ap, subst, ◌∙◌, rules}
use Rattle.std.specs.Prelude.{nat_eq}
use Rattle.std.specs.Ordering.{nat_cmp}
use Rattle.std.specs.BTreeMap as tree
use Rattle.indexmap.specs.IndexMap.{get}
use Rattle.ipfix_message.specs.declared.record.Template.{Template}
use Rattle.ipfix_message.specs.Domains.{DomainsView, StandsFor}
use Rattle.ipfix_message.specs.Kept.{kept}
use Rattle.ipfix_message.proofs.History.{template_for-none, template_for-some}
use Rattle.ipfix_message.proofs.domains.Domains.lookup.Goals as goal

pub returns-in_err-templates-clause-found : goal.returns-in_err-templates-clause-found
returns-in_err-templates-clause-found c = λ fresh ds stands.
    let inside : StandsFor (kept c.self.inside.known.entries) ds = subst (λ (s : DomainsView). StandsFor s.domains ds) (sym c.self.view_is) stands in
    let none : get nat_eq c.self.inside.known c.args.domain ≡ None = search rules in
    rw c.from_residual.ensures (sym (template_for-none c.self.inside.known.entries ds c.args.domain c.args.id inside none))

pub returns-in_err-known-clause-found : goal.returns-in_err-known-clause-found
returns-in_err-known-clause-found c = λ fresh ds stands.
    let inside : StandsFor (kept c.self.inside.known.entries) ds = subst (λ (s : DomainsView). StandsFor s.domains ds) (sym c.self.view_is) stands in
    let some : get nat_eq c.self.inside.known c.args.domain ≡ Some c.in_ok-templates.templates.now = search rules in
    let none : tree.get nat_cmp c.in_ok-templates.templates.now c.args.id ≡ None = search rules in
    rw c.from_residual-in_err-known.ensures (sym (template_for-some c.self.inside.known.entries ds c.args.domain c.args.id c.in_ok-templates.templates.now inside some ∙ none))

pub returns-clause-found : goal.returns-clause-found
returns-clause-found c = λ fresh ds stands.
    let inside : StandsFor (kept c.self.inside.known.entries) ds = subst (λ (s : DomainsView). StandsFor s.domains ds) (sym c.self.view_is) stands in
    let some : get nat_eq c.self.inside.known c.args.domain ≡ Some c.in_ok-templates.templates.now = search rules in
    let found : tree.get nat_cmp c.in_ok-templates.templates.now c.args.id ≡ Some c.in_ok-known.known.now = search rules in
    sym (template_for-some c.self.inside.known.entries ds c.args.domain c.args.id c.in_ok-templates.templates.now inside some ∙ found ∙ ap (λ (t : Template). Some t) (sym c.template.ensures))
