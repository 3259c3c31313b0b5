use Rattle.std.proofs.Common.{◌≡◌, ℕ, List, [], ◌∷◌, Some, None, sym, ap, subst, ◌∙◌, rules}
use Rattle.std.specs.Prelude.{nat_eq}
use Rattle.std.specs.BTreeMap.{BTreeMap}
use Rattle.indexmap.specs.IndexMap.{get, insert_entry}
use Rattle.ipfix_message.specs.declared.record.Template.{Template}
use Rattle.ipfix_message.specs.Domains.{DomainsView, StandsFor}
use Rattle.ipfix_message.specs.Kept.{kept}
use Rattle.ipfix_message.proofs.History.{stands_alone, stands_alone-none}
use Rattle.ipfix_message.proofs.domains.Domains.alone.Goals as goal

pub returns-in_default-clause-templates : goal.returns-in_default-clause-templates
returns-in_default-clause-templates c = λ ds stands.
    let inside : StandsFor (kept c.self.inside.known.entries) ds = subst (λ (s : DomainsView). StandsFor s.domains ds) (sym c.self.view_is) stands in
    let none : get nat_eq c.self.inside.known c.args.domain ≡ None = search rules in
    rw c.new-known.ensures.empty (stands_alone-none c.self.inside.known.entries ds c.args.domain inside none)

pub returns-clause-templates : goal.returns-clause-templates
returns-clause-templates c = λ ds stands.
    let inside : StandsFor (kept c.self.inside.known.entries) ds = subst (λ (s : DomainsView). StandsFor s.domains ds) (sym c.self.view_is) stands in
    let some : get nat_eq c.self.inside.known c.args.domain ≡ Some c.in-Some.templates.now = search rules in
    let is : c.insert.new.self.entries ≡ (c.args.domain, c.in_ok-copy.copy) ∷ [] =
    c.in_ok-insert.ensures.entries ∙ ap (λ (es : List (ℕ × BTreeMap ℕ Template)). insert_entry nat_eq es c.args.domain c.in_ok-copy.copy) c.new-known.ensures.empty in
    rw is (stands_alone c.self.inside.known.entries ds c.args.domain c.in-Some.templates.now c.in_ok-copy.copy inside some c.in_ok-copy.ensures.cases)
