use Rattle.std.proofs.Common.{List, [], Option, Some, length, ltb, take, sym, ap₂, ◌∙◌}
use Rattle.std.specs.List.{flat_map}
use Rattle.ipfix_message.specs.Domains.{DomainsView}
use Rattle.ipfix_session.specs.declared.report.DomainReport.{DomainReport}
use Rattle.ipfix_wire.specs.declared.specifier.ElementId.{ElementId}
use Rattle.report_sessions.specs.UnnamedElements.{each_once, templates_at, unnamed_in}
use Rattle.report_sessions.proofs.Once.{keeps_from}
use Rattle.report_sessions.proofs.unnamed.first_unnamed.Goals as goal

pub returns-clause-first : goal.returns-clause-first
returns-clause-first c =
    let of : Option DomainsView → List DomainReport → List ElementId = λ d reports. flat_map (unnamed_in c.args.elements.now) (templates_at d reports) in
    let all = of (Some c.in-Some.domains) c.deref.result.now in
    let kept = keeps_from c.new-kept.result c.add_of_domains.new.kept all c.new-kept.ensures.first c.new-kept.ensures.more (c.add_of_domains.ensures all []) in
    kept.0 ∙ ap₂ (λ (d : Option DomainsView) (reports : List DomainReport). take 64 (each_once (of d reports))) (sym c.in-Some.is) c.deref.ensures.value

pub returns-clause-more : goal.returns-clause-more
returns-clause-more c =
    let of : Option DomainsView → List DomainReport → List ElementId = λ d reports. flat_map (unnamed_in c.args.elements.now) (templates_at d reports) in
    let all = of (Some c.in-Some.domains) c.deref.result.now in
    let kept = keeps_from c.new-kept.result c.add_of_domains.new.kept all c.new-kept.ensures.first c.new-kept.ensures.more (c.add_of_domains.ensures all []) in
    kept.1 ∙ ap₂ (λ (d : Option DomainsView) (reports : List DomainReport). ltb 64 (length (each_once (of d reports)))) (sym c.in-Some.is) c.deref.ensures.value
