use Rattle.std.proofs.Common.{◌≡◌, ◌∷◌, ◌++◌, sym, subst, rules}
use Rattle.ipfix_message.specs.declared.record.Template.{Template}
use Rattle.report_sessions.specs.FirstElements.{KeepsFirst}
use Rattle.report_sessions.specs.UnnamedElements.{unnamed_in}
use Rattle.report_sessions.proofs.Once.{keeps_template}
use Rattle.report_sessions.proofs.unnamed.add_of_templates.Goals as goal

pub loop-known-preserved : goal.loop-known-preserved
loop-known-preserved c = λ all coming k.
    let step : c.loop-known.known-iterator ≡ c.in-Some.known.now ∷ c.next.new.self = search rules in
    keeps_template c.args.elements.now all c.loop-known.kept c.add_of_template.new.kept c.in-Some.known.now c.loop-known.known-iterator c.next.new.self coming step
    (λ more had. c.add_of_template.ensures all more
    (subst (λ (t : Template). KeepsFirst c.loop-known.kept all (unnamed_in c.args.elements.now t ++ more)) (sym c.template.ensures) had)) (c.loop-known.invariant all coming k)
