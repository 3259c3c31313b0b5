use Rattle.std.proofs.Common.{refl}
use Rattle.report_sessions.proofs.Once.{keeps_spec}
use Rattle.report_sessions.proofs.unnamed.add_of_template.Goals as goal

pub loop-spec-preserved : goal.loop-spec-preserved
loop-spec-preserved c = λ all coming k.
    keeps_spec c.args.elements.now all c.loop-spec.kept c.add_if_unnamed.new.kept c.as_slice-specs.result.now c.loop-spec.spec-index _
    (record { element = record { pen = 0; number = 0 }; width = 0 }) coming c.loop-spec-test.true refl c.add_if_unnamed.ensures (c.loop-spec.invariant all coming k)
