use Rattle.std.proofs.Common.{ℕ, List, subst}
use Rattle.report_writing.specs.Writing.{Tells}
use Rattle.input_sources.specs.ScalingLines.{fault_with}
use Rattle.input_sources.proofs.scaling_fault.write_scaling_fault.Goals as goal

pub returns : goal.returns
returns g c =
    subst (λ (words : List ℕ). Tells g.W.WriteLines.lines c.args.out.now c.write_with.new.out c.write_with.result (fault_with words)) c.words_of.ensures c.write_with.ensures
