use Rattle.std.proofs.Common.{◌≡◌, sym, ◌∙◌}
use Rattle.flow_table.specs.declared.method.Method.TheVariants.{Uniform}
use Rattle.flow_table.proofs.FlowIntervals.{even_at}
use Rattle.flow_table.proofs.sharing.share_at.Goals as goal

pub returns-in-Uniform : goal.returns-in-Uniform
returns-in-Uniform c =
    let uniform : c.args.plan.now.method ≡ Uniform = sym c.method.ensures ∙ c.in-Uniform.is in
    c.even_share.ensures ∙ even_at c.args.plan.now c.args.flow c.args.value c.args.interval c.requires.sound uniform c.args.flow.span.forward c.requires.intervals c.requires.within
