use Rattle.std.proofs.Common.{◌≡◌, ◌∙◌, true, leb, sym, rules}
use Rattle.recording_order.specs.Arrivals.{octets_of}
use Rattle.recording_order.proofs.Keeping.{fitting-fits}
use Rattle.recording_order.proofs.last.fit.Goals as goal

pub returns : goal.returns
returns c =
    let fits : true ≡ leb (octets_of c.loop-last.last.items) c.args.room = search rules in
    sym (fitting-fits c.args.room c.loop-last.last.items fits) ∙ c.loop-last.invariant
