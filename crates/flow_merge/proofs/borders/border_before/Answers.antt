use Rattle.std.proofs.Common.{Err, arith}
use Rattle.flow_merge.proofs.AroundBorders.{Found, between_borders, found_behind}
use Rattle.flow_merge.proofs.borders.border_before.Goals as goal

pub returns-in-Err-eq0-clause-none : goal.returns-in-Err-eq0-clause-none
returns-in-Err-eq0-clause-none c = λ none k inside.
    let at : Found c.args.borders.now c.args.time (Err c.in-Err-eq0.field-0) = found_behind c.args.borders.now c.args.time c.in-Err-eq0.field-0 c.requires c.in-Err-eq0.ensures.position in
    at.2 k (omega (arith, c.in-Err-eq0.field-0-is)) inside

pub returns-in-Err-clause-some : goal.returns-in-Err-clause-some
returns-in-Err-clause-some c =
    let at : Found c.args.borders.now c.args.time (Err c.in-Err.index) = found_behind c.args.borders.now c.args.time c.in-Err.index c.requires c.in-Err.ensures.position in
    between_borders c.args.borders.now c.args.time c.in-Err.index (omega (arith, c.in-Err.index-test)) at.0 at.1 at.2
