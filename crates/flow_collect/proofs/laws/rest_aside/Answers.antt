use Rattle.std.proofs.Common.{map, refl}
use Rattle.flow_collect.specs.Contexts.{alone}
use Rattle.flow_collect.proofs.InFull.{headline_short}
use Rattle.flow_collect.proofs.laws.rest_aside.Goals as goal

pub returns : goal.returns
returns g c = λ sources plan pool c short h w. headline_short g.S.Source.seen sources (map alone sources) plan pool c short refl h w
