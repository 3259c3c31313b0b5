use Rattle.flow_collect.proofs.InFull.{balanced_each}
use Rattle.flow_collect.proofs.laws.ledgers_balance.Goals as goal

pub returns : goal.returns
returns g c = λ sources plan pool c h. balanced_each g.S.Source.seen sources c.sources.items c.sessions.items h.records h.given
