use Rattle.flow_collect.proofs.InFull.{full_each}
use Rattle.flow_collect.proofs.laws.full_reports_are_of_the_octets.Goals as goal

pub returns : goal.returns
returns g c = λ sources plan pool c h gave t. full_each g.S.Source.seen sources c.sources.items c.sessions.items h.records gave h.given t
