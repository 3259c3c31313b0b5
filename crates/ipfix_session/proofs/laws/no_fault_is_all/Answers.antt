use Rattle.ipfix_session.proofs.Driven.{given_all_of}
use Rattle.ipfix_session.proofs.laws.no_fault_is_all.Goals as goal

pub returns : goal.returns
returns g c = λ limit before after r records text. given_all_of g.S.Source.seen limit before after r records text (g.met.S.Source.ended_is_end after)
