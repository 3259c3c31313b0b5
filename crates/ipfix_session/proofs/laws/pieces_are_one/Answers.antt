use Rattle.ipfix_session.proofs.Pieces.{feeds_then, feeds_more}
use Rattle.ipfix_session.proofs.laws.pieces_are_one.Goals as goal

pub returns-clause-both : goal.returns-clause-both
returns-clause-both g c = λ limit text piece more r before after last turn. feeds_then g.K.Sink.seen limit turn.between last text piece more before turn.middle after tt r turn.piece_fed turn.more_fed

pub returns-clause-fault : goal.returns-clause-fault
returns-clause-fault g c = λ limit text piece more last before after f. feeds_more g.K.Sink.seen limit last text piece more before after f
