use Rattle.ipfix_message.proofs.History.{bad_header}
use Rattle.ipfix_message.proofs.domains.Domains.decode.Goals as goal

pub returns-in-Err-clause-gives : goal.returns-in-Err-clause-gives
returns-in-Err-clause-gives c = λ fresh ds stands. bad_header c.in-Err.fault ds c.args.message.now c.in-Err.ensures.gives
