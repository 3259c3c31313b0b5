use Rattle.laws_messages.proofs.Messages.{decode-found, decode-only}
use Rattle.laws_messages.proofs.laws.decode_reads_what_is_spelled.Goals as goal

pub returns-clause-found : goal.returns-clause-found
returns-clause-found c = decode-found

pub returns-clause-only : goal.returns-clause-only
returns-clause-only c = λ ds m x fits r kept. decode-only ds m x r kept fits
