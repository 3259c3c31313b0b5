use Rattle.ipfix_session.proofs.Balances.{balances}
use Rattle.ipfix_session.proofs.laws.ledger_balances.Goals as goal

pub returns : goal.returns
returns c = λ ms domain keeps. balances ms domain keeps
