use Rattle.std.proofs.Common.{Some}
use Rattle.ipfix_session.proofs.Reaching.{text_fits}
use Rattle.ipfix_session.proofs.Limited.{text_is_first}
use Rattle.ipfix_session.proofs.laws.templates_are_within.Goals as goal

pub returns-clause-within : goal.returns-clause-within
returns-clause-within c = λ limit text. text_fits (Some limit) text

pub returns-clause-first : goal.returns-clause-first
returns-clause-first c = text_is_first
