use Rattle.laws_messages.proofs.Positive.{message_keeps, in_force_is}
use Rattle.laws_messages.proofs.laws.templates_are_positive.Goals as goal

pub returns-clause-kept : goal.returns-clause-kept
returns-clause-kept c = λ es positive h sets m octets message. message_keeps es h sets m octets message positive

pub returns-clause-in_force : goal.returns-clause-in_force
returns-clause-in_force c = λ es positive t in_force. in_force_is es t positive in_force
